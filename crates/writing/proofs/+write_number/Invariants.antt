-- `writing::write_number` meets its contract. What is left of the number gets smaller.
use Rattle.writing.proofs.+write_number.Given as goal

abbrev pub decreases-write_number : goal.decreases-write_number
decreases-write_number l = l.n
