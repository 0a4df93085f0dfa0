-- `writing::number_length` meets its contract. What is left of the number gets smaller.
use Rattle.writing.proofs.+number_length.Given as goal

abbrev pub decreases-number_length : goal.decreases-number_length
decreases-number_length l = l.n
