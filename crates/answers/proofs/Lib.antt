-- Laws of the answers, for the proofs of this crate and of its callers.

-- the text of the relabel list, entry by entry
pub mod Entries
-- the relabel list by position is that of the assignment
pub mod Listed
-- how long the answers can be
pub mod Lengths
-- the lines of the scanners, one more at a time
pub mod Tallies
