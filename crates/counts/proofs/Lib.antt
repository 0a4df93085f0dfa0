-- Laws of the counts, for the proofs of this crate and of its callers.

-- tables spread to columns of bits
pub mod Spread
-- what a plot contributes: counts times bits, added up
pub mod Sums
