-- Laws of the tallies, for the proofs of this crate.

-- how far a sum over the tallies has come
pub mod Sums
-- the tallies with one changed
pub mod Tallying
