-- Laws of lines, for the proofs of this crate and of its callers.

-- each number behind a comma, one more at a time
pub mod Each
-- how long fields and lines are
pub mod Lengths
