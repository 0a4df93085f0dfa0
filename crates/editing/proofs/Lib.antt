-- Laws of the edits, for the proofs of this crate and of its callers.

-- what the edits leave
pub mod Edited
