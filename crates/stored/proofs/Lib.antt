-- Laws of what is stored, for the proofs of this crate and of its callers.

-- the bits of a mask
pub mod Masks
-- a link and a label, read back from their bytes
pub mod Back
