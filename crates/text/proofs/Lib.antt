-- Laws of the definitions that the contracts cite, for the proofs of this crate and of its callers.

-- the fields of a line: how many, and the first one with those behind it
pub mod Lines
-- bytes as numbers, and back
pub mod Words
-- ids in their slots and as two numbers: padded, trimmed, compared, and read back
pub mod Ids
