-- Laws of reading on, for the proofs of this crate and of its callers.

-- the lines that the engine gets: the first one cut off, ended, or the last of the input
pub mod Lines
-- the lines that byte 10 ends, and where they are found in a piece
pub mod Ended
-- what reading on means for those lines, and what a caller needs to read on again
pub mod Cutting
