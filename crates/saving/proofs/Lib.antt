-- Laws of the text of a network, for the proofs of this crate and of its callers.

-- texts one behind the other, as a loop writes them or adds up their lengths
pub mod UpTo
-- the text of a network is that of its entries
pub mod Whole
-- numbers that are converted
pub mod Rows
-- what a table or a plot has in the text, by what was read of it
pub mod Entries
-- what stands in a sound state is within the arrays
pub mod Stands
