-- Laws of what lines leave, for the proofs of this crate and of its callers.

-- the struct that a line leaves stands for the network that the definitions say, and keeps the rules
pub mod Leaving
-- what a refusal and an edit come to
pub mod Editing
-- what `?` hands on
pub mod Refusing
-- C and R: what was found decides between the refusal and the answer
pub mod Asking
-- what is printed for an answer
pub mod Printing
