-- What the functions of this crate answer.
pub mod Costs
pub mod Keys
pub mod Answer
