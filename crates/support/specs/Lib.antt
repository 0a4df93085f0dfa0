-- What the functions of this crate answer.
pub mod Paths
pub mod Beliefs
