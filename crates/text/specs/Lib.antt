-- What the functions of this crate answer and leave, with the definitions of `semantics`.
pub mod Lines
pub mod Numbers
pub mod Ids
pub mod Examples
