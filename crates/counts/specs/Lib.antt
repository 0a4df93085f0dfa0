-- What the functions of this crate answer.
pub mod HeldRows
