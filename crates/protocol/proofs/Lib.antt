-- What the rows of a T line say together.
pub mod Rows
