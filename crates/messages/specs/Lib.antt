-- What counts and costs share: rows of values by position, the pass over them, and the columns of bits of tables.
pub mod Rows
pub mod Pass
pub mod Columns
