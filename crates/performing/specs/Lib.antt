-- What a line leaves of the struct, answers and writes.
pub mod Performed
pub mod Performing
