-- What a line that is coming in stands for, and what reading on makes of it.
pub mod Cutting
