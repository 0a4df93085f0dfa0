-- The refusals by number.
pub mod Refusals
