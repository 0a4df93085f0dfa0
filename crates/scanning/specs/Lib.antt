-- The place of a byte, as a definition that computes.
pub mod Places
