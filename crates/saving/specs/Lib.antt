-- The text of a network, read off by position.
pub mod Texts
