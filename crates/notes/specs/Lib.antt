-- What the structs of this crate stand for.
pub mod Views
-- what one line more leaves of them
pub mod Tallied
