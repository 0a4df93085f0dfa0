-- What each edit leaves.
pub mod Edits
