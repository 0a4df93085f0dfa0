-- What stored bytes stand for.
pub mod Values
pub mod Examples
