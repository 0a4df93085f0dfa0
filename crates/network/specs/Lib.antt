-- What the structs of this crate stand for, and what its functions answer and leave.
pub mod View
pub mod Found
pub mod Marks
pub mod Unused
pub mod Reach
pub mod Sound
