-- The relabel list, read off by position.
pub mod Changes
-- how much room the end of the input takes
pub mod Room
