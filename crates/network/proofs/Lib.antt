-- Laws of the definitions that the contracts cite, for the proofs of this crate and of its callers.

-- what a struct stands for: its tables and plots by position, and how the view of another struct differs
pub mod Views
-- what a struct tells of itself where its view keeps the rules
pub mod Standing
-- what a loop over the plots may rely on: where links lead, and how many classes there are
pub mod Reach
-- the rules of what stands: tables, and plots from the newest on
pub mod Ruled
-- the marks of ids: one that isn't marked is new
pub mod Marks
