-- Laws of rows, of the pass and of columns, for the crates that count and that cost.

-- rows that a loop fills value by value
pub mod Filling
-- rows that are made at once, value by value
pub mod Made
-- the pass up, plot by plot
pub mod Pass
-- rows by position, read newest first
pub mod Newest
-- the own rows of the plots
pub mod Own
-- what holds of every row once the pass is done, and rows past the classes of each plot
pub mod Each
pub mod Past
-- the columns of a table
pub mod Columns
-- rows that a loop over the classes changes
pub mod Classes
