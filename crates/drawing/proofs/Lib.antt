-- What is drawn, for the proofs of this crate; and what U3 promises of it.

-- the rows of the table, the ids of the plots, a plot more
pub mod Rows
pub mod Ids
pub mod Plots
-- a network that is being drawn
pub mod Begun
-- what is answered where its text is asked for, and what is printed
pub mod Answering
-- the text is read in, for every start and number of plots (02: U3)
pub mod ReadIn
