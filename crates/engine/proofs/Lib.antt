-- What the calls do, put together from what their parts do; and the three demands.

-- one line
pub mod Stepping
-- the end of the input, the book as text, and counts asked for
pub mod OtherCalls
-- what lists of calls lead to, and the three demands
pub mod Demands
-- which tally a line moves, and that all add up to the lines taken (02: U5)
pub mod Tallies
-- the text of the book: read back, equal for equal books, and how long it is (02: U1)
pub mod Texts
-- how long the answer of R is (02: U4)
pub mod Lengths
