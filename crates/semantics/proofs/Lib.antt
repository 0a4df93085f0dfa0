-- Laws about the definitions of specs/, each stated once: what the proofs of the engine cite.

-- lists, sums and the least of a list
pub mod Lists
pub mod Rising
pub mod Sums
pub mod Least
-- assignments in any order and in that of preference, weights, and the numbers that are held
pub mod Listing
pub mod Preference
pub mod Weights
pub mod Rows
pub mod Held
-- counting and choosing by taking the newest plot away
pub mod Counting
pub mod Supports
pub mod Choice
-- what is found: belief, and the relabelling among all choices of labels
pub mod Beliefs
pub mod Resolution
-- the rules of a network, one line more in the tallies, and that no line breaks the rules
pub mod Places
pub mod Rules
pub mod Tallies
pub mod Kept
pub mod TableBits
pub mod Passes
-- numbers in base ten: their digits, how many there are, and that they are read back
pub mod Decimals
-- lines that are written and read back
pub mod ReadBack
pub mod Restored
pub mod ShortLines
pub mod Saved
pub mod AnswerText
pub mod ReadAgain
-- networks that are drawn
pub mod Drawn
