-- Laws of a run, for the proofs of this crate and of its callers.

-- lines that are taken one after the other: behind a text, and that they go on
pub mod Taking
-- how long what a line prints can be
pub mod Short
-- a part of the buffer that goes to a call and comes back
pub mod Parts
-- a line that is handed in alone, with byte 10 behind it
pub mod Alone
-- what a run still prints: an unused run, and the line that is coming in
pub mod Prints
-- a piece of the input: what it prints and leaves, and what that means for what is still to come
pub mod Pieces
-- what lines make of a state, by what is told of it at the end
pub mod Made
-- the end of the input
pub mod Finished
-- a whole run: what all calls print of an input that comes in pieces
pub mod Whole
-- a run that can go on
pub mod Sound
