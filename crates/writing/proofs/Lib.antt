-- Laws of the definitions that the contracts cite, for the proofs of this crate and of its callers.

-- bytes written into a buffer: one by one, one piece after another, and what a part of it holds then
pub mod Writes
-- a part of a buffer that goes to a call and comes back with bytes at its front
pub mod Parts
-- texts written on a page one behind the other
pub mod Pages
