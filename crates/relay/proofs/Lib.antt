-- Laws of what is sent, for the proofs of this crate: of a piece, call by call, of all pieces, read by read, and at the end of the input.
pub mod Sending
