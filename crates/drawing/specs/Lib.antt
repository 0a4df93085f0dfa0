-- What the draws of a network leave, and what is answered where its text is asked for.
pub mod Drawn
