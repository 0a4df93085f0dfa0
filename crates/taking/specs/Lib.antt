-- What a line, and the lines of a piece, leave of the whole struct, answer and print.
pub mod Lines
pub mod Pieces
