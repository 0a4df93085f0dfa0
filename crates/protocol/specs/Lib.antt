-- What a line stands for, or the refusal in its place.
pub mod Lines
