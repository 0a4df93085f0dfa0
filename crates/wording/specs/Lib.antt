-- The text of the lines that are written here, and the room that they and their fields take.
pub mod Lines
pub mod Room
