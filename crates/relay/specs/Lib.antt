-- What is owed between the reads and the writes.
pub mod Sending
