-- Laws of the counts, for the proofs of this crate and of its callers.

-- the classes whose counts aren't zero, one after the other
pub mod Beliefs
-- zeros past a plot's classes
pub mod Zeros
-- what goes through spread tables
pub mod Through
-- the pass up and the path down give the supports
pub mod Counted
-- what the answer says, for who reads it
pub mod Answers
