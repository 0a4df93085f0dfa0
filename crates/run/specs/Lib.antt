-- What a run still prints, and what each call prints of it.
pub mod Runs
pub mod Whole
-- a run that can go on
pub mod Sound
