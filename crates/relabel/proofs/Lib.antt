-- Laws of the costs, for the proofs of this crate and of its callers.

-- costs stay below the number that says that they can't be paid
pub mod Bounds
-- the passes give the relabelling
pub mod Chosen
-- a class with its cost in one number, what bars it, and what the least of a row says
pub mod LeastKey
pub mod Bars
pub mod Keyed
-- the offers that are kept say what the passes give
pub mod Offers
-- the pass up makes them
pub mod Gathering
-- the classes chosen, by position
pub mod ByPosition
-- an offer, class by class
pub mod Offered
