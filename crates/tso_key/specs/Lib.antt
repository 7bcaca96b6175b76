-- What a reader of this crate must believe, in reading order; for the code.
-- a prefix of a run with the ways of its threads
pub mod Stands
-- nearness from arrays
pub mod Carried
