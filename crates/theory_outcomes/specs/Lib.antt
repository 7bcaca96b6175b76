-- What the search for an outcome goes by, in reading order; no promise rests on it.
-- a test of where a run ends, as something that its last step brings about
pub mod Ending
-- in any memory model: what is found behind a position, and a key with whether something failed
pub mod Outcomes
-- in any memory model: outcomes gathered by a walk
pub mod Gathering
-- the same under sequential consistency
pub mod Passing
