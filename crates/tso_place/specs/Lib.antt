-- What a reader of this crate must believe, in reading order.
-- a prefix of a run as the search holds it; for the code
pub mod Reached
-- a thread whose move could be far; for the code
pub mod Farther
