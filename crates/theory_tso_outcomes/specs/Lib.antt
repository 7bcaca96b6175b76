-- What the search for an outcome goes by under total store order; no promise rests on it.
-- the key of a position with whether something failed, and what is found behind one
pub mod Passing
