-- The laws that the functions' proofs cite.
-- ways along a run
pub mod Standing
-- nearness from arrays
pub mod LedBack
-- ways as far as eight accesses go
pub mod LowWays
-- digits from the last on
pub mod Digits
-- arrays filled one place after the other
pub mod Filled
-- the key of a spot
pub mod Whole
