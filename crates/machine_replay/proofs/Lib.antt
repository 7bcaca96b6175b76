-- The laws, in the order in which they rest on each other.
-- a schedule carried out
pub mod HeldReplay
-- what its verdict says of its replay
pub mod Verdicts
