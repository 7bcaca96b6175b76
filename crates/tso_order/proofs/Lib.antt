-- The laws, in the order in which they rest on each other.
-- what a next step would do, off the arrays
pub mod HeldDeeds
-- whether it has to wait, as the code asks
pub mod Asked
-- sets of threads behind a step
pub mod Choices
