-- The laws, in the order in which they rest on each other.
-- a thread's rows gone through once
pub mod Passing
