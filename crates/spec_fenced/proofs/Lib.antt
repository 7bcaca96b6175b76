-- The laws, in the order in which they rest on each other.
-- fenced code stays fenced along a run; code without a store is fenced
pub mod Codes
-- a thread of sequential consistency that has the pending stores still to do
pub mod Lagging
-- sequential consistency follows total store order, each store at its flush
pub mod Following
-- robust by the code
pub mod Robust
-- the conditions computed, and a fenced program
pub mod Examples
