-- The laws, in the order in which they rest on each other.
-- a schedule with an outcome passes the test of it
pub mod Same
-- the first so many of an ascending list
pub mod Taken
-- each outcome has exactly one first; the one behind k of them
pub mod Firsts
-- all that is promised of the call
pub mod Outcomes
