-- The laws, in the order in which they rest on each other.
-- the ways behind a step, and whether it failed
pub mod NextSpot
-- the numbers with one next step, and what a table says of them
pub mod Numbered
-- the first failing schedule with one next step, and what marks say of it
pub mod FirstFound
-- from the start, with a table that says nothing: the count of the list, and its first failing member
pub mod FromStart
