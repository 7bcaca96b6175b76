-- The laws, in the order in which they rest on each other.
-- the numbers with one next step, and what a table says of them
pub mod Numbered
-- the numbers over the next steps in turn, without a table
pub mod Turns
-- the numbers behind the last running thread, and its schedule
pub mod LastNumbers
-- the first failing schedule with one next step, and what marks say of it
pub mod FirstFound
-- the first failing schedule over the next steps in turn, without marks
pub mod SoughtTurns
-- from the start, with a table that says nothing: the count of the list, and its first failing member
pub mod FromStart
