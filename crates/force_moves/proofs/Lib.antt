-- The laws, in the order in which they rest on each other.
-- sides as flags
pub mod Flags
-- where the assertions of each thread end
pub mod TailLaws
-- a play one step further
pub mod Steps
-- the two moves
pub mod Moves
-- a play with a table
pub mod Turns
