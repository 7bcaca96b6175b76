-- The laws, in the order in which they rest on each other.
-- what the graph call answers, by what carrying out the schedule left
pub mod Called
