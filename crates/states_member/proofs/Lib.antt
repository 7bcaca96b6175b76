-- The laws, in the order in which they rest on each other.
-- the numbers with one next step are exact
pub mod Exact
-- the member number i with one next step, and over the next steps in turn
pub mod Choices
-- the member number k, step by step
pub mod Descent
-- how many have a smaller next step, and whether a step is given up
pub mod Smaller
-- how many are smaller than a schedule, step by step
pub mod Ranks
-- from the start, with a table that says nothing: the list's members and their numbers
pub mod FromStart
