-- The laws, in the order in which they rest on each other.
-- a row judged
pub mod RowJudged
-- the answer that was found in the list
pub mod Walked
-- what the call answers
pub mod Called
