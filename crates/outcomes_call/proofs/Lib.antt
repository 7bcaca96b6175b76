-- The laws, in the order in which they rest on each other.
-- the list walked for its firsts
pub mod Walked
-- a page of one row
pub mod OneRow
-- what was gathered is the page
pub mod Pages
