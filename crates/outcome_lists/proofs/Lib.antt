-- The laws, in the order in which they rest on each other.
-- the outcome of a schedule that was carried out
pub mod Replays
-- whether a schedule has an outcome, as the code compares them
pub mod Same
-- a row of a page read off
pub mod RowRead
-- how many rows a page has room for
pub mod Room
-- the first listed schedule that passes a test, row after row and page after page
pub mod Walked
