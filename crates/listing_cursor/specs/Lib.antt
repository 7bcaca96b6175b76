-- What a reader of this crate must believe, in reading order.
-- the size of a row, and rows that stand over the front of a buffer
pub mod Rows
-- a schedule that a search answers in fixed memory, or none; for the code
pub mod Steps
-- a cursor in a list, and pages of it
pub mod Cursor
-- a search's bound, step by step; for the code
pub mod Bounds
-- what a search adds to the rows in its output; for the code
pub mod Walked
-- the list by rows and by pages, in any memory model
pub mod ListRows
