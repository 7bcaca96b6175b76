-- What a reader of this crate must believe, in reading order.
-- the outcome of a full schedule, and when a program covers another
pub mod Covers
-- what the call over two files answers
pub mod Answer
