-- What a reader of this crate must believe, in reading order.
-- the class call's answer as the code gives it
pub mod ClassWord
-- where each thread may go, read off the notes of a run; for the functions of this crate
pub mod Moves
