-- What a reader of this crate must believe, in reading order.
-- what the covers call leaves in the scratch that it is lent
pub mod Scratch
-- the outcomes of a program, each by the first listed schedule that has it
pub mod Firsts
-- what the call that gives them answers, on a program and on a file
pub mod OutcomesCall
-- what is promised of it
pub mod Outcomes
