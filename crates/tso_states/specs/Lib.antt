-- How arrays and answers hold what the definitions say, in reading order; for the code.
-- what a spot may stand for
pub mod Position
-- what a table of a program's keys may say
pub mod Known
-- what a walk needs of a program
pub mod Made
