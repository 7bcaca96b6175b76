-- How arrays and answers hold what the definitions say, in reading order.
-- what a table of this program's keys may say; for the code
pub mod Known
-- what a walk needs of a program; for the code
pub mod Made
