-- How arrays and answers hold what the definitions say, in reading order.
-- the first so many outcomes of a program, in words and in an output; for the code
pub mod Gathered
-- what a table says while outcomes are looked for, in either memory model; for the code
pub mod Marks
