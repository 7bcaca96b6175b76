-- How arrays and answers hold what the definitions say, in reading order.
-- outcomes in words, and which are known; for the code
pub mod Rows
-- what a table says while outcomes are looked for; for the code
pub mod Swept
-- outcomes gathered by a walk; for the code
pub mod Gathered
