-- How arrays and answers hold what the definitions say, in reading order.
-- a prefix of a run with the ways of its threads; for the code
pub mod Stands
-- the values of a key as the code gathers them; for the code
pub mod Gathered
