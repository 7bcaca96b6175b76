-- The laws, in the order in which they rest on each other.
-- How the decoder's functions meet the definitions.
-- the sixteen bytes of a row, as they stand in the code
pub mod Rows
-- stretches of the code that agree
pub mod Agree
-- lists by their members' numbers
pub mod Tabulate
-- bytes written one after the other
pub mod Written
