-- The laws, in the order in which they rest on each other.
-- what the instruction in a row reads, writes and skips
pub mod RowRegisters
-- live registers, row by row from the last one on
pub mod LiveRows
-- how many registers are live at a position
pub mod LiveCount
