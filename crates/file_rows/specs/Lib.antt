-- What a reader of this crate must believe, in reading order.
-- the code of a program, a row of sixteen bytes for each instruction
pub mod Rows
-- stretches of bytes that agree, and bytes written over others
pub mod Bytes
