-- The laws, in the order in which they rest on each other.
-- the reader's code: the writes of a line, marks of events, places of lines, entries of the table, and that the table holds what has been read
pub mod LineWrites
pub mod Marks
pub mod MarkLoop
pub mod Ranks
pub mod Entries
pub mod HeldRefusal
pub mod HeldAfter
pub mod HeldAfterWrites
pub mod HeldText
-- one table, one graph; a row's line by its entry
pub mod TabledGraph
