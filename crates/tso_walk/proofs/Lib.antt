-- The laws, in the order in which they rest on each other.
-- with which next bytes something is found
pub mod TriedBytes
-- how many steps a prefix has, and whether it has ended
pub mod ReachedEnd
-- the search with one next byte, and over the next bytes in turn
pub mod WalkLoop
-- the walk from the start finds what is listed
pub mod ListedRows
