-- The laws, in the order in which they rest on each other.
-- no write of a run stands twice
pub mod Separate
-- the text of every graph of total store order is read back
pub mod Readable
-- the judge's answer to that text decides whether the graph is consistent
pub mod ByText
