-- The laws, in the order in which they rest on each other.
-- which next steps are tried
pub mod TriedSteps
-- the search with one next step, and over the next steps in turn
pub mod WalkLoop
-- the walk from the start finds what is listed
pub mod ListedRows
