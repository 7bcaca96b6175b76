-- The laws, in the order in which they rest on each other.
-- reads that wait, whether a step fits, and which one is next, by the tables
pub mod EntriesWait
pub mod AllowedSteps
pub mod WalkChoice
