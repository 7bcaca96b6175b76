-- What the search goes by, in reading order; no promise rests on it.
-- the bound and the cut of a search
pub mod Search
-- all that the search finds above a bound, in order
pub mod Found
-- the least order of a run's own steps
pub mod Orders
-- for proofs that compute: the search opened too
pub mod Computing
-- walking back over the steps taken
pub mod Back
-- R1: steps that come late
pub mod Late
-- the late set, carried from step to step
pub mod LateSet
-- sound rules, the test at a full schedule, and what the search finds
pub mod ModelSearch
-- the least order of what the steps of a run did
pub mod Actions
-- what the code left to a thread could still do
pub mod Ahead
-- where a thread stands, as tests
pub mod Standing
