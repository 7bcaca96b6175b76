-- The laws, in the order in which they rest on each other.
-- what ranges of lists keep
pub mod Kept
-- all that the search finds, one turn at a time
pub mod Found
-- the search finds exactly the listed full schedules above the bound
pub mod Search
-- two tests that agree on what no cut gives up find the same
pub mod SameFound
-- a search with a sound cut finds exactly the listed schedules
pub mod Listed
-- the least order of a run's own steps is the least schedule
pub mod Orders
-- the least order of a run's actions, one action at a time
pub mod LeastOrder
-- a small step system, computed
pub mod Example
-- the least schedule with a graph, by the least order of a run's actions
pub mod ModelOrders
-- the walk back over the actions of a run
pub mod Back
-- where none comes late the order is the least
pub mod Timely
-- R1 is sound
pub mod Late
-- R1 is exact for graphs
pub mod OnTime
-- the late set is R1, and any set carried so is the walk back
pub mod LateSet
-- the test at a full schedule is exact
pub mod Representative
-- THE SEARCH FINDS THE LIST, by every sound rule that leaves listed schedules only
pub mod ModelSearch
-- the search as code meets it
pub mod Searching
-- two runs and their least orders, computed
pub mod Examples
-- the least order under sequential consistency
pub mod ScOrders
pub mod Standing
-- one graph, one least schedule
pub mod SameGraph
-- the least schedule with a graph, of a program
pub mod ProgramGraphs
pub mod Ahead
pub mod Remote
