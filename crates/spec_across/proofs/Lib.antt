-- The laws, in the order in which they rest on each other.
-- covering across models is reflexive and transitive; under sequential consistency twice it is covering
pub mod Covering
-- every program under total store order covers itself under sequential consistency
pub mod StoreOrder
-- the test whether two outcomes are the same is exact
pub mod SameOutcome
-- outcomes looked for in the list: some listed schedule has this one, and the first that another program lacks
pub mod Attained
-- the answer to two files worked out
pub mod AnswerBy
-- robust: the same graphs, so the same outcomes
pub mod Robust
-- exchanging alike threads keeps a graph consistent, so that the listed schedules speak for all
pub mod Exchanged
-- whether a schedule is relaxed, as a test; what is found in the list
pub mod Relaxed
-- the call has exactly one answer
pub mod Robustness
-- the call over two files under two models has exactly one answer
pub mod ModelsCompared
