-- The laws, in the order in which they rest on each other.
-- the walk's code: the table of the graph made, and the walk's turns
pub mod MadeTables
pub mod WalkLoop
-- the call: the tables compared, the answer way by way
pub mod Tables
pub mod JudgeTables
pub mod CallAnswer
