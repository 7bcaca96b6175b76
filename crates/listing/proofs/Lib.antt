-- The laws, in the order in which they rest on each other.
-- a schedule that is answered stands in the output
pub mod Standing
-- a list of calls walks the list
pub mod Dialogue
-- demand 3 holds
pub mod Demand3
-- what is promised of sequential consistency beside demand 3 holds
pub mod Sequential
-- the calls that give a schedule, way by way
pub mod FileCalls
-- what count says of a program file
pub mod CountCalled
-- files that differ only in remarks and capitals
pub mod PlainFiles
