-- What a reader of this crate must believe, in reading order.
-- exchanging threads that an `02` line declares alike
pub mod Exchange
-- what a memory model is
pub mod Model
-- what a memory model shows of itself
pub mod Laws
-- alike, listed, and the list, executable
pub mod Alike
-- Sound rules, the test at a full schedule, and what the search finds: `sought`.
pub mod Search
-- the four calls on a program
pub mod Answers
-- the four calls on a file
pub mod OnFile
-- what refuses a schedule, exactly
pub mod Refusing
-- what the graph call says of a program file, a schedule and an output
pub mod GraphCall
-- how large a class is, and the call that says it
pub mod ClassSize
-- what is promised of the sizes of classes
pub mod Classes
