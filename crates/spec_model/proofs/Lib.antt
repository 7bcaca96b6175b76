-- The laws of every memory model, in the order in which they rest on each other.
-- permitted exchanges are a group
pub mod Exchanges
-- exchanging two threads of one `02` line
pub mod Swapped
-- the list of permitted permutations is exact
pub mod Permitted
-- own steps reordered; one graph, one end
pub mod Orders
-- exchanged runs
pub mod Exchanged
-- being alike is an equivalence
pub mod Alike
-- the list: exact, ascending, finite, one for each full schedule
pub mod TheList
-- alike schedules have one outcome; where no listed one fails, no run does
pub mod Outcome
-- among any actions: those that one passes
pub mod Passing
-- the actions of a run
pub mod Traces
-- R2 is sound
pub mod Twins
-- the programs that the model lists
pub mod Admitted
-- what refuses a schedule: it stops, or is short
pub mod Refusing
-- start and continue on a file
pub mod Calls
-- violation
pub mod Violations
-- what the calls can answer: members of the list, and small refusals
pub mod Answered
-- counting over lists
pub mod Counting
-- the size of a class: exactly the graphs alike; orbit and stabilizer
pub mod ClassSize
-- the sizes sum to the list of the program without groups
pub mod ClassSum
-- all that is promised of them
pub mod Classes
-- the test of being alike
pub mod AlikeTerms
