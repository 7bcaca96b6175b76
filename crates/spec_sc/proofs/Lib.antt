-- The laws, in the order in which they rest on each other.
-- the definitions computed
pub mod Examples
-- two's complement, computed and as the code compares
pub mod Signed
-- what holds of every member; ends of a list
pub mod Everywhere
pub mod Suffix
-- the four functions by which an access is seen, and settling: with Words the only laws that go by instruction
pub mod Access
pub mod Idle
-- an operand that is the register to be set is read first
pub mod OwnOperand
-- what a step touches, and what it adds at one thread and one location
pub mod Steps
pub mod Change
-- the state before the first step
pub mod Start
-- values are 32-bit
pub mod Words
-- sequential consistency is a lawful step system; T0: at most 24 steps, at most 6^24 full schedules
pub mod Lawful
-- T1: independent steps commute; the orders of a run's steps
pub mod Swap
pub mod Orders
-- what holds of every state of a run, and how histories grow
pub mod Regular
pub mod Histories
pub mod Growth
-- replaying a schedule: whole exactly when full, refused by 20 or 21 exactly where it should be
pub mod Replay
pub mod SmallRefusals
-- a state's graph, row by row and list by list
pub mod Rows
-- the tests of events, reads and lists, and of exchanged graphs, are exact
pub mod Same
pub mod Renamed
-- threads that are silent
pub mod Standing
-- T2: exchanging threads, from any state and for a program
pub mod Exchange
pub mod Permitted
pub mod Failing
-- a run that failed stays so
pub mod Halted
-- full schedules in document 01's words
pub mod Ended
-- a program without threads: its one full schedule
pub mod NoThread
-- T3(b): full schedules with one graph do the same steps, end in the same state, and the least is found from any
pub mod Reading
pub mod Determined
pub mod Trails
pub mod FirstFits
pub mod SameGraph
-- graph text: it tells graphs apart
pub mod Frames
pub mod Text
pub mod Printed
-- for the listing: graphs and trails of exchanged schedules, what an exchange leaves as it is, steps that can be moved, and what is left to do
pub mod Renaming
pub mod ProgramGraphs
-- graphs that an exchange leaves the same
pub mod Fixed
pub mod ExchangedActions
pub mod FixedState
pub mod FreeSteps
-- the graph of a state
pub mod GraphTerms
-- the actions of a run
pub mod ActionTerms
-- a schedule with its threads exchanged
pub mod ExchangeTerms
-- the laws of a memory model
pub mod Laws
-- nothing is turned away
pub mod Admits
-- the sizes of classes
pub mod Classes
-- what refuses a schedule is what its replay says
pub mod Refused
-- R2 is sound
pub mod Swapped
-- the list is short enough to be counted exactly
pub mod TheList
-- the list of a program without threads
pub mod NoThreadListed
