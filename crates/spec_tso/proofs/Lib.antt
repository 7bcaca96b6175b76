-- The laws, in the order in which they rest on each other.
-- the definitions computed
pub mod Examples
-- bytes, who may step, and what a step touches
pub mod Bytes
pub mod Steps
-- what is seen of a state, without its queues
pub mod Seen
-- total store order is a lawful step system; T0: at most 32 steps
pub mod Lawful
-- queues: a thread finds the same before and after its oldest pending store moves
pub mod Queues
-- what may step stays so until it is taken
pub mod Stays
-- why one action must stay before another; when a step does the same on two cells
pub mod Depends
pub mod SameStep
-- T1: steps of two threads, of one thread, of any two bytes
pub mod Swap
pub mod OwnSwap
pub mod Orders
-- T2: exchanging threads, from any state; the actions of exchanged steps; a program's start
pub mod Exchange
pub mod ExchangedActions
pub mod Permitted
-- one step, seen at one thread and at one location
pub mod Change
-- a thread's stores reach memory in order; one value for each write
pub mod StoreOrder
pub mod Values
-- what holds of every state of a run, and what a run adds
pub mod Regular
pub mod Growth
-- what the graph at the end says of an access on the way
pub mod Reading
-- full schedules, and who may step, in document 02's words; a failed run stays so
pub mod Ended
pub mod Failing
-- one graph, the same accesses
pub mod Determined
-- the parts of an action; until a byte is taken its step waits
pub mod ActionParts
pub mod Waiting
-- T3(b): the first step of one schedule fits in front of another with its graph, so both are orders of the same steps
pub mod FirstFits
pub mod SameGraph
-- every SC graph is a graph here
pub mod Sequential
-- for the rules of a search: where reads come from, and what is left of a code
pub mod Sourced
pub mod OwnSources
pub mod Rests
-- the actions of a run
pub mod ActionTerms
-- the laws of a memory model
pub mod Laws
-- which programs are turned away
pub mod Admits
-- how large each class is
pub mod Classes
-- every SC graph is one here; 48 bytes for a schedule
pub mod SequentialGraphs
-- the list of small programs
pub mod ModelExamples
