-- What a reader of this crate must believe, in reading order.
-- the integer that 32 bits mean in two's complement
pub mod Signed
-- a thread by itself: settling, and the four functions by which an access is seen
pub mod Local
-- threads and memory, steps, and sequential consistency as a step system
pub mod State
-- schedules of a program, full and failing, and their graphs
pub mod Graph
-- what a schedule handed over comes to: whole, or refused by 20 or 21
pub mod Replay
-- the text of a graph
pub mod Text
-- what the steps of a run did, which of them conflict, and the least order of them
pub mod Actions
-- exchanging threads: permitted permutations, and states and graphs turned into others
pub mod Exchange
-- events, reads and lists compared; whether a graph is another with its threads exchanged
pub mod Same
pub mod Renamed
-- the steps of an exchanged run
pub mod ExchangedActions
-- sequential consistency as a memory model
pub mod Sequential
