-- What a reader of this crate must believe, in reading order.
-- queues of pending stores, and what a thread finds in its own
pub mod Queue
-- threads and memory, accesses and moves, and total store order as a step system
pub mod State
-- schedules of a program, full and failing, and their graphs
pub mod Graph
-- what the steps of a run did, and which of them must keep their order
pub mod Actions
-- exchanging threads: bytes, states and actions turned into others
pub mod Exchange
-- total store order as a memory model, and what it turns away
pub mod TotalStoreOrder
