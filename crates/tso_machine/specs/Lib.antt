-- What a reader of this crate must believe, in reading order.
-- a queue in slots
pub mod Slots
-- how its arrays hold a state
pub mod Held
-- what a thread finds
pub mod Looked
-- what a step leaves
pub mod Steps
-- accesses counted in rows
pub mod Counted
