-- What a reader of this crate must believe, in reading order.
-- a machine of registers and memory, without events
pub mod Values
-- what an access writes, as a parameter of the machine with events; document 01's first fetch and add
pub mod Writing
-- what holds of both fetch and adds: full schedules, ends and outcomes
pub mod SameOutcomes
-- the same under total store order
pub mod StoreOrder
