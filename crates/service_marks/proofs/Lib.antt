-- The laws that the proofs of this crate cite.
-- what comes before the marks
pub mod Foremost
-- whether a mark counts and bears a name, way by way of the code
pub mod Named
-- slots, one step of a loop at a time
pub mod Slotting
-- marks emptied and set, one step of a loop at a time
pub mod Changed
