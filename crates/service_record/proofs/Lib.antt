-- The laws that the proofs of this crate cite.
-- whether a record is open and asks, way by way of the code
pub mod Opened
-- what there is for a record, way by way of the code
pub mod Given
-- the record behind what a caller was given
pub mod Handed
