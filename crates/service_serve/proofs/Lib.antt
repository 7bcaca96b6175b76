-- The laws that the proofs of this crate cite.
-- whose turn it is, way by way of the code
pub mod Choosing
-- what a serve answers and leaves, way by way of the code
pub mod Giving
