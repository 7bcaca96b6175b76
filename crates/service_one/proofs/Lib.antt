-- The laws that the proofs of this crate cite.
-- what open, ask and close do, way by way of the code
pub mod Doing
-- what set, return and forget do, way by way of the code
pub mod Marked
