-- The laws that the proofs of this crate cite.
-- what is left of a call on one record, and of a serve
pub mod Doing
