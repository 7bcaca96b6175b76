-- The laws of this crate.
-- what a word of these calls tells
pub mod Told
