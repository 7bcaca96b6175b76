-- What a reader of this crate must believe, in reading order.
-- the notes of a run
pub mod Noted
-- what carrying out a schedule leaves
pub mod Carried
