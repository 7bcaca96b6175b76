-- What a reader of this crate must believe, in reading order.
-- what carrying out a schedule leaves, in either memory model
pub mod Replays
