-- What a reader of this crate must believe, in reading order.
-- what the walk goes by
pub mod HeldWalk
