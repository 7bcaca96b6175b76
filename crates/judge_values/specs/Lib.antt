-- What a reader of this crate must believe, in reading order.
-- how they hold a thread that runs by itself, and a round
pub mod HeldRounds
