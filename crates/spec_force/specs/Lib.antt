-- What a reader of this crate must believe, in reading order.
-- two sides on a step system: plays, strategies, and what a side can force
pub mod Game
-- a program's game, and the answer to a file and a set of threads
pub mod Forced
