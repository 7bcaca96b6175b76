-- What a reader of this crate must believe, in reading order.
-- how its arrays hold a state, and what a step leaves
pub mod Held
-- what may be asked of them
pub mod Asked
