-- What a reader of this crate must believe, in reading order.
-- queues in slots, and sets behind a step; for the code
pub mod Freed
