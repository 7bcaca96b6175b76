-- What a reader of this crate must believe, in reading order.
-- how the arrays hold a play; for its own functions and those of the call
pub mod Standing
