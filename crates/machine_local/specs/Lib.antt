-- What a reader of this crate must believe, in reading order.
-- how the code carries out one instruction; for its own functions
pub mod CarriedOut
