-- What a reader of this crate must believe, in reading order.
-- how arrays hold a graph and what has been read of its text; for the judge's own functions
pub mod Held
