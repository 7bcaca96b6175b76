-- What a reader of this crate must believe, in reading order.
-- how the decoder's code and counts hold what has been read; for its own functions
pub mod Held
