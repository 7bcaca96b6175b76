-- What a reader of this crate must believe, in reading order.
-- the decoder's answer, read as an accepted program or a refusal
pub mod Compiled
-- how the decoder's arrays hold what has been read; for its own functions
pub mod Held
