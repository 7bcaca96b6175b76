-- What a reader of this crate must believe, in reading order.
-- which next bytes are tried
pub mod Tried
-- what is left to the threads, as the code has it; for the code
pub mod Shown
