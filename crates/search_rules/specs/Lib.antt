-- What a reader of this crate must believe, in reading order.
-- what is left to the threads, and where they stand; for the code
pub mod Left
