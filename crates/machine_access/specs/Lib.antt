-- What a reader of this crate must believe, in reading order.
-- how the code carries out an access, and how it holds a thread; for its own functions
pub mod CarriedOut
-- the accesses of threads, counted in rows
pub mod Counted
