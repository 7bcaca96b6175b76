-- What a reader of this crate must believe, in reading order.
-- what a line says, as the code answers it
pub mod Meaning
-- a number or 0, as the code of the crates above answers it; nothing of this crate says it
pub mod Numbers
