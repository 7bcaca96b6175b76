-- What a reader of this crate must believe, in reading order.
-- the comparison's answer as the code gives it
pub mod Against
-- the answer to who can force, as the code gives it
pub mod Forcing
