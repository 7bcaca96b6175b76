-- What a reader of this crate must believe, in reading order.
-- the call's answer as the code gives it
pub mod Answered
-- the promise as a whole
pub mod Forcing
