-- What a reader of this crate must believe beside `spec_service`, in reading order.
-- a slot as a number, and the refusals that come before the marks
pub mod Numbers
