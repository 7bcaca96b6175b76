-- What a reader of this crate must believe, in reading order.
-- what a call says that answers a schedule, or none
pub mod Found
