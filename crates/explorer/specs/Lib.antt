-- What a reader of this crate must believe.
-- what was read
pub mod Reading
