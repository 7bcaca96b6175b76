-- What a reader of this crate must believe beside `spec_service` and `service_marks`.
-- what a call leaves of one record
pub mod Left
