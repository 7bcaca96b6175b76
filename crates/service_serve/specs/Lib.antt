-- What a reader of this crate must believe beside `spec_service` and `service_one`.
-- whom a serve is about, and what it keeps of the record
pub mod Turn
