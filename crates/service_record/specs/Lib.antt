-- What a reader of this crate must believe beside `spec_service`, in reading order.
-- tests that the code makes of a record
pub mod Tested
-- what there is for a record, as the code hands it on
pub mod Next
