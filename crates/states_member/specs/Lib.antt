-- How answers hold what the definitions say.
-- the next step that leads to a member; for the code
pub mod Leads
