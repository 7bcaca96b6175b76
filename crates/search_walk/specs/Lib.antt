-- What the code of the search says, in reading order.
-- which next steps are tried
pub mod Tried
