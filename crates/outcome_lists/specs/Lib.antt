-- How answers and outputs hold what the definitions say.
-- a schedule that was found, and in front of an output
pub mod Found
