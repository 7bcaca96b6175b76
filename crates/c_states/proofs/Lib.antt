-- The laws.
-- what the answer to how many are smaller says
pub mod Ranks
-- what the calls on members say fits their words, and stands in the output
pub mod Fitting
