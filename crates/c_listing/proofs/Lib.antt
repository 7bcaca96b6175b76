-- What the listing's answers say.
pub mod ReplyOf
-- What the listing's answer to count says.
pub mod Tallies
-- What each call says fits its word.
pub mod Fitting
-- A word of kind 1 tells how many bytes of the output are the schedule.
pub mod InOutput
