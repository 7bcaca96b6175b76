-- The laws.
-- each case by itself
pub mod Cases
-- the sizes of the classes of the whole case
pub mod Classes
-- the longest graph text
pub mod Longest
