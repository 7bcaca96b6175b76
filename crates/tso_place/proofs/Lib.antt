-- The laws, in the order in which they rest on each other.
-- a prefix as the search holds it
pub mod ReachedStep
