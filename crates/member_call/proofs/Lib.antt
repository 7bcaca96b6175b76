-- The laws.
-- what the two calls answer, and leave in the scratch
pub mod Called
