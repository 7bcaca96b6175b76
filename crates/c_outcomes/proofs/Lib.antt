-- The laws.
-- what the calls say fits their word
pub mod OutcomesFit
