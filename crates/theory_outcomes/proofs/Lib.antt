-- The laws, in the order in which they rest on each other.
-- in any step system: a test of where runs end is a failure of their last step; what is found with a test is what of all that is found passes
pub mod Ending
-- in any memory model: a key that decides, with whether something failed, decides every outcome behind a position
pub mod FlaggedKey
-- in any memory model: marks of keys behind which no outcome passes; the first of the list that comes to one
pub mod Outcomes
-- in any memory model: what passes with one next step, over the next steps in turn, and where nobody may step
pub mod NextSteps
-- in any memory model: outcomes gathered by a walk
pub mod Gathering
-- under sequential consistency: the key with whether something failed
pub mod OutcomeKey
-- under sequential consistency: marks, and the first of the list
pub mod Passing
