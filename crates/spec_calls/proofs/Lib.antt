-- The laws, in the order in which they rest on each other.
-- what a call answers with an output of so many bytes
pub mod Answered
-- a word is read back as what was said
pub mod Words
-- a refusal of a program file fits every call's word
pub mod Refusals
-- What each call says fits its word; the judge's by itself.
pub mod Fitting
pub mod JudgeFits
-- What the call over two files says, and that it fits.
pub mod Coverings
-- what the force call says fits its word
pub mod Forces
-- what a reader takes out of a word of four callers
pub mod UserWords
