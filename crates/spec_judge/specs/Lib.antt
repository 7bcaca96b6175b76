-- What a reader of this crate must believe, in reading order.
-- which graphs are consistent, in document 01's words
pub mod Consistent
-- the least schedule that makes a graph
pub mod Least
-- graph texts and their refusals
pub mod Reading
-- the answer to a graph text
pub mod Answer
-- readings and answers that differ at most in the place of a refusal
pub mod SameButPlace
-- demand 2: the judge's promise as one claim
pub mod Demand2
