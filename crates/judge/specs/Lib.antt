-- What a reader of this crate must believe, in reading order.
-- the answer as the call hands it over
pub mod Call
-- the table of the graph that the walk makes
pub mod MadeTable
-- what the walk leaves
pub mod HeldYes
