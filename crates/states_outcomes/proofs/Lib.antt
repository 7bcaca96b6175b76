-- The laws, in the order in which they rest on each other.
-- the eight final values, one by one
pub mod Values
-- rows of outcomes: known, not known, one more
pub mod RowLists
-- a table that says nothing says nothing false
pub mod Parts
-- the first new outcome behind a prefix: with one next step, over the next steps in turn
pub mod FirstNew
-- all outcomes behind a prefix: at its end, with one next step, over the next steps in turn
pub mod AllRows
