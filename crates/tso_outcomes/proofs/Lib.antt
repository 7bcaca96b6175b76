-- The laws, in the order in which they rest on each other.
-- the first new outcome behind a prefix: with one next step, over the next steps in turn, and with marks
pub mod FirstNew
-- all outcomes behind a prefix: at its end, with one next step, over the next steps in turn
pub mod AllRows
-- where a walk of a decoded program starts
pub mod FromStart
