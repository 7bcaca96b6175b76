-- The laws, in the order in which they rest on each other.
-- the callers in turn: how far one is behind the last one served
pub mod Rotation
-- what the records that calls leave read as
pub mod Readings
-- what a call can answer, and what each caller's record reads as behind it
pub mod Seats
-- what a call does to a caller's record
pub mod Touches
-- which mark a name has behind a set and a forget
pub mod Marks
-- no mark is free exactly where eight names are known
pub mod Ninth
-- what a call does to an open caller that it does not close
pub mod Fates
-- what a call can answer, whatever it is lent
pub mod Answers
-- whether a caller asks
pub mod Asking
-- eight marks with names of eight bytes
pub mod Shaped
-- a record that reads as closed counts as empty
pub mod Closed
-- the calls, whatever the four records hold
pub mod Lent
-- the claims
pub mod InOrder
pub mod Fair
pub mod Noted
pub mod Counted
pub mod Isolation
pub mod Claims
-- examples, computed
pub mod Examples
