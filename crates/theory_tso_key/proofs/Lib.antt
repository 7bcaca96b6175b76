-- The laws, in the order in which they rest on each other.
-- alike threads do the same
pub mod Threads
-- states with one view may do the same, and have one view behind it
pub mod Views
-- they make the same wait
pub mod Waits
-- the rules give up the same, where twins are the same
pub mod Rules
-- which steps fail
pub mod Breaks
-- what may be turned round with an access that puts nothing
pub mod Apart
-- twins behind a step
pub mod Twins
-- who is near whom behind a step
pub mod Near
-- what is seen, from the key
pub mod Locals
-- THE KEY DECIDES
pub mod Decides
-- count and violation with a table of keys
pub mod OnList
-- equal words, equal keys
pub mod Words
-- values are 32-bit
pub mod Values
-- an access left out of the run
pub mod Undone
-- who is near whom, from what the search carries
pub mod NearBack
-- how much is pending
pub mod Pending
-- the key of a position fits its words, so the words decide
pub mod Shape
