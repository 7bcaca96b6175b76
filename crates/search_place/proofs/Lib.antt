-- The laws, in the order in which they rest on each other.
-- bits, and the cases of a word and a stamp
pub mod Bits
-- the access in a row, as far as others have to wait for it
pub mod RowAccess
-- R1 read off the machine behind a step
pub mod LateNow
-- threads of one class stand in one line
pub mod ClassGroups
-- the set of the threads that have not ended
pub mod LiveSet
-- the late ones behind a step, asked one after the other
pub mod LateLoop
-- a prefix: its start, a step more, who may step
pub mod ReachedStep
