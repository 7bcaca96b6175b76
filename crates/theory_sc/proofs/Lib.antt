-- The laws, in the order in which they rest on each other.
-- R1 is sound
pub mod Late
pub mod Twins
-- how many accesses a thread has done, and how many writes an access finds
pub mod Counting
-- of two threads that agree, the preferred one goes first
pub mod GoesFirst
-- two schedules with one graph that prefer differently: the two threads do the same
pub mod Inverted
-- the pairs that a permutation turns round tie together what it moves
pub mod Inversions
-- what R2 says of survivors, listed and exchanged schedules
pub mod Preferring
-- THE RULES ARE EXACT
pub mod Exact
-- what is in a set
pub mod Sets
-- the late set has exactly the late
pub mod LateSet
-- the sets of locations say what is left to a thread
pub mod WhatIsLeft
-- R3 as a set is sound, and the greatest such set
pub mod Sleepers
-- THE SEARCH FINDS THE LIST
pub mod Search
-- the search goes on with the last running thread without branching
pub mod LastThread
-- digits tell what they are of
pub mod ThreadWords
-- reads as digits
pub mod Digits
-- what words and stamps are along a run
pub mod ReadWords
-- R2 BY WORDS IS R2
pub mod TwinWords
-- the definitions computed
pub mod SearchExamples
