-- The laws, in the order in which they rest on each other.
-- local states that agree in what is live do the same
pub mod Registers
-- states with one view do the same
pub mod View
-- a thread that goes on alone and writes nothing
pub mod GoingOn
-- where the reads of a thread led it
pub mod Traced
-- how nearness goes on behind a step
pub mod Nearness
-- the tests of nearness and of twins say it
pub mod NearTest
-- BEHIND POSITIONS WITH ONE VIEW, ONE LATE SET AND THE SAME NEARNESS THE SEARCH DOES THE SAME
pub mod SameFuture
-- what fits 32 bits and four registers
pub mod Limits
-- equal words, equal numbers
pub mod Packing
-- THE KEY DECIDES
pub mod Decides
-- THE LIST BY STATES: its count, and its first failing member
pub mod Listed
-- ways step by step, and the test by words read by read
pub mod Ways
-- a thread of an `02` line does at most twelve accesses
pub mod Twelve
-- NEARNESS BY WORDS IS NEARNESS, and the key is the one carried
pub mod ByWord
