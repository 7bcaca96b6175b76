-- What the search goes by, in reading order; no promise rests on it.
-- What the rules of the search look at, under sequential consistency.
pub mod Rules
-- the schedules that neither R1 nor R2 gives up
pub mod Survivor
-- sets of small numbers, a bit for each
pub mod Sets
-- R1: the threads whose next step would come late, carried from step to step
pub mod LateSet
-- R3: late threads that nothing left to the others can wake
pub mod Sleepers
-- one thread alone has not ended
pub mod Alone
-- THE SEARCH, with no test at a full schedule
pub mod Search
-- R2 by a word for each thread
pub mod ThreadWords
-- whose digits are the stamps of its reads
pub mod ReadWords
