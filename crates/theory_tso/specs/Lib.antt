-- What the search goes by, in reading order; no promise rests on it.
-- R2 and R3
pub mod Rules
-- R2 far
pub mod Far
-- the schedules that neither R1 nor R2 nor R2 far gives up
pub mod Survivor
-- THE SEARCH, with no test at a full schedule
pub mod Search
-- what a step does, and which step must stay behind the one right before it
pub mod Deeds
-- R1: the bytes that may step and those of them that are late, carried from step to step
pub mod LateBytes
-- R2 by a word for each thread's accesses
pub mod ReadWords
