-- The laws, in the order in which they rest on each other.
-- the definitions computed
pub mod Examples
-- R2 is sound
pub mod Twins
-- R3 is sound
pub mod Asleep
-- the definitions computed
pub mod SurvivorExamples
-- phases: accesses before the first move
pub mod Phases
-- twinned threads: they stand alike, and nothing of them is in memory
pub mod Twinned
-- the test of a twin is exact
pub mod TwinTest
-- R2 far is sound
pub mod Far
-- the next accesses of twinned threads
pub mod NextAccess
-- twinned threads are twinned behind the accesses of a phase
pub mod OnePhase
-- what cycles of a permutation have
pub mod Cycles
-- twinned threads are twinned to the end
pub mod Pairs
-- what the rules say of a survivor at each of its places
pub mod SurvivorSide
-- what being listed says of a schedule at each of its places
pub mod ListedSide
-- threads that are twinned at the end
pub mod Tied
-- THE RULES ARE EXACT
pub mod Exact
-- THE SEARCH FINDS THE LIST
pub mod Search
-- the step right behind another waits exactly when their deeds say so
pub mod Deeds
-- R1 and R2 far from step to step
pub mod LateBytes
-- words behind a step
pub mod ReadWords
-- what a run keeps of each thread
pub mod Kept
-- a word's digits are small
pub mod Small
-- words from step to step
pub mod Words
-- where its sources lead a thread
pub mod Tracks
-- R2 BY WORDS IS R2
pub mod TwinWords
