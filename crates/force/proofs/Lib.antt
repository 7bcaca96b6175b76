-- The laws, in the order in which they rest on each other.
-- whether the set names threads only
pub mod Names
-- the promise
pub mod Forcing
-- the game before its first step
pub mod Starting
-- where all threads are hostile
pub mod FirstFailing
-- where none is hostile
pub mod NoneHostile
