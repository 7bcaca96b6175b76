-- The laws.
-- R3 as the code asks it
pub mod Asleep
-- R1, R2 and R2 far as the code asks them
pub mod Tried
