-- The laws, in the order in which they rest on each other.
-- R2 as the code tests it
pub mod HeldTwins
-- R3 read off the sets of what is left
pub mod WhatIsLeft
-- R3 behind a prefix, round by round
pub mod Rounds
