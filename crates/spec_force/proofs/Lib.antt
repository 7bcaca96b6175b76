-- The laws, in the order in which they rest on each other.
-- who can force, worked out step by step: what the code computes
pub mod Value
-- states from which no assertion can be reached
pub mod Silent
-- sides, and who steps
pub mod Sides
-- two strategies played against each other: not both sides can force
pub mod Against
-- a strategy made of strategies behind each first step
pub mod Composed
-- who wins by the recursion can force: exactly one side can
pub mod Determined
-- all threads of one side
pub mod OneSide
-- what decides a game at once
pub mod Decided
-- the set of all threads, and that of none
pub mod Whole
-- a failed assertion does, and so does a state from which no assertion can be reached
pub mod Early
-- the answer: it exists by the recursion, and is the only one
pub mod Answers
