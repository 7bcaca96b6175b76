-- The laws, in the order in which they rest on each other.
-- the rounds' code: a thread by itself on the machine, a round access after access, the values of 24 rounds
pub mod HeldAlone
pub mod HeldRoundLoop
pub mod HeldValues
