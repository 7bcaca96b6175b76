-- The laws, in the order in which they rest on each other.
-- who may step, whether all have ended, whether an assertion failed
pub mod HeldAsking
-- a thread's next access
pub mod HeldNext
-- a step
pub mod HeldStep
-- the state before the first step
pub mod HeldStart
