-- The laws, in the order in which they rest on each other.
-- rows that are accesses, locked ones, and where they go
pub mod AccessRows
-- queues in slots
pub mod InSlots
-- threads and locations of a state that is held
pub mod HeldCore
-- a step put back into the arrays
pub mod HeldBehind
-- an access by itself
pub mod HeldMeeting
-- a step by what it leaves in the queue
pub mod HeldStep
-- steps as the code has them
pub mod CodeSteps
-- which bytes may step
pub mod HeldMay
-- what is found and what may step, as the code has it
pub mod CodeLooks
-- the state before the first step
pub mod HeldFirst
