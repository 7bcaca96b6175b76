-- The laws, in the order in which they rest on each other.
-- values chosen one after the other
pub mod Chosen
-- registers taken one by one
pub mod HeldRegisters
-- rows by their first byte, and what is no access carried out
pub mod HeldRows
