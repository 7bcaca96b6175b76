-- The laws, in the order in which they rest on each other.
-- How the machine's functions meet the definitions.
-- rows by their first byte
pub mod HeldRows
-- settling, one instruction after the other
pub mod HeldSettling
-- an access as the code does it
pub mod HeldAccess
-- accesses counted row after row
pub mod HeldCounting
