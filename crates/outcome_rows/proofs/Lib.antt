-- The laws, in the order in which they rest on each other.
-- eight values written one after the other
pub mod Values
