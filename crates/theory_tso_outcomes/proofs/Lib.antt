-- The laws, in the order in which they rest on each other.
-- the key with whether something failed
pub mod OutcomeKey
-- marks of keys behind which no outcome passes; the first of the list that comes to one
pub mod Passing
