-- The laws, in the order in which they rest on each other.
-- what an access leaves, by what it writes; values are 32-bit
pub mod Leaving
-- the machine with events and the one of values, step by step and along a run
pub mod Steps
-- values under total store order are 32-bit
pub mod StoreWords
-- adding zero changes no outcome
pub mod SameOutcomes
-- adding zero changes no outcome under total store order
pub mod StoreOrder
-- what a run of values comes to
pub mod ValueTerms
