-- The laws, in the order in which they rest on each other.
-- threads of the same code
pub mod HeldCode
-- members of a `02` line, by the counts
pub mod HeldMembers
-- the number of a refusal, by the counts
pub mod RefusalByCounts
