-- The laws, in the order in which they rest on each other.
-- every program covers itself, and covering is transitive
pub mod Covering
-- alike schedules have one outcome, so that each outcome is a listed schedule's
pub mod Listed
-- the answer says the same of all full schedules
pub mod AllSchedules
