-- The laws, in the order in which they rest on each other.
-- members of an ascending list, and how many are smaller
pub mod Numbered
-- what the two calls say on a listed program and on a file
pub mod Called
-- all that is promised of them
pub mod Members
