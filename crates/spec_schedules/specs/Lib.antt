-- What a reader of this crate must believe, in reading order.
-- small functions on lists: any, all, keep, first, the numbers from one on; what it is for a list to ascend
pub mod Lists
-- schedules and their order
pub mod Order
-- step systems, runs, full schedules
pub mod System
-- the list of all full schedules
pub mod Fulls
-- the first of each class
pub mod Classes
-- the listed schedules of a step system: of each class the least
pub mod Listed
-- a list walked by calls: one call, and what a list of calls is to give
pub mod Calls
-- the members of a list above a bound
pub mod Found
-- the greedy walk, and what it means to reach a goal
pub mod Greedy
-- the orders of a run's own steps, and the least of them
pub mod Orders
-- the permutations of six: all of them, each by its number, inverse and composition
pub mod Permutations
-- for proofs that compute: all definitions opened by one name
pub mod Computing
-- sets of small numbers, a bit for each: membership
pub mod Sets
