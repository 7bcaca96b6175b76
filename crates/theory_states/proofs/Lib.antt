-- The laws, in the order in which they rest on each other.
-- what is reached from a state
pub mod Positions
-- the numbers behind a prefix, one turn at a time; more steps than are left change nothing
pub mod Numbers
-- related positions have the same numbers; so have positions with one key
pub mod SameKey
-- how large they can be
pub mod Bounds
-- they are the lengths of what the search finds
pub mod Found
-- the first of what is found, and where nothing failing is
pub mod Passing
-- a table stays true
pub mod Memory
-- numbers in words of 64 bits, added up in a loop, and put into a table
pub mod Wrapped
-- with one next byte, and over the next bytes in turn, as code goes
pub mod Turns
-- counting with a true table gives the numbers, and a true table
pub mod Counted
-- so does the search for the first failing schedule, with true marks
pub mod FirstFailing
-- in any memory model: the count of the list, and its first failing member, with a table
pub mod OnList
-- the member number k, by numbers alone
pub mod Kth
-- how many are smaller than a schedule, by numbers alone
pub mod Ranked
