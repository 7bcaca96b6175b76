-- What a reader of this crate must believe, in reading order.
-- what a search meets, and which steps fail
pub mod Positions
-- how many schedules the search finds behind a prefix, and how many of them fail behind it
pub mod Numbers
-- prefixes behind which the search does the same; a key that tells them
pub mod SameKey
-- what a table may say of positions with one key
pub mod Memory
-- numbers in words of 64 bits, and what a table of words may say
pub mod Wrapped
-- counting with a table
pub mod Counted
-- the first failing schedule with a table
pub mod FirstFailing
-- the member number k of a list
pub mod Kth
-- how many of a list are smaller than a schedule
pub mod Ranked
