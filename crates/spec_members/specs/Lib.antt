-- What a reader of this crate must believe, in reading order.
-- the member number k, on a program and on a file
pub mod Kth
-- how many listed schedules are smaller than one, on a program and on a file
pub mod Rank
-- what the two calls say, and leave in what they are lent
pub mod Said
-- what is promised of the two together
pub mod Members
