-- What the code of the search says where it does not branch any more, in reading order.
-- what the search adds to the rows in its output
pub mod Walked
-- the last running thread
pub mod Runner
