-- How arrays and answers hold what the definitions say, in reading order.
-- the list walked for its firsts; for the code
pub mod Walked
