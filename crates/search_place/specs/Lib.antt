-- How arrays and answers hold what the definitions say, in reading order.
-- steps and accesses as the code knows them; for the code
pub mod Steps
-- the groups as classes of threads; for the code
pub mod ClassGroups
-- a prefix of a run as the search holds it; for the code
pub mod Reached
