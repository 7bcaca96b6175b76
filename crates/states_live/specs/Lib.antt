-- How arrays hold what the definitions say.
-- the live registers of every row; for the code
pub mod Live
