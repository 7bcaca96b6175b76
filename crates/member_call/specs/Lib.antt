-- How answers hold what the definitions say.
-- the number of a schedule as the code answers it; for the code
pub mod RankWord
