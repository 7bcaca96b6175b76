-- How arrays and answers hold what the definitions say, in reading order.
-- the call's answer as the code gives it
pub mod AnswerOf
