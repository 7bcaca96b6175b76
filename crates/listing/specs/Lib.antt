-- What a reader of this crate must believe, in reading order. The four calls on a program file stand in `model` (`OnFile`).
-- demand 3 as a whole, in any memory model
pub mod Demand3
-- what is promised of sequential consistency beside demand 3
pub mod Sequential
-- the answers as the code gives them
pub mod AnswerOf
-- count's answer as the code gives it
pub mod CountWord
-- two files on which every call answers the same
pub mod SameCalls
