-- What a reader of this crate must believe, in reading order.
-- what a table says of a key
pub mod Said
-- where a key's slot begins, and what a table of so many slots says
pub mod Places
-- what looking answers, and what putting leaves
pub mod Answers
