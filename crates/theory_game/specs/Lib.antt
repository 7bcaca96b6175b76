-- What a reader of this crate must believe, in reading order.
-- states from which a game goes on alike
pub mod Alike
-- who wins, by numbers of steps and passes that are enough
pub mod Wins
-- a program's game: the key of a state, and what a table may say of it
pub mod Winners
-- where all threads are hostile, the answer by the list; where none is, by its counts
pub mod OneSide
