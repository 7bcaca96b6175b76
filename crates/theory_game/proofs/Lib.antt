-- The laws, in the order in which they rest on each other.
-- one turn, and the whole game, from states that go on alike
pub mod Alike
-- numbers of steps and passes that are enough
pub mod Enough
-- what is seen of a state decides a program's game
pub mod Seen
-- a table of winners: found, put
pub mod Winners
-- a side that has all threads; where all are hostile the answer goes by the list
pub mod OneSide
-- where none is hostile the answer goes by the counts
pub mod NoneHostile
