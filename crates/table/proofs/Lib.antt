-- The laws, in the order in which they rest on each other.
-- what the slot at a place says, by its tests
pub mod Slot
-- a key compared with the words of a slot
pub mod Compared
-- words mixed, one after the other; two keys' places are one or apart
pub mod Apart
-- words written over a part: what every other part is then
pub mod Written
-- an entry put into a table
pub mod Entry
-- every key has a slot in the table
pub mod Room
