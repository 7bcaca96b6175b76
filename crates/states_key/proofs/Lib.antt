-- The laws, in the order in which they rest on each other.
-- lists with zeros behind, stored into one place after the other, and by two
pub mod Padding
-- numbers of six bits, joined from the last on
pub mod SixBits
-- who is near whom, test by test
pub mod NearSets
-- the values of a key, thread by thread
pub mod KeyValues
-- the key of a spot
pub mod KeyWords
