-- What a reader of this crate must believe, in reading order.
-- what is seen of a state
pub mod Views
-- which threads could still become twins
pub mod Near
-- the key of a position
pub mod Key
-- the same as words of 64 bits
pub mod Words
-- who is near whom, from what the search carries
pub mod Ways
