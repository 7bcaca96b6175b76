-- What the key of a state is, in reading order; no promise rests on it.
-- registers that the code left may still read
pub mod Registers
-- what is seen of a state, and which steps fail
pub mod View
-- which threads of one `02` line can still come to be twins
pub mod Nearness
-- the key
pub mod Key
-- nearness and the key from what the search carries
pub mod Ways
