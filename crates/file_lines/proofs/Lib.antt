-- Laws that the crates above cite.
-- what the code's answer to a line means
pub mod Meaning
-- What the proofs of this crate's loops lean on, and worked lines.
pub mod Passed
pub mod Filled
-- what an answer says of the number that it stands for
pub mod Numbers
