-- What the answer to the call about robustness says, that it fits its word, and where its schedule stands.
pub mod Robustnesses
-- the same of the call over two files, each under a model of its own
pub mod ModelsCovered
