-- What the answer to a class call says, that it fits its word, and that the sizes sum to what count says without `02` lines.
pub mod ClassAnswered
pub mod ClassFits
pub mod ClassSums
-- the word of a comparison, and where its schedule stands in the output
pub mod Coverings
-- Who can force the failure.
pub mod Forces
