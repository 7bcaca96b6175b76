-- The laws.
-- the calls by rows, way by way
pub mod RowsAnswered
