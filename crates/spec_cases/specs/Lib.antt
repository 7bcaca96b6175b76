-- What a reader of this crate must believe, in reading order.
-- programs with known lists, and what the listing program prints of each
pub mod Rows
-- graph texts and what the judge answers
pub mod Graphs
-- all known cases as one table, and the one test of that table
pub mod Table
-- the store and load pair under total store order
pub mod TotalStoreOrder
