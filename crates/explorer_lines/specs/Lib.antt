-- What a reader of this crate must believe.
-- what is left to print, and what a piece of it is
pub mod Pieces
