-- What a reader of this crate must believe.
-- programs without a store, and programs that fence each store
pub mod Fenced
