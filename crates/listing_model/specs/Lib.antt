-- The memory model that a call lists by.
pub mod ModelOf
