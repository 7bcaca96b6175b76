-- What a reader of this crate must believe, in reading order.
-- the graph call's answer as the code gives it
pub mod GraphWord
