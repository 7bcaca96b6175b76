-- What a reader of this crate must believe, in reading order.
-- a note of eight bytes for each step of a run
pub mod Notes
-- the text of a graph, read off the notes, and what its writer promises
pub mod NoteText
