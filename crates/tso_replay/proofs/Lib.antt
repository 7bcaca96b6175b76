-- The laws, in the order in which they rest on each other.
-- what is turned away, and whose a byte is
pub mod Admitted
-- the notes of a run say its graph
pub mod NotesHere
-- a run has few notes
pub mod FewNotes
-- a schedule carried out
pub mod HeldReplay
