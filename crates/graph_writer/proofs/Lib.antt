-- The laws, in the order in which they rest on each other.
-- the notes of a run say its graph, so the text of 24 notes, and of a graph, is at most 400 bytes long
pub mod Collected
pub mod NoteGraph
pub mod NoteLength
pub mod TextLength
-- how the text is written: lines one after the other, the notes that an array holds, one note and one location, the whole
pub mod WrittenLines
pub mod NotesHeld
pub mod NoteWriting
pub mod GraphWritten
-- notes in the trail
pub mod HeldNotes
