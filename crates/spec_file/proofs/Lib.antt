-- The laws, in the order in which they rest on each other.
-- what is written is read back, and what is read and written again is the lower-case line
pub mod RoundTrip
-- what the test of two lists says
pub mod Lists
-- when a line is a frame
pub mod Frame
-- what a line says, and what the reader's answer tells of it
pub mod Meaning
-- the lines of a text without its remarks and with its capitals lowered
pub mod Plain
-- the bytes that a line's characters spell
pub mod Pairs
-- a frame's line: its length, and what is written of it by the room there is
pub mod Text
-- a buffer with a text over its front, and with one more text behind it
pub mod Over
-- where the lines of a text end
pub mod Split
-- the lines of a text, one after the other
pub mod TextLines
-- one digit: value and digit are each other's inverse
pub mod DigitValues
mod Examples
-- bytes below 256, for proofs
pub mod FrameTerms
-- every accepted program is well formed
pub mod AcceptedWellFormed
-- refusals of a file are small: number and place
pub mod Places
-- the file of 0 bytes, and that 9 refuses no file
pub mod NoThread
-- `03` lines: which 40 refuses, and files by computing
pub mod StartLines
-- files that differ only in remarks and capitals
pub mod PlainFiles
-- a file with its `02` lines taken out
pub mod Ungrouped
-- files with remarks and capitals, by computing
mod Remarks
-- the table of kinds, as rules for every first byte
pub mod KindTable
-- which frames skip
pub mod Skips
-- frames that agree on their first bytes
pub mod FrameBytes
-- frames of instructions
pub mod InstructionFrames
-- instructions in range
pub mod InstructionRanges
-- the groups that `02` lines declare
pub mod GroupLines
-- counting accesses
pub mod AccessCounts
-- what holds while lines are read
pub mod Sound
-- 7 stands at the earliest line of all far skips
pub mod FarSkips
-- what was read makes a well-formed program
pub mod SoundProgram
-- what holds of every member of a list
pub mod Everywhere
-- what tests tell
pub mod Tests
