-- The laws, in the order in which they rest on each other.
-- what the decoder's answer says, by its verdict
pub mod Said
-- what the decoder's answer says of the file
pub mod Decoded
-- before the first line, and with a thread more
pub mod HeldAfter
-- with a group more
pub mod HeldAfterGroup
-- with a starting value more
pub mod HeldAfterStart
-- the places of instructions in the code
pub mod HeldAfterPlace
-- with an instruction more
pub mod HeldAfterInstruction
-- skips beyond a thread's end, as the rows hold them
pub mod HeldSkips
-- groups by the numbers of their members
pub mod Classes
-- the compiled program is the one that was read
pub mod HeldProgram
-- members marked
pub mod HeldWrite
-- what a line that passes leaves
pub mod HeldTaken
-- after the last line
pub mod HeldFinish
-- the lines of a file, one after the other
pub mod HeldFile
