-- What a reader of this crate must believe, in reading order.
-- small functions on lists: the same list, ascending
pub mod Lists
-- one hexadecimal digit: which bytes are digits, and what each is worth
pub mod Digit
-- a line to its frame: the bytes that its digits spell, or none
pub mod Frame
-- a frame to its line: two digits a byte, then 0a
pub mod Text
-- a buffer with a text written over its front
pub mod Over
-- where a line of a text ends
pub mod Split
-- a text as the list of its lines
pub mod TextLines
-- what a line says: a remark, a frame, or neither
pub mod Meaning
-- a text without its remarks and with its capitals lowered
pub mod Plain
-- a program: threads of instructions, the groups declared alike, the starting values
pub mod Program
-- the table of kinds of frame
pub mod Kinds
-- what a frame says
pub mod Frames
-- program files, line by line, with refusals 1 to 8 and 40
pub mod Decode
-- far skips, and where 7 stands
pub mod FarSkips
-- a program without its groups, a file with its `02` lines taken out
pub mod Ungrouped
-- answers that differ at most in the place of a refusal
pub mod SameButPlace
-- what holds of every accepted program
pub mod WellFormed
-- the first values of a function, as a list
pub mod Tabulate
