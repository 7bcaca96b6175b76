-- The laws, in the order in which they rest on each other.
-- rows of the first so many outcomes: the next one, and one more
pub mod Known
-- their rows in an output
pub mod Shown
-- marks in either memory model
pub mod Marks
-- outcomes gathered in one walk
pub mod AllRows
-- outcomes gathered row by row
pub mod Gathers
