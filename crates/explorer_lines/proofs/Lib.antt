-- The laws, in the order in which they rest on each other.
-- rows of listed schedules, and the frames printed of them
pub mod RowText
-- the lines of schedules, one after the other, and how long lines are
pub mod LineLoop
-- all is left at the beginning
pub mod Beginning
-- the next piece
pub mod NextLines
-- the pieces together
pub mod Handed
