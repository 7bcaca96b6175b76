-- The laws, in the order in which they rest on each other.
-- a search's bound behind one step more
pub mod BoundSteps
-- a row's bytes
pub mod RowBytes
-- rows added to an output, as far as there is room
pub mod AddedRows
-- rows in a buffer read back
pub mod RowsRead
-- what a cursor has yet to come
pub mod CursorLaws
-- a page, and the cursor behind it
pub mod PageLaws
-- a search over the next bytes in turn
pub mod WalkLoop
-- a page's first row read back
pub mod FirstRow
-- a list counted by pages
pub mod CountedRows
-- a listed schedule fits a row
pub mod ListPages
