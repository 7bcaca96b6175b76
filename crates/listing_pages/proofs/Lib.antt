-- The laws, in the order in which they rest on each other.
-- what a search leaves behind a cursor
pub mod PageFound
-- the first that passes a test, in a list of two parts
pub mod FirstOfTwo
-- the first of a page's rows that passes a test
pub mod FirstOfRows
-- the list walked by pages for the first that passes a test
pub mod FirstByPages
