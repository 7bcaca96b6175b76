-- What the search adds to the rows in its output.
pub mod Rows
