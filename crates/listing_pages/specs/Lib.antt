-- A page of the list as its rows stand in a buffer.
pub mod Page
