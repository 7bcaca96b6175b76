-- The laws, in the order in which they rest on each other.
-- whether the outcome of a schedule is lacked, by what was found or by rows of all outcomes
pub mod Lacked
-- the answers as the code gives them
pub mod Called
-- what `map_err` gives
pub mod Mapped
-- two files and room have exactly one answer
pub mod Comparisons
