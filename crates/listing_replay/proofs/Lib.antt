-- The laws, in the order in which they rest on each other.
-- the program that the model lists, or what refuses the file
pub mod ListedProgram
-- what a schedule that was carried out leaves
pub mod Carried
