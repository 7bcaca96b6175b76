-- How arrays and answers hold what the definitions say.
-- what a table says while outcomes are looked for under total store order; for the code
pub mod Swept
-- outcomes gathered by a walk; for the code
pub mod Gathered
