-- What a decoder's answer says.
pub mod Checked
-- What the machine's answer to a graph call says.
pub mod Graphs
-- What the judge's answer says.
pub mod Judgements
-- what the graph call says fits its word
pub mod Fitting
-- where the judge's schedule stands in the output
pub mod JudgeFits
-- A word of kind 1 tells how many bytes of the output are the text.
pub mod InOutput
