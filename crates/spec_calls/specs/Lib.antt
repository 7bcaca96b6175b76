-- What a reader of this crate must believe, in reading order.
-- schedules as rows of bytes in a buffer
pub mod Rows
-- The list by rows and by pages, in any memory model: `rows_of`.
pub mod ListRows
-- what the listing program prints
pub mod Printed
-- listed schedules by rows, on a program file
pub mod RowsCall
-- what a call says, and the word that says it
pub mod Word
-- what the check of a program file says
pub mod Check
-- what the graph call says
pub mod Graphed
-- what the judge says
pub mod Judged
-- what start, continue and violation say
pub mod Listed
-- what count says
pub mod Tallied
-- what count and violation leave in the scratch that they are lent
pub mod Scratch
-- what the calls by rows say
pub mod ByRows
-- what the class call says
pub mod Classed
-- what the class call and the count call say together
pub mod ClassSums
-- what the covers call says
pub mod Against
-- what the force call says
pub mod Forced
-- what the calls of four callers say, and leave
pub mod Users
