-- The laws, in the order in which they rest on each other.
-- the notes from a place on
pub mod NotesFrom
-- permutations by where each number may go
pub mod Goes
-- where a thread may go
pub mod MayGo
-- an array made by calls
pub mod FromFn
-- two lists of reads compared
pub mod SameReads
-- the quotient that is computed is the size of the class
pub mod Divided
-- what the call answers
pub mod ClassCalled
