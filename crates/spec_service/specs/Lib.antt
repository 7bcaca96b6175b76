-- What a reader of this crate must believe, in reading order.
-- what a record reads as: closed, or a program, a place in its list, and whether it asks
pub mod Seat
-- a caller's record, what it reads as, and the records that the calls leave
pub mod Record
-- a caller's marks and the last schedule handed to it: which count, and what the calls on them leave
pub mod Marks
-- the seven calls: what each answers, and the later content of all that is lent
pub mod Call
-- a list of calls, each handed what the one before gave back
pub mod Play
-- what calls do, whatever the four records hold
pub mod Lent
-- whether a caller asks behind a list of calls
pub mod Asking
-- what a caller's own calls leave under a name
pub mod Noted
-- what of a list of calls concerns a caller: its own calls, and the serves that take it
pub mod Concerns
-- the claims about every list of calls
pub mod Claims
-- what a call answers, as the code gives it, and all that a call does
pub mod Reply
