-- The laws, in the order in which they rest on each other.
-- the judge's way to its answer, which nothing promised rests on: rounds, a greedy walk, and the answer by them
pub mod RoundValues
pub mod Walk
pub mod ByWalk
-- graphs judged by computing
pub mod Examples
-- what the definition of consistent says of small graphs
pub mod SmallGraphs
-- graph texts answered by computing
pub mod TextExamples
-- tests as facts
pub mod Tests
-- lists of which a part is done
pub mod Later
pub mod Parts
-- threads by themselves, and the machine that agrees with them
pub mod Alone
pub mod Agreement
-- T4, from consistent to a schedule: a minimal event that is not done can be done next
pub mod Minimal
pub mod Decided
pub mod InOrder
pub mod Scheduled
-- T4, from a schedule to consistent: the rounds know the values of every run with this graph, and its steps are in order
pub mod Sorted
pub mod Records
pub mod RoundWords
pub mod Rounds
pub mod OnRun
pub mod Ranked
-- T4: consistent exactly when some full schedule has the graph
pub mod ConsistentIff
-- the judge: what its test says, that fitting steps commute, that a run's steps fit; it answers yes exactly to consistent graphs, with the least schedule
pub mod Fitting
pub mod Commuting
pub mod RunFits
pub mod Judged
-- graph texts: what a text gives is canonical, and the text of a full schedule's graph gives that graph back
pub mod Readable
pub mod Parsed
pub mod LineRanges
-- refusals of a text are small: it has no more lines than bytes
pub mod SmallRefusals
pub mod FramesRead
pub mod RowsRead
pub mod ListsRead
pub mod RoundTrip
pub mod AccessCount
pub mod RunRead
-- the answers to texts: the walk's answer is right, and no other is
pub mod Judgements
-- texts that differ only in remarks and capitals
pub mod PlainTexts
-- demand 2
pub mod LineNumbers
pub mod Demand2
-- the definitions as code meets them: line by line, and with tables of 16 numbers a thread
pub mod LineByLine
pub mod RoundTables
pub mod FitTables
-- document 01's two graphs
pub mod Cases
