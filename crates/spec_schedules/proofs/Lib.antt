-- The laws, in the order in which they rest on each other.
-- order of schedules: irreflexive, asymmetric, transitive, total
pub mod Order
-- members of lists, tests over lists, ascending lists
pub mod Lists
-- runs and full schedules over `++`, and how long they can be
pub mod Runs
-- every state of a lawful system has a full schedule
pub mod SomeRun
-- the list of full schedules: exact, ascending, bounded
pub mod Fulls
-- the first of each class: exact, ascending, one for every member
pub mod Classes
-- the claim about a list of calls over any ascending list
pub mod Calls
-- what a call offers, what it answers, and its output
pub mod Offered
-- the first member, and the first that passes a test
pub mod First
-- in an ascending list of schedules: the member that passes while no smaller one does
pub mod FirstIn
-- what a test keeps of a list; lists one behind the other
pub mod Kept
-- what is above a bound in a list
pub mod After
-- the listed schedules: exact, ascending, finite, one for each full schedule; the search finds them
pub mod Listed
-- steps that can be turned round
pub mod Front
-- the greedy walk is least among the lists of fitting bytes, if a fitting byte can be taken first
pub mod Greedy
-- the greedy walk names only bytes that may step, if only these fit
pub mod GreedyAllowed
-- the greedy walk is least among the full schedules that end in a goal, from F1, F2 and F3
pub mod GreedyFull
-- what is left to take of a run's actions: a system in which the greedy walk is least
pub mod Remaining
-- the orders of a run's own actions: each is full with the same end, and `least_order` is the least
pub mod Orders
-- the list of permutations: every one, ascending
pub mod Permutations
-- computed tests over all 720 permutations
pub mod Numbered
-- inverse, composition, and the permutation of every number
pub mod Group
-- a table of permutations, each packed in one number: one test, and that the table is then the list
pub mod Packed
-- the definitions as a loop in code meets them, one turn at a time
pub mod Loops
-- the listed schedules of a step system: of each class the least
pub mod ListedTerms
-- a dialogue: each call did what it must after the answers before it
pub mod CallTerms
-- full schedules that end in a goal
pub mod GreedyTerms
-- permutations of six: places, inverse and composition
pub mod PermutationTerms
