-- What a table in which the search looks up the keys of a program's positions may say, so that the search with it finds what it finds without it.
use Rattle.std.specs.Prelude.{ℕ, ◌≡◌, List}
use Rattle.std.proofs.Math.Option.{some}
use Rattle.spec_file.specs.Program.{Program}
use Rattle.spec_schedules.specs.Order.{Schedule}
use Rattle.spec_sc.specs.State.{SC, start}
use Rattle.spec_sc.specs.Graph.{end_of}
use Rattle.theory_sc.specs.Search.{given_up}
use Rattle.theory_states.specs.Positions.{Reached}
use Rattle.theory_states.specs.Numbers.{Numbers, numbers, numbers_with}
use Rattle.theory_states.specs.Wrapped.{TrueEntries, CleanKeys}
use Rattle.theory_sc_key.specs.View.{breaks}
use Rattle.theory_sc_key.specs.Key.{word_key}
use Rattle.table.specs.Places.{said}

-- the numbers behind the prefix v, and those with t as the next step
abbrev pub numbers_at : Program → Schedule → Numbers
numbers_at p v = numbers SC 6 (given_up p) breaks v (end_of p v)

abbrev pub numbers_by : Program → Schedule → ℕ → Numbers
numbers_by p v t = numbers_with SC 6 (given_up p) breaks v (end_of p v) t

-- in a table of so many slots whose keys have so many words: every entry of a key of p is the numbers behind it
abbrev pub Numbered : Program → ℕ → ℕ → List ℕ → Type 0
Numbered p n slots m = TrueEntries SC 6 (given_up p) breaks (Reached SC (start p)) (word_key n p) (λ k c. said slots 2 m k ≡ some c)

-- no step fails behind any key of p that is marked
abbrev pub Marked : Program → ℕ → ℕ → List ℕ → Type 0
Marked p n slots m = CleanKeys SC 6 (given_up p) breaks (Reached SC (start p)) (word_key n p) (λ k c. said slots 0 m k ≡ some c)
