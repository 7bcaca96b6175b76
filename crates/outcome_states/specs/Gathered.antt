-- THE FIRST SO MANY OUTCOMES of a program: in words, one row of nine behind the other, and those from a number on in an output.
use Rattle.std.specs.Prelude.{ℕ, ◌+◌, ◌*◌, ◌≤◌, ◌≡◌, true, List, length, take, drop, Option, IfSome}
use Rattle.std.proofs.Math.Seq.{paste}
use Rattle.spec_file.specs.Over.{over}
use Rattle.spec_file.specs.Program.{Program}
use Rattle.spec_schedules.specs.Lists.{any}
use Rattle.spec_schedules.specs.Order.{Schedule}
use Rattle.spec_model.specs.Model.{Model}
use Rattle.spec_model.specs.Alike.{list_of}
use Rattle.spec_covers.specs.declared.outcome.Outcome.{Outcome}
use Rattle.spec_across.specs.Under.{outcome_under}
use Rattle.spec_across.specs.Same.{comes_to}
use Rattle.spec_outcomes.specs.Firsts.{firsts_of}
use Rattle.spec_outcomes.specs.OutcomesCall.{outcome_rows}
use Rattle.states_outcomes.specs.Rows.{row_of, known_row}
use Rattle.outcome_states.specs.declared.gathering.Gathering.{Gathering}

-- the first k rows are the first k outcomes
abbrev pub Known : (M : Model) → Program → List ℕ → ℕ → Type 0
Known M p rows k = (o : Outcome) → length o.memory ≡ 8 → known_row rows k (row_of o) ≡ any (comes_to M p o) (take k (firsts_of M p))

-- the rows are all outcomes
abbrev pub Exactly : (M : Model) → Program → List ℕ → ℕ → Type 0
Exactly M p rows k = (o : Outcome) → length o.memory ≡ 8 → known_row rows k (row_of o) ≡ any (comes_to M p o) (list_of M p)

-- the outcome of s, whose number is k, kept as row k before `cut`, and where that number is reached also put into the output
pub record Keeps (M : Model) (p : Program) (s : Schedule) (k cut from : ℕ) (lent lent' out out' : List ℕ) : Type 0 where
  pub row : take cut lent' ≡ paste (take cut lent) (9 * k) (row_of (outcome_under M p s)) 9
  pub shown : (held : List ℕ) → length out ≡ length held → out ≡ over (outcome_rows M p (drop from (take k (firsts_of M p)))) held
      → out' ≡ over (outcome_rows M p (drop from (take (k + 1) (firsts_of M p)))) held

-- what was gathered before `cut`, and from a number on put into the output
pub record Gathers (M : Model) (p : Program) (cut limit from : ℕ) (lent lent' out out' : List ℕ) (r : Gathering) : Type 0 where
  -- as many words as there were
  pub words : length lent' ≡ length lent
  -- the rows stand before `cut`
  pub room : 9 * r.known ≤ cut
  -- they are not more than were asked for, and not more than there are
  pub few : r.known ≤ limit
  pub within : r.known ≤ length (firsts_of M p)
  -- they are the first so many outcomes
  pub rows : Known M p (take cut lent') r.known
  -- where all were gathered there are no more
  pub all : r.all ≡ true → length (firsts_of M p) ≤ r.known
  pub exact : r.all ≡ true → Exactly M p (take cut lent') r.known
  -- in the output stand the rows of those from the number on
  pub output : out' ≡ over (outcome_rows M p (drop from (take r.known (firsts_of M p)))) out

-- what stands before `cut` where outcomes are gathered as a set: where it is told how many they are
pub record Holds (M : Model) (p : Program) (cut : ℕ) (lent lent' : List ℕ) (r : Option ℕ) : Type 0 where
  -- as many words as there were
  pub words : length lent' ≡ length lent
  -- the rows stand before `cut`
  pub room : IfSome r (λ k. 9 * k ≤ cut)
  -- and are all outcomes
  pub exact : IfSome r (λ k. Exactly M p (take cut lent') k)
