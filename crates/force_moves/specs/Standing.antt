-- How the arrays hold a play. For the code's own functions: nothing here is needed to read the promise.
use Rattle.std.specs.Prelude.{ℕ, ◌<◌, ◌≤◌, ◌≡◌, Bool, true, false, List, get_or, drop, Option, Some, None}
use Rattle.std.proofs.Math.Option.{some}
use Rattle.spec_file.specs.Program.{Program}
use Rattle.spec_file.specs.WellFormed.{Everywhere}
use Rattle.spec_schedules.specs.Order.{Schedule}
use Rattle.spec_schedules.specs.System.{Allowed}
use Rattle.file_rows.specs.Rows.{thread_code}
use Rattle.spec_sc.specs.State.{SC, start}
use Rattle.spec_sc.specs.Graph.{end_of}
use Rattle.machine.specs.declared.state.Machine.{Machine}
use Rattle.machine.specs.Held.{Holds, Loaded}
use Rattle.spec_force.specs.Game.{Side, hostile, friendly}
use Rattle.spec_force.proofs.Value.{keeps_by, value}
use Rattle.spec_force.proofs.Silent.{Harmless}
use Rattle.spec_force.specs.Forced.{game_of}
use Rattle.theory_sc_key.specs.Key.{Wide}
use Rattle.theory_game.specs.Wins.{Enough}
use Rattle.theory_game.specs.Winners.{Winners}
use Rattle.table.specs.Places.{said}
use Rattle.states_live.specs.Live.{Live}
use Rattle.states_memory.specs.declared.tally.Shape.{Shape}
use Rattle.force_moves.specs.declared.sides.Side as Code
use Rattle.force_moves.specs.declared.sides.Side.TheVariants.{Hostile, Friendly}

-- a side as the code has it
unfoldable pub side_of : Code.Side → Side
side_of Hostile = hostile
side_of Friendly = friendly

-- from these instructions on nothing that is left to a thread can fail
abbrev pub Tails : List ℕ → List ℕ → ℕ → List ℕ → Type 0
Tails code lengths threads tails =
    (t : ℕ) → t < threads → (i : ℕ) → get_or tails t 0 ≤ i → Everywhere Harmless (drop i (thread_code code t (get_or lengths t 0)))

-- the machine stands behind the steps v of the program's run
pub record Standing (code lengths tails : List ℕ) (threads : ℕ) (m : Machine) (p : Program) (v : Schedule) : Type 0 where
  pub loaded : Loaded code lengths threads p
  pub ends : Tails code lengths threads tails
  pub allowed : Allowed SC (start p) v
  pub holds : Holds code lengths m (end_of p v)

-- what a table of so many slots, whose keys have so many words, says of a program's plays is right
abbrev pub Known : ℕ → Program → Shape → List ℕ → Type 0
Known set p shape table = Winners set p shape.width (λ k c. said shape.slots 1 table k ≡ some c)

-- it is x's turn there, with enough steps and passes left; with these live registers of its rows, and a table that says nothing false
pub record Playing (code lengths tails masks : List ℕ) (threads set : ℕ) (shape : Shape) (x : Side) (m : Machine) (table : List ℕ) (left : ℕ) (p : Program) (v : Schedule) : Type 0 where
  pub standing : Standing code lengths tails threads m p v
  pub live : Live code lengths masks
  pub wide : Wide shape.width p
  pub enough : Enough (game_of set) left x (end_of p v)
  pub known : Known set p shape table

-- t is a first step of the hostile side behind which it wins
abbrev pub keeps_first : ℕ → Program → ℕ → Bool
keeps_first set p t = keeps_by (game_of set) (λ τ. value (game_of set) 48 friendly τ) hostile (start p) t

-- it is the least such step, or there is none
abbrev pub FirstKeeping : ℕ → Program → Option ℕ → Type 0
FirstKeeping set p (Some t) = (t < 6) × (keeps_first set p t ≡ true) × ((u : ℕ) → u < t → keeps_first set p u ≡ false)
FirstKeeping set p None = (u : ℕ) → u < 6 → keeps_first set p u ≡ false
