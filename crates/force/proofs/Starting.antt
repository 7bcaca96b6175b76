-- The game before its first step, with a table that says nothing; and what a lent scratch holds where the answer is no refusal.
use Prim.Native.Nat.{ℕ}
use native.Mathlib.Omega.{arith}
use mathlib.Core.Path.{◌≡◌, refl, sym, ap, ◌∙◌}
use mathlib.Core.Bool.{Bool, true, false, true≢false}
use mathlib.Core.Option.{Option, none, some}
use mathlib.Core.List.{List, []}
use lib.ListN.{length, replicate}
use Rattle.spec_file.specs.Program.{Program}
use Rattle.spec_schedules.specs.System.{run}
use Rattle.spec_sc.specs.State.{start}
use Rattle.spec_sc.proofs.Lawful.{lawful, start_24}
use Rattle.machine.specs.declared.state.Machine.{Machine}
use Rattle.spec_force.specs.Game.{hostile}
use Rattle.spec_force.specs.Forced.{game_of, Answer, ForcedIn, hostile_steps, hostile_passes, friendly_forces}
use Rattle.theory_sc_key.specs.Key.{Wide}
use Rattle.theory_game.proofs.Enough.{enough_all}
use Rattle.theory_game.proofs.Winners.{winners_none}
use Rattle.table.specs.Said.{said_at}
use Rattle.table.specs.Places.{place_of, said}
use Rattle.states_live.specs.Live.{Live}
use Rattle.states_memory.specs.declared.tally.Shape.{Shape}
use Rattle.spec_calls.specs.Scratch.{force_scratch}
use Rattle.force_moves.specs.Standing.{Standing, Playing}

is_some : {A : Type 0} → Option A → Bool
is_some none = false
is_some (some a) = true

pub playing_start : (code lengths tails masks : List ℕ) (threads set : ℕ) (shape : Shape) (m : Machine) (table : List ℕ) (p : Program)
    → Standing code lengths tails threads m p [] → Live code lengths masks → Wide shape.width p → ((at width : ℕ) (k : List ℕ) → said_at at width table k ≡ none)
    → Playing code lengths tails masks threads set shape hostile m table 49 p []
unfolding run is_some
playing_start code lengths tails masks threads set shape m table p st live wide nothing = record {
  standing = st;
  live = live;
  wide = wide;
  enough = enough_all (game_of set) lawful 49 hostile (start p) (omega (arith, start_24 p st.loaded.well_formed));
  known = winners_none set p st.loaded.well_formed shape.width (λ k c. said shape.slots 1 table k ≡ some c)
      (λ k c s. absurd (true≢false (ap is_some (sym s ∙ nothing (place_of shape.slots 1 k) 1 k))));
}

-- an answer to a game leaves zeros
pub answered_zeros : (set : ℕ) (p : Program) (a : Answer) → ForcedIn set p a → (m : List ℕ) → replicate (length m) 0 ≡ force_scratch a m
unfolding force_scratch
answered_zeros set p a (hostile_steps t c h l) m = refl
answered_zeros set p a (hostile_passes c n) m = refl
answered_zeros set p a (friendly_forces c) m = refl
