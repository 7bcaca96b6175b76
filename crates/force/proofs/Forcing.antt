-- The promise holds of every accepted file and every set. For the code: what the list and the first steps say of the game.
use Prim.Native.Nat.{ℕ, ◌≤◌}
use mathlib.Core.Path.{◌≡◌, refl, sym, ap, subst, ◌∙◌}
use mathlib.Core.Bool.{Bool, true, false, true≢false}
use mathlib.Core.Option.{Option, none, some}
use mathlib.Core.List.{List, []}
use lib.Dec.{ltb}
use lib.ListN.{length}
use borrow.Author.Tests.{le-ltb}
use Rattle.spec_file.specs.Over.{over}
use Rattle.spec_file.specs.Program.{Program}
use Rattle.spec_file.specs.Decode.{Decoded, accepted, decode}
use Rattle.spec_file.specs.WellFormed.{WellFormed}
use Rattle.spec_file.proofs.AcceptedWellFormed.{accepted_well_formed}
use Rattle.spec_schedules.specs.Lists.{find, head_of}
use Rattle.spec_schedules.specs.Order.{Schedule}
use Rattle.spec_schedules.specs.System.{run}
use Rattle.spec_schedules.proofs.First.{head_filter}
use Rattle.spec_schedules.proofs.FirstIn.{none_find}
use Rattle.spec_schedules.proofs.Runs.{full_allowed}
use Rattle.spec_sc.specs.State.{SC, start, fails}
use Rattle.spec_sc.specs.Graph.{Full, end_of}
use Rattle.spec_model.specs.Alike.{list_of}
use Rattle.spec_model.specs.Model.{failing}
use Rattle.spec_model.specs.Search.{sought}
use Rattle.spec_model.proofs.Outcome.{none_fails_at_all}
use Rattle.spec_model.specs.Answers.{Violation, fails_first, violation_by, violation_content, violation_of}
use Rattle.spec_model.specs.OnFile.{violation_on, violation_file}
use Rattle.spec_sc.specs.Sequential.{sc}
use Rattle.spec_sc.proofs.Admits.{sc_admits}
use Rattle.spec_sc.proofs.Laws.{sc_laws}
use Rattle.spec_force.specs.Game.{hostile, friendly, other, same}
use Rattle.spec_force.proofs.Value.{value}
use Rattle.spec_force.specs.Forced.{game_of, CanForce}
use Rattle.spec_force.proofs.Sides.{same_is, same_not}
use Rattle.spec_force.proofs.Answers.{one_can_force, hostile_play, none_fails_friendly, forced_unique}
use Rattle.force.specs.Forcing.{Forcing}

-- ---- where no listed schedule fails
none_at_all : (p : Program) → WellFormed p → find (failing sc p) (list_of sc p) ≡ none → (s : Schedule) → Full p s → fails (end_of p s) ≡ false
none_at_all p w e s f = (none_fails_at_all sc sc_laws p (w, refl)).0 (none_find (failing sc p) (list_of sc p) e) s (full_allowed SC (start p) s f).0

-- THE FRIENDLY SIDE CAN FORCE
pub no_violation : (set : ℕ) (p : Program) → WellFormed p → head_of (sought sc true p) ≡ none → CanForce friendly set p
unfolding sought
no_violation set p w e = none_fails_friendly set p (none_at_all p w (sym (head_filter (failing sc p) (list_of sc p)) ∙ e))

-- ---- what the violation call says
module _ (file : List ℕ) (p : Program) (e : decode file ≡ accepted p) where
  call : (out : List ℕ) → violation_file sc file out ≡ violation_of sc p out
  unfolding violation_on
  call out = ap (λ (d : Decoded). violation_on sc d out) (sc_admits (decode file) ∙ e)

  whole : (out : List ℕ) → violation_file sc file out ≡ ((violation_file sc file out).0, violation_content (violation_file sc file out).0 out)
  unfolding violation_of
  whole out = subst (λ (r : Violation × List ℕ). r ≡ (r.0, violation_content r.0 out)) (sym (call out)) refl

  -- IF THE HOSTILE SIDE CAN FORCE, the violation call reports a schedule
  pub violation_reported : (set : ℕ) → CanForce hostile set p → (out : List ℕ) → 24 ≤ length out → (s : Schedule) × (violation_file sc file out ≡ (fails_first s, over s out))
  unfolding violation_of violation_by violation_content
  violation_reported set f out h = go (find (failing sc p) (list_of sc p)) refl
    where
      room : ltb (length out) 24 ≡ false
      room = le-ltb (length out) 24 h

      answer_there : (o : Option Schedule) → find (failing sc p) (list_of sc p) ≡ o → (violation_file sc file out).0 ≡ violation_by false o
      answer_there o q = ap (λ (r : Violation × List ℕ). r.0) (call out) ∙ ap (λ (b : Bool). violation_by b (find (failing sc p) (list_of sc p))) room ∙ ap (violation_by false) q

      go : (o : Option Schedule) → find (failing sc p) (list_of sc p) ≡ o → (s : Schedule) × (violation_file sc file out ≡ (fails_first s, over s out))
      go none q = let r = hostile_play set p f in absurd (true≢false (sym r.2 ∙ none_at_all p (accepted_well_formed file p e) q r.0 r.1))
      go (some s) q = (s, whole out ∙ ap (λ (v : Violation). (v, violation_content v out)) (answer_there (some s) q))

  -- THE PROMISE
  pub forcing : (set : ℕ) → Forcing file set p
  forcing set = record { exactly_one = one_can_force set p; violation = violation_reported set; only = forced_unique file set }

-- ---- behind the hostile side's pass
pub pass_friendly : (set : ℕ) (p : Program) (r : Bool) → r ≡ same (value (game_of set) 48 friendly (end_of p [])) friendly → r ≡ true → value (game_of set) 48 friendly (start p) ≡ friendly
unfolding run
pass_friendly set p r e y = same_is (value (game_of set) 48 friendly (start p)) friendly (sym e ∙ y)

pub pass_hostile : (set : ℕ) (p : Program) (r : Bool) → r ≡ same (value (game_of set) 48 friendly (end_of p [])) friendly → r ≡ false → value (game_of set) 48 friendly (start p) ≡ hostile
unfolding run other
pass_hostile set p r e n = same_not (value (game_of set) 48 friendly (start p)) friendly (sym e ∙ n)
