-- MARKS IN EITHER MEMORY MODEL: a table that says nothing is true, and marks stay true with one row more.
use Prim.Native.Nat.{ℕ, ◌+◌, ◌*◌, ◌≤◌}
use mathlib.Core.Path.{◌≡◌, sym, subst}
use mathlib.Core.Bool.{true}
use mathlib.Core.Option.{some}
use mathlib.Core.List.{List}
use lib.ListN.{length, drop}
use lib.Seq.{paste}
use Rattle.spec_file.specs.Program.{Program}
use Rattle.spec_schedules.specs.Order.{Schedule}
use Rattle.spec_model.specs.Laws.{Admitted}
use Rattle.spec_covers.specs.declared.outcome.Outcome.{Outcome}
use Rattle.spec_across.specs.Under.{outcome_under}
use Rattle.listing_model.specs.declared.memory.Model.{Model}
use Rattle.listing_model.specs.declared.memory.Model.TheVariants.{Sequential, TotalStoreOrder}
use Rattle.listing_model.specs.ModelOf.{model_of}
use Rattle.theory_outcomes.specs.Passing as ScMarked
use Rattle.theory_outcomes.proofs.Passing as ScPassing
use Rattle.theory_tso_outcomes.specs.Passing as TsoMarked
use Rattle.theory_tso_outcomes.proofs.Passing as TsoPassing
use Rattle.table.specs.Places.{said}
use Rattle.states_outcomes.specs.Rows.{row_of, is_new}
use Rattle.states_outcomes.specs.Swept.{Silent}
use Rattle.states_outcomes.specs.declared.known.Frame.{Frame}
use Rattle.states_outcomes.proofs.RowLists.{row_adds, adds_fewer}
use Rattle.states_outcomes.proofs.Parts as ScMarks
use Rattle.tso_outcomes.proofs.FirstNew as TsoMarks
use Rattle.outcome_states.specs.Marks.{Marks}

-- ---- marks
-- the frame of a walk
abbrev pub framed : ℕ → ℕ → ℕ → ℕ → Frame
framed width slots cut k = record { width = width; slots = slots; cut = cut; known = k }

-- memory has eight values
pub eight_under : (m : Model) (p : Program) → Admitted (model_of m) p → (s : Schedule) → length (outcome_under (model_of m) p s).memory ≡ 8
unfolding outcome_under
eight_under Sequential p a s = ScPassing.memory_eight p a.0 s
eight_under TotalStoreOrder p a s = TsoPassing.memory_eight p a.0 s

-- where nothing is said, nothing false is
pub marks_start : (m : Model) (p : Program) (f : Frame) (rows lent : List ℕ) → Silent f.slots f.cut lent → Marks m p f rows lent
marks_start Sequential p f rows lent silent = ScMarks.silent_swept p f rows lent silent
marks_start TotalStoreOrder p f rows lent silent = TsoMarks.silent_swept p f rows lent silent

-- MARKS STAY TRUE with one row more
module _ (rows : List ℕ) (k : ℕ) (x : Outcome) (e : length x.memory ≡ 8) (rows' : List ℕ) (room : 9 * k + 9 ≤ length rows) (is : rows' ≡ paste rows (9 * k) (row_of x) 9) where
  fewer : (o : Outcome) → length o.memory ≡ 8 → is_new rows' (k + 1) o ≡ true → is_new rows k o ≡ true
  fewer = adds_fewer rows k x rows' (k + 1) (row_adds rows k x e room rows' is)

  pub marks_more : (m : Model) (p : Program) → Admitted (model_of m) p → (width slots cut : ℕ) (lent lent' : List ℕ) → drop cut lent' ≡ drop cut lent → Marks m p (framed width slots cut k) rows lent
      → Marks m p (framed width slots cut (k + 1)) rows' lent'
  marks_more Sequential p a width slots cut lent lent' behind marks =
      subst (λ (l : List ℕ). ScMarked.NonePasses (is_new rows' (k + 1)) p width (λ j c. said slots 0 l j ≡ some c)) (sym behind)
      (ScPassing.passes_fewer p a.0 (is_new rows k) width (is_new rows' (k + 1)) fewer (λ j c. said slots 0 (drop cut lent) j ≡ some c) marks)
  marks_more TotalStoreOrder p a width slots cut lent lent' behind marks =
      subst (λ (l : List ℕ). TsoMarked.NonePasses (is_new rows' (k + 1)) p width (λ j c. said slots 0 l j ≡ some c)) (sym behind)
      (TsoPassing.passes_fewer p a (is_new rows k) width (is_new rows' (k + 1)) fewer (λ j c. said slots 0 (drop cut lent) j ≡ some c) marks)
