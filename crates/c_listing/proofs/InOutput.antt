-- A word of kind 1 tells how many bytes stand in front of the output: they are the schedule that is answered, and the bytes behind them keep
-- their value.
use Prim.Native.Nat.{ℕ}
use mathlib.Core.Path.{◌≡◌, refl}
use mathlib.Core.List.{List}
use native.Mathlib.Omega.{arith}
use lib.ListN.{length}
use Rattle.spec_schedules.specs.Order.{Schedule}
use Rattle.spec_schedules.specs.Calls.{Answer, found, nomore}
use Rattle.spec_schedules.specs.Calls as Calls
use Rattle.spec_model.specs.Answers.{Violation, fails_first, none_fails, refused_by}
use Rattle.spec_model.specs.OnFile.{start_file, continue_file, violation_file}
use Rattle.listing_model.specs.declared.memory.Model.{Model}
use Rattle.listing_model.specs.ModelOf.{model_of}
use Rattle.listing_model.proofs.ModelLaws.{model_laws}
use Rattle.listing.specs.Demand3.{InFront}
use Rattle.listing.proofs.Standing.{start_stands, continue_stands, violation_stands}
use Rattle.spec_calls.specs.Word.{answered, word_of, kind_in, rest_in}
use Rattle.spec_calls.proofs.Words.{kind_one}
use Rattle.spec_calls.specs.Listed.{listed, violation_reply}
use Rattle.c_listing.proofs.Fitting.{start_fits, continue_fits, violation_fits}

-- the word w says of this output what stands in front of it: a schedule
abbrev pub Stands : ℕ → List ℕ → List ℕ → (Schedule → Type 0) → Type 0
Stands w before behind Answered = kind_in w ≡ 1 → (s : Schedule) × Answered s × (length s ≡ rest_in w) × InFront s before behind

pub listed_found : (a : Answer) (n : ℕ) → listed a ≡ answered n → (s : Schedule) × (a ≡ found s) × (length s ≡ n)
unfolding listed
listed_found (found s) n e = (s, refl, cc)
listed_found nomore n e = absurd (let z : ◌≡◌ {A = ℕ} 0 1 = cc in omega arith)
listed_found (Calls.refused i k) n e = absurd (let z : ◌≡◌ {A = ℕ} 0 1 = cc in omega arith)

violated_first : (v : Violation) (n : ℕ) → violation_reply v ≡ answered n → (s : Schedule) × (v ≡ fails_first s) × (length s ≡ n)
unfolding violation_reply
violated_first (fails_first s) n e = (s, refl, cc)
violated_first none_fails n e = absurd (let z : ◌≡◌ {A = ℕ} 0 1 = cc in omega arith)
violated_first (refused_by i k) n e = absurd (let z : ◌≡◌ {A = ℕ} 0 1 = cc in omega arith)

module _ (m : Model) (file out : List ℕ) where
  -- START
  pub start_in_output : Stands (word_of (listed (start_file (model_of m) file out).0)) out (start_file (model_of m) file out).1 (λ s. (start_file (model_of m) file out).0 ≡ found s)
  start_in_output e =
      let k = kind_one (listed (start_file (model_of m) file out).0) (start_fits m file out) e in
      let f = listed_found (start_file (model_of m) file out).0 _ k in
      (f.0, f.1, f.2, start_stands (model_of m) (model_laws m) file out f.0 f.1)

  -- CONTINUE, from whatever schedule
  pub continue_in_output : (r : Schedule) →
      Stands (word_of (listed (continue_file (model_of m) file r out).0)) out (continue_file (model_of m) file r out).1 (λ s. (continue_file (model_of m) file r out).0 ≡ found s)
  continue_in_output r e =
      let k = kind_one (listed (continue_file (model_of m) file r out).0) (continue_fits m file r out) e in
      let f = listed_found (continue_file (model_of m) file r out).0 _ k in
      (f.0, f.1, f.2, continue_stands (model_of m) (model_laws m) file out f.0 r f.1)

  -- VIOLATION
  pub violation_in_output : Stands (word_of (violation_reply (violation_file (model_of m) file out).0)) out (violation_file (model_of m) file out).1 (λ s. (violation_file (model_of m) file out).0 ≡ fails_first s)
  violation_in_output e =
      let k = kind_one (violation_reply (violation_file (model_of m) file out).0) (violation_fits m file out) e in
      let f = violated_first (violation_file (model_of m) file out).0 _ k in
      (f.0, f.1, f.2, violation_stands (model_of m) (model_laws m) file out f.0 f.1)
