-- What count and violation answer with a lent scratch, and what they leave in it.
use Prim.Native.Nat.{ℕ, ◌≤◌}
use mathlib.Core.Path.{◌≡◌, refl, sym, ap, ◌∙◌}
use mathlib.Core.Bool.{Bool, true, false, cond}
use mathlib.Core.Option as Math
use mathlib.Core.Option.{none, some}
use Rattle.std.specs.Prelude.{Option, Some, None, Ok}
use Rattle.std.proofs.lemmas.List.{length-take-le}
use mathlib.Core.List.{List}
use lib.ListN.{length}
use borrow.Author.Tests.{le-ltb}
use Rattle.spec_file.specs.declared.refusal.Refusal.{Refusal}
use Rattle.spec_file.specs.Over.{over}
use Rattle.spec_file.specs.Program.{Program}
use Rattle.spec_file.specs.Decode.{Decoded, accepted, refused, decode}
use Rattle.spec_schedules.specs.Lists.{head_of}
use Rattle.spec_schedules.specs.Order.{Schedule}
use Rattle.spec_schedules.specs.Calls.{Answer, answer_to, short, content}
use Rattle.spec_schedules.proofs.Offered.{answer_none, answer_some, content_found, content_nomore}
use Rattle.spec_model.specs.Model.{Model}
use Rattle.spec_model.specs.Answers.{violation_by, violation_of}
use Rattle.spec_model.specs.Search.{sought}
use Rattle.spec_model.specs.OnFile.{admit, count_on, count_file, violation_on, violation_file}
use Rattle.spec_calls.specs.Scratch.{zeros, count_scratch, violation_scratch}
use Rattle.listing_cursor.specs.declared.steps.Steps.{Steps}
use Rattle.listing_cursor.specs.Steps.{steps_of, found_of}
use Rattle.listing.specs.AnswerOf.{length_of, list_answer_of}
use Rattle.listing.proofs.FileCalls.{found_answer}

-- ---- what a walk found, put in front of the output
module _ {N : ℕ} (out : List ℕ) where
  pub put_none : (r : Option (Steps N)) → r ≡ None → (None ≡ length_of (found_of r)) × (out ≡ content (answer_to false (found_of r)) out)
  unfolding length_of
  put_none r e = rw e (refl, sym (content_nomore out) ∙ ap (λ (a : Answer). content a out) (sym answer_none))

  pub put_some : (r : Option (Steps N)) (s : Steps N) → r ≡ Some s → s.steps ≤ length s.schedule
      → (Some s.steps ≡ length_of (found_of r)) × (over (steps_of s) out ≡ content (answer_to false (found_of r)) out)
  unfolding length_of
  put_some r s e h = rw e (ap Some (sym (length-take-le s.steps s.schedule h)), sym (content_found (steps_of s) out) ∙ ap (λ (a : Answer). content a out) (sym (answer_some (steps_of s))))

-- ---- the first that fails, where the output has room
module _ (M : Model) (p : Program) (out scratch : List ℕ) (long : M.need ≤ length out) where
  abbrev first : Math.Option Schedule
  first = head_of (sought M true p)

  pub first_put : (o : Math.Option Schedule) → o ≡ first → (r : Option ℕ) (later scratch' : List ℕ) → r ≡ length_of o → later ≡ content (answer_to false o) out → scratch' ≡ zeros scratch
      → (Ok r ≡ list_answer_of (answer_to (short M.need out) first)) × (later ≡ content (answer_to (short M.need out) first) out) × (scratch' ≡ cond (short M.need out) scratch (zeros scratch))
  first_put o e r later scratch' er el es =
      rw (le-ltb (length out) M.need long)
      (ap Ok er ∙ found_answer o ∙ ap (λ (q : Math.Option Schedule). list_answer_of (answer_to false q)) e, el ∙ ap (λ (q : Math.Option Schedule). content (answer_to false q) out) e, es)

-- ---- the scratch later
by_room : (b : Bool) (o : Math.Option Schedule) (scratch : List ℕ) → cond b scratch (zeros scratch) ≡ violation_scratch (violation_by b o) scratch
unfolding violation_by violation_scratch
by_room true o scratch = refl
by_room false none scratch = refl
by_room false (some s) scratch = refl

module _ (M : Model) (file scratch : List ℕ) where
  pub count_kept : (r : Refusal) → admit M (decode file) ≡ refused r.number r.place → scratch ≡ count_scratch (count_file M file) scratch
  unfolding count_on count_scratch
  count_kept r e = ap (λ (d : Decoded). count_scratch (count_on M d) scratch) (sym e)

  pub count_zeros : (p : Program) → admit M (decode file) ≡ accepted p → zeros scratch ≡ count_scratch (count_file M file) scratch
  unfolding count_on count_scratch
  count_zeros p e = ap (λ (d : Decoded). count_scratch (count_on M d) scratch) (sym e)

  module _ (out : List ℕ) where
    pub violation_kept : (r : Refusal) → admit M (decode file) ≡ refused r.number r.place → scratch ≡ violation_scratch (violation_file M file out).0 scratch
    unfolding violation_on violation_scratch
    violation_kept r e = ap (λ (d : Decoded). violation_scratch (violation_on M d out).0 scratch) (sym e)

    pub violation_zeros : (p : Program) → admit M (decode file) ≡ accepted p → cond (short M.need out) scratch (zeros scratch) ≡ violation_scratch (violation_file M file out).0 scratch
    unfolding violation_on violation_of
    violation_zeros p e = by_room (short M.need out) _ scratch ∙ ap (λ (d : Decoded). violation_scratch (violation_on M d out).0 scratch) (sym e)
