-- The calls that give a schedule, way by way.
use Rattle.std.proofs.Common.{◌≡◌, ℕ, ◌<◌, ◌≤◌, Bool, true, false, List, length, sym, ap, ◌∙◌, le-ltb, lt-ltb}
use mathlib.Core.Option.{Option, none, some}
use Rattle.std.specs.Prelude.{Result, Ok, Err, ⊤}
use Rattle.spec_file.specs.declared.refusal.Refusal.{Refusal}
use Rattle.spec_file.specs.Program.{Program}
use Rattle.spec_file.specs.Decode.{Decoded, accepted, decode}
use Rattle.spec_file.specs.Decode as File
use Rattle.spec_schedules.specs.Lists.{find, head_of}
use Rattle.spec_schedules.specs.Order.{Schedule}
use Rattle.spec_schedules.specs.Calls.{Answer, refused, answer_to, short, content}
use Rattle.spec_schedules.specs.Calls.{Result as Called}
use Rattle.spec_schedules.specs.Found.{after}
use Rattle.spec_schedules.proofs.First.{head_filter}
use Rattle.spec_schedules.proofs.After.{after_none, offer_after}
use Rattle.spec_schedules.proofs.Offered as Offered
use Rattle.spec_schedules.proofs.Offered.{content_found, content_nomore, content_refused}
use Rattle.spec_model.specs.Model.{Model, failing}
use Rattle.spec_model.specs.Alike.{list_of}
use Rattle.spec_model.specs.Answers.{start_of, refuses_from, continued, continue_of, Violation, violation_by, violation_content, violation_of}
use Rattle.spec_model.specs.OnFile.{admit, start_on, start_file, continue_on, continue_file, violation_on, violation_file}
use Rattle.spec_model.specs.Search.{sought}
use Rattle.spec_calls.proofs.Answered.{unchanged}
use Rattle.machine_replay.specs.Carried.{refusal_of}
use Rattle.machine_replay.proofs.Verdicts.{refusal_whole, refusal_refused}
use Rattle.listing.specs.AnswerOf.{length_of, list_answer_of, violation_answer_of}

-- ---- what there is to answer, where the output has room
pub found_answer : (o : Option Schedule) → Ok (length_of o) ≡ list_answer_of (answer_to false o)
unfolding length_of list_answer_of
found_answer none = ap list_answer_of (sym Offered.answer_none)
found_answer (some s) = ap list_answer_of (sym (Offered.answer_some s))

-- ---- start, on a file
module _ (M : Model) (file out : List ℕ) where
  pub start_refused : (r : Refusal) → admit M (decode file) ≡ File.refused r.number r.place → (Err r ≡ list_answer_of (start_file M file out).0) × (out ≡ (start_file M file out).1)
  unfolding start_on list_answer_of
  start_refused r e =
      let q = sym (ap (λ (d : Decoded). start_on M d out) e ∙ unchanged r.number r.place out) in
      (ap (λ (x : Called). list_answer_of x.0) q, ap (λ (x : Called). x.1) q)

  module _ (p : Program) (e : admit M (decode file) ≡ accepted p) (l : List Schedule) (is : l ≡ sought M false p) where
    start_answer : answer_to (short M.need out) (head_of l) ≡ (start_of M p out).0
    unfolding start_of sought
    start_answer = ap (answer_to (short M.need out)) (ap head_of (is ∙ sym (after_none (list_of M p))) ∙ offer_after none (list_of M p))

    pub start_answered : answer_to (short M.need out) (head_of l) ≡ (start_file M file out).0
    unfolding start_on
    start_answered = start_answer ∙ ap (λ (d : Decoded). (start_on M d out).0) (sym e)

    pub start_output : content (answer_to (short M.need out) (head_of l)) out ≡ (start_file M file out).1
    unfolding start_on start_of
    start_output = ap (λ (a : Answer). content a out) start_answer ∙ ap (λ (d : Decoded). (start_on M d out).1) (sym e)

-- ---- continue, on a program
module _ (M : Model) (p : Program) (s : Schedule) (out : List ℕ) where
  -- continue refuses by this number, at this place
  refuses : (r : Refusal) → continue_of M p s out ≡ (refused r.number r.place, out) → (Err r ≡ list_answer_of (continue_of M p s out).0) × (out ≡ (continue_of M p s out).1)
  unfolding list_answer_of
  refuses r e = (ap (λ (x : Called). list_answer_of x.0) (sym e), ap (λ (x : Called). x.1) (sym e))

  pub continue_short : length out < M.need → (Err (record { number = 22; place = 0 }) ≡ list_answer_of (continue_of M p s out).0) × (out ≡ (continue_of M p s out).1)
  unfolding continue_of
  continue_short h = refuses _ (rw (lt-ltb (length out) M.need h) (unchanged 22 0 out))

  module _ (wide : M.need ≤ length out) (v : Result ⊤ Refusal) (said : refusal_of v ≡ refuses_from M.system 0 (M.start p) s) where
    -- refused by 20 or 21
    pub continue_refused : (r : Refusal) → v ≡ Err r → (Err r ≡ list_answer_of (continue_of M p s out).0) × (out ≡ (continue_of M p s out).1)
    unfolding continue_of continued
    continue_refused r e = refuses r (rw (le-ltb (length out) M.need wide, sym said ∙ ap refusal_of e ∙ refusal_refused r) (unchanged r.number r.place out))

    module _ (l : List Schedule) (is : l ≡ after (some s) (sought M false p)) (whole : v ≡ Ok tt) where
      pub continue_whole : answer_to (short M.need out) (head_of l) ≡ (continue_of M p s out).0
      unfolding continue_of continued sought
      continue_whole =
          rw (le-ltb (length out) M.need wide, sym said ∙ ap refusal_of whole ∙ refusal_whole) (ap (answer_to false) (ap head_of is ∙ offer_after (some s) (list_of M p)))

      pub continue_output : content (answer_to (short M.need out) (head_of l)) out ≡ (continue_of M p s out).1
      unfolding continue_of
      continue_output = ap (λ (a : Answer). content a out) continue_whole

-- on a file
module _ (M : Model) (file s out : List ℕ) where
  pub continue_file_lem : (p : Program) → admit M (decode file) ≡ accepted p → continue_of M p s out ≡ continue_file M file s out
  unfolding continue_on
  continue_file_lem p e = ap (λ (d : Decoded). continue_on M d s out) (sym e)

  pub continue_file_refused : (r : Refusal) → admit M (decode file) ≡ File.refused r.number r.place → (Err r ≡ list_answer_of (continue_file M file s out).0) × (out ≡ (continue_file M file s out).1)
  unfolding continue_on list_answer_of
  continue_file_refused r e =
      let q = sym (ap (λ (d : Decoded). continue_on M d s out) e ∙ unchanged r.number r.place out) in
      (ap (λ (x : Called). list_answer_of x.0) q, ap (λ (x : Called). x.1) q)

-- ---- violation
pub same_violation_answer : (b : Bool) (o : Option Schedule) → list_answer_of (answer_to b o) ≡ violation_answer_of (violation_by b o)
unfolding list_answer_of violation_answer_of violation_by
same_violation_answer true o = ap list_answer_of (Offered.answer_short o)
same_violation_answer false none = ap list_answer_of Offered.answer_none
same_violation_answer false (some s) = ap list_answer_of (Offered.answer_some s)

pub same_content : (b : Bool) (o : Option Schedule) (out : List ℕ) → content (answer_to b o) out ≡ violation_content (violation_by b o) out
unfolding violation_content violation_by
same_content true o out = ap (λ (a : Answer). content a out) (Offered.answer_short o) ∙ content_refused 22 0 out
same_content false none out = ap (λ (a : Answer). content a out) Offered.answer_none ∙ content_nomore out
same_content false (some s) out = ap (λ (a : Answer). content a out) (Offered.answer_some s) ∙ content_found s out

module _ (M : Model) (file out : List ℕ) where
  pub violation_refused : (r : Refusal) → admit M (decode file) ≡ File.refused r.number r.place
      → (Err r ≡ violation_answer_of (violation_file M file out).0) × (out ≡ (violation_file M file out).1)
  unfolding violation_on violation_content violation_answer_of
  violation_refused r e =
      let q = sym (ap (λ (d : Decoded). violation_on M d out) e) in
      (ap (λ (x : Violation × List ℕ). violation_answer_of x.0) q, ap (λ (x : Violation × List ℕ). x.1) q)

  module _ (p : Program) (e : admit M (decode file) ≡ accepted p) (l : List Schedule) (is : l ≡ sought M true p) where
    sought_first : head_of l ≡ find (failing M p) (list_of M p)
    unfolding sought
    sought_first = ap head_of is ∙ head_filter (failing M p) (list_of M p)

    violation_on_lem : violation_of M p out ≡ violation_file M file out
    unfolding violation_on
    violation_on_lem = ap (λ (d : Decoded). violation_on M d out) (sym e)

    pub violation_answer : list_answer_of (answer_to (short M.need out) (head_of l)) ≡ violation_answer_of (violation_file M file out).0
    unfolding violation_of
    violation_answer =
        same_violation_answer (short M.need out) (head_of l)
        ∙ ap (λ (o : Option Schedule). violation_answer_of (violation_by (short M.need out) o)) sought_first ∙ ap (λ (r : Violation × List ℕ). violation_answer_of r.0) violation_on_lem

    pub violation_output : content (answer_to (short M.need out) (head_of l)) out ≡ (violation_file M file out).1
    unfolding violation_of
    violation_output =
        same_content (short M.need out) (head_of l) out
        ∙ ap (λ (o : Option Schedule). violation_content (violation_by (short M.need out) o) out) sought_first ∙ ap (λ (r : Violation × List ℕ). r.1) violation_on_lem
