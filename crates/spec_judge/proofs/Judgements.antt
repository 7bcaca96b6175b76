-- Every file, text and room has exactly one judgement: the walk's answer is one, and every one is the walk's answer.
use Prim.Native.Nat.{ℕ, ◌<◌, ◌≤◌}
use mathlib.Core.Path.{◌≡◌, refl, sym, ap, subst, ◌∙◌}
use mathlib.Core.Logic.{⊎_elim}
use mathlib.Core.Bool.{true, false, false≢true}
use mathlib.Core.Option.{Option, none, some}
use mathlib.Core.List.{List}
use native.Mathlib.Omega.{arith}
use native.Mathlib.Decide.{dec_lt}
use borrow.Author.Tests.{lt-ltb, le-ltb}
use lib.ListN.{length}
use Rattle.spec_file.specs.Program.{Program}
use Rattle.spec_file.specs.WellFormed.{WellFormed}
use Rattle.spec_file.specs.Decode.{Decoded, accepted, refused, decode}
use Rattle.spec_file.proofs.AcceptedWellFormed.{accepted_well_formed}
use Rattle.spec_schedules.specs.Order.{Schedule, less}
use Rattle.spec_schedules.proofs.Order.{not_less_at_most}
use Rattle.spec_sc.specs.Graph.{Graph}
use Rattle.spec_judge.specs.Consistent.{Consistent}
use Rattle.spec_judge.specs.Least.{LeastFor}
use Rattle.spec_judge.specs.Reading.{Parsed, parsed, refused_at, read_graph}
use Rattle.spec_judge.specs.Answer.{Answer, consistent, inconsistent, refusing, TextRead, Judgement, program_refused, output_refused, text_refused, judged_yes, judged_no}
use Rattle.spec_judge.proofs.Walk.{judge}
use Rattle.spec_judge.proofs.ByWalk.{answer_of, answer_to, answer_text, answer_on, answer_file}
use Rattle.spec_judge.proofs.Judged.{judge_yes, judge_no, judge_consistent}

-- a graph has one least schedule
pub least_one : (p : Program) (g : Graph) (r s : Schedule) → LeastFor p g r → LeastFor p g s → r ≡ s
least_one p g r s a b = ⊎_elim (λ (q : r ≡ s). q) (λ (q : less r s ≡ true). absurd (false≢true (sym (b.1 r a.0) ∙ q))) (not_less_at_most r s (a.1 s b.0))

module _ (file text : List ℕ) (room : ℕ) where
  abbrev J : Answer → Type 0
  J = Judgement file text room

  -- to a graph that was read
  pub graph_judged : (p : Program) (g : Graph) → TextRead file text room p (parsed g) → (o : Option Schedule) → judge p g ≡ o → J (answer_of o)
  unfolding answer_of
  graph_judged p g d none e = judged_no p g d ((judge_no p (accepted_well_formed file p d.accepts) g).0 e)
  graph_judged p g d (some s) e = let r = judge_yes p (accepted_well_formed file p d.accepts) g s e in judged_yes p g s d r.1 r.0

  -- to a text that was read
  pub text_judged : (p : Program) (r : Parsed) → TextRead file text room p r → J (answer_to p r)
  unfolding answer_to
  text_judged p (parsed g) d = graph_judged p g d (judge p g) refl
  text_judged p (refused_at n k) d = text_refused p n k d

  room_judged : (p : Program) → decode file ≡ accepted p → Dec (room < 24) → J (answer_text p text room)
  unfolding answer_text
  room_judged p e (yes h) = rw (lt-ltb room 24 h) (output_refused p e h)
  room_judged p e (no h) =
      let enough : 24 ≤ room = omega (arith, h) in
      rw (le-ltb room 24 enough) (text_judged p (read_graph (length p.threads) text) (record { accepts = e; enough = enough; reads = refl }))

  file_judged : (d : Decoded) → decode file ≡ d → J (answer_on d text room)
  unfolding answer_on
  file_judged (accepted p) e = room_judged p e (dec_lt room 24)
  file_judged (refused n k) e = program_refused n k e

  -- the walk's answer is right
  pub walk_judged : J (answer_file file text room)
  unfolding answer_file
  walk_judged = file_judged (decode file) refl

  -- THERE IS AN ANSWER
  pub judgement_exists : (a : Answer) × J a
  judgement_exists = (answer_file file text room, walk_judged)

  accepted_answer : (p : Program) → decode file ≡ accepted p → answer_file file text room ≡ answer_text p text room
  unfolding answer_file answer_on
  accepted_answer p e = ap (λ (d : Decoded). answer_on d text room) e

  read_answer : (p : Program) (r : Parsed) → TextRead file text room p r → answer_file file text room ≡ answer_to p r
  unfolding answer_text
  read_answer p r d = accepted_answer p d.accepts ∙ rw (le-ltb room 24 d.enough, d.reads)

  yes_found : (p : Program) → WellFormed p → (g : Graph) (s : Schedule) → Consistent p g → LeastFor p g s → judge p g ≡ some s
  yes_found p wf g s c l =
      let r = judge_consistent p wf g c in
      r.1 ∙ ap (λ (x : Schedule). some x) (least_one p g r.0 s (judge_yes p wf g r.0 r.1).0 l)

  -- every right answer is the walk's
  judgement_is : {a : Answer} → J a → answer_file file text room ≡ a
  unfolding answer_file answer_on answer_text answer_to answer_of
  judgement_is (program_refused n k e) = ap (λ (d : Decoded). answer_on d text room) e
  judgement_is (output_refused p e h) = accepted_answer p e ∙ rw (lt-ltb room 24 h)
  judgement_is (text_refused p n k d) = read_answer p (refused_at n k) d
  judgement_is (judged_yes p g s d c l) = read_answer p (parsed g) d ∙ ap answer_of (yes_found p (accepted_well_formed file p d.accepts) g s c l)
  judgement_is (judged_no p g d n) = read_answer p (parsed g) d ∙ ap answer_of ((judge_no p (accepted_well_formed file p d.accepts) g).1 n)

  -- THERE IS ONE ANSWER ONLY
  pub judgement_unique : (a b : Answer) → J a → J b → a ≡ b
  judgement_unique a b i j = sym (judgement_is i) ∙ judgement_is j

  -- an answer found by computing is right
  pub computed_judged : (a : Answer) → answer_file file text room ≡ a → J a
  computed_judged a e = subst J e walk_judged
