-- What a serve answers and leaves, way by way of the code.
use Prim.Native.Nat.{ℕ, ◌<◌}
use mathlib.Core.Path.{◌≡◌, refl, sym, ap, ◌∙◌}
use mathlib.Core.Bool.{Bool, true, false, cond, not, false≢true}
use mathlib.Core.Option.{Option, none, some}
use mathlib.Core.List.{List}
use borrow.Author.Tests.{lt-ltb}
use lib.Dec.{eqb}
use lib.ListN.{length, get_or, set, take, replicate}
use Rattle.spec_file.specs.Over.{over}
use Rattle.spec_file.proofs.Over.{take_over}
use Rattle.spec_schedules.specs.Order.{Schedule}
use Rattle.spec_schedules.specs.Calls.{short}
use Rattle.spec_service.specs.declared.caller.Caller.{Caller}
use Rattle.spec_service.specs.Record.{reading, fresh, served}
use Rattle.spec_service.specs.Call.{serve, Answer, refused, seat_of, next_asking, for_seat, handed_to, served_to, serve_answer, callers_after, output_after}
use Rattle.service_record.specs.declared.next.Next.{Next}
use Rattle.service_record.specs.Next.{next_of}
use Rattle.spec_file.specs.declared.refusal.Refusal.{Refusal}
use Rattle.std.specs.Prelude.{Some, None, Result, Ok}
use Rattle.std.specs.Prelude as Code
use Rattle.spec_service.specs.declared.reply.Reply.{Reply}
use Rattle.spec_service.specs.declared.reply.Reply.TheVariants.{Given, Ended}
use Rattle.spec_service.specs.Reply.{reply_of}
use Rattle.service_serve.specs.Turn.{turn_of, kept_for, Leaves}

-- ---- what a caller gets
steps_in : Code.Option Next → ℕ
steps_in (Some x) = x.steps
steps_in None = 0

abbrev answered : Reply → Result Reply Refusal
answered r = Ok r

left_by : (k : ℕ) (cs : List Caller) (c : Caller) → c ≡ get_or cs k fresh → (out : List ℕ) (x : Option Schedule)
    → (answered (kept_for k c x).1 ≡ reply_of (handed_to k x)) × (set cs k (kept_for k c x).0 ≡ callers_after (serve out) (handed_to k x) cs)
unfolding kept_for handed_to reply_of callers_after
left_by k cs c own out none = (refl, ap (λ (r : Caller). set cs k (served r none)) own)
left_by k cs c own out (some s) = (refl, ap (λ (r : Caller). set cs k (served r (some s))) own)

module _ (k : ℕ) (c r : Caller) where
  pub gave_kept : (o : Option Schedule) (x : Next) → Some x ≡ next_of o → r ≡ served c o → (n : ℕ) → n ≡ x.steps → (r, Given k n) ≡ kept_for k c o
  unfolding next_of kept_for steps_in
  gave_kept none x e q n l = cc
  gave_kept (some s) x e q n l = let j : n ≡ length s = l ∙ ap steps_in e in λ i. (q i, Given k (j i))

  pub gave_output : (o : Option Schedule) (x : Next) → Some x ≡ next_of o → (n : ℕ) → n ≡ x.steps → (out out' : List ℕ) → out' ≡ over (take n x.schedule) out → out' ≡ output_after (handed_to k o) out
  unfolding next_of handed_to output_after
  gave_output none x e n l out out' p = cc
  gave_output (some s) x e n l out out' p =
      let f : x ≡ record { steps = length s; schedule = over s (replicate 24 0) } = cc in
      p ∙ ap (λ (i : ℕ). over (take i x.schedule) out) (l ∙ ap (λ (y : Next). y.steps) f) ∙ ap (λ (y : Next). over (take (length s) y.schedule) out) f ∙ ap (λ (t : List ℕ). over t out) (take_over s (replicate 24 0))

  pub ended_kept : (o : Option Schedule) → None ≡ next_of o → r ≡ served c o → (r, Ended k) ≡ kept_for k c o
  unfolding next_of kept_for
  ended_kept none e q = λ i. (q i, Ended k)
  ended_kept (some s) e q = cc

  pub ended_output : (o : Option Schedule) → None ≡ next_of o → (out : List ℕ) → out ≡ output_after (handed_to k o) out
  unfolding next_of handed_to output_after
  ended_output none e out = refl
  ended_output (some s) e out = cc

-- ---- where a serve is about caller k
module _ (cs : List Caller) (m : ℕ) (out : List ℕ) (k : ℕ) (about : Ok (Some k) ≡ turn_of (serve_answer cs m out)) where
  taken : (b d : Bool) (o : Option ℕ) → Ok (Some k) ≡ turn_of (cond b (refused 22 0) (cond d (refused 22 0) (served_to cs o))) →
      (d ≡ false) × (cond b (refused 22 0) (cond d (refused 22 0) (served_to cs o)) ≡ handed_to k (for_seat (seat_of cs k)))
  unfolding turn_of served_to handed_to
  taken true d o e = cc
  taken false true o e = cc
  taken false false none e = cc
  taken false false (some j) e =
      let q : k ≡ j = go (for_seat (seat_of cs j)) e in
      (refl, sym (ap (λ (i : ℕ). handed_to i (for_seat (seat_of cs i))) q))
    where
      go : (o : Option Schedule) → Ok (Some k) ≡ turn_of (handed_to j o) → k ≡ j
      go none z = cc
      go (some s) z = cc

  pub about_room : length out < 24 → ⊥
  unfolding serve_answer
  about_room h = false≢true (sym (taken (not (eqb (length cs) 4)) (short 24 out) (next_asking cs m) about).0 ∙ lt-ltb (length out) 24 h)

  pub about_taken : serve_answer cs m out ≡ handed_to k (for_seat (seat_of cs k))
  unfolding serve_answer
  about_taken = (taken (not (eqb (length cs) 4)) (short 24 out) (next_asking cs m) about).1

  -- what is left
  pub leaves_taken : (c : Caller) → c ≡ get_or cs k fresh → (o : Caller × Reply) (out' : List ℕ) → o ≡ kept_for k c (for_seat (reading c)) → out' ≡ output_after (handed_to k (for_seat (reading c))) out
      → Leaves cs m out k (Ok o.1) o.0 out'
  unfolding seat_of
  leaves_taken c own o out' e q =
      let a : serve_answer cs m out ≡ handed_to k (for_seat (reading c)) = about_taken ∙ ap (λ (r : Caller). handed_to k (for_seat (reading r))) (sym own) in
      let l = left (for_seat (reading c)) in (
        ap (λ (z : Caller × Reply). Ok z.1) e ∙ l.0 ∙ sym (ap reply_of a),
        ap (λ (z : Caller × Reply). set cs k z.0) e ∙ l.1 ∙ sym (ap (λ (z : Answer). callers_after (serve out) z cs) a),
        q ∙ sym (ap (λ (z : Answer). output_after z out) a),
      )
    where
      left : (x : Option Schedule) → (answered (kept_for k c x).1 ≡ reply_of (handed_to k x)) × (set cs k (kept_for k c x).0 ≡ callers_after (serve out) (handed_to k x) cs)
      left x = left_by k cs c own out x
