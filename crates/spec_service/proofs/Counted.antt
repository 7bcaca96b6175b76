-- COUNTED: an open caller's count is the number of schedules that it was handed since it opened, modulo 2^64.
use Prim.Native.Nat.{ℕ, ◌+◌, ◌%◌, ◌^◌, ◌<◌}
use mathlib.Core.Path.{◌≡◌, refl, sym, ap, subst, ◌∙◌}
use mathlib.Core.Logic.{◌⊎◌, inl, inr, ⊎_elim}
use mathlib.Core.Bool.{Bool, true, false}
use mathlib.Core.Option.{Option, none, some}
use mathlib.Core.List.{List, [], ◌∷◌, ◌++◌}
use native.Mathlib.Omega.{arith}
use borrow.Author.Tests.{eq-eqb}
use Rattle.spec_file.specs.Program.{Program}
use Rattle.spec_schedules.specs.Lists.{head_of}
use Rattle.spec_schedules.specs.Order.{Schedule}
use Rattle.spec_service.specs.declared.caller.Caller.{Caller}
use Rattle.spec_service.specs.Seat.{Place, active, to_come}
use Rattle.spec_service.specs.Record.{asked, served, with_marks, returned, standing, handing, counting}
use Rattle.spec_service.specs.Call.{Call, open_for, ask_for, serve, close_for, set_mark, return_to, forget, Answer, done, Shared, seat_of, handed_to, answer_to, after}
use Rattle.spec_service.specs.Play.{answers, behind_all, hands_to, received, schedules_of, Stays}
use Rattle.spec_service.proofs.Seats.{Four, four_after}
use Rattle.spec_service.proofs.Touches.{record_of, whose, own_done, Apart, Own, Taken, touch}
use Rattle.spec_service.proofs.Fates.{Kept, Served, fate, not_opened, set_done, known_done, set_leaves, forget_leaves, return_leaves, taken_is}
use Rattle.spec_service.proofs.InOrder.{stays_now, stays_on}

-- ---- one call
module _ (σ : Shared) (four : Four σ.callers) (k : ℕ) (small : k < 4) (p : Program) (x : Place) (a : Bool) (seat : seat_of σ.callers k ≡ active p x a) where
  -- a call adds what it hands to the caller's count, which stays below 2^64
  abbrev Adds : Call → Type 0
  Adds c = ((n : ℕ) → ((record_of (after c σ) k).count + n) % 2 ^ 64 ≡ ((record_of σ k).count + (schedules_of (hands_to k (answer_to c σ)) + n)) % 2 ^ 64)
      × ((record_of σ k).count < 2 ^ 64 → (record_of (after c σ) k).count < 2 ^ 64)

  abbrev OwnHere : Call → Type 0
  OwnHere c = Own σ four k small c

  adds_none : (c : Call) → schedules_of (hands_to k (answer_to c σ)) ≡ 0 → (record_of (after c σ) k).count ≡ (record_of σ k).count → Adds c
  adds_none c h e = (λ n. rw (e, h) (let m = (record_of σ k).count in omega arith), λ s. rw e s)

  adds_one : (c : Call) → schedules_of (hands_to k (answer_to c σ)) ≡ 1 → (record_of (after c σ) k).count ≡ ((record_of σ k).count + 1) % 2 ^ 64 → Adds c
  adds_one c h e = (λ n. rw (e, h) (let m = (record_of σ k).count in omega arith), λ s. rw e (let m = (record_of σ k).count in omega arith))

  adds_nothing : (c : Call) → hands_to k (answer_to c σ) ≡ [] → (record_of (after c σ) k).count ≡ (record_of σ k).count → Adds c
  unfolding schedules_of
  adds_nothing c h e = adds_none c (ap schedules_of h) e

  adds_own : (c : Call) → OwnHere c → (own_done c (record_of σ k)).count ≡ (record_of σ k).count → Adds c
  unfolding hands_to
  adds_own c o e = adds_nothing c (ap (hands_to k) o.answered) (ap (λ (r : Caller). r.count) o.leaves ∙ e)

  count_ask : (own_done (ask_for k) (record_of σ k)).count ≡ (record_of σ k).count
  unfolding own_done asked standing
  count_ask = refl

  count_set : (m : List ℕ) → answer_to (set_mark k m) σ ≡ done → (own_done (set_mark k m) (record_of σ k)).count ≡ (record_of σ k).count
  unfolding with_marks
  count_set m e = let d = (set_done σ four k small p x a seat m e).1 in ap (λ (r : Caller). r.count) (set_leaves σ four k small p x a seat m d.0 d.1)

  count_forget : (m : List ℕ) → (own_done (forget k m) (record_of σ k)).count ≡ (record_of σ k).count
  unfolding with_marks
  count_forget m = ap (λ (r : Caller). r.count) (forget_leaves σ four k small p x a seat m)

  count_return : (m : List ℕ) → answer_to (return_to k m) σ ≡ done → (own_done (return_to k m) (record_of σ k)).count ≡ (record_of σ k).count
  unfolding returned standing answer_to
  count_return m e = let d = known_done σ four k small p x a seat m e in ap (λ (r : Caller). r.count) (return_leaves σ four k small p x a seat m d.0 d.1)

  own_count : (c : Call) → (c ≡ close_for k → ⊥) → OwnHere c → Adds c
  unfolding whose
  own_count (open_for j f) z o = let q : k ≡ j = (let w = o.mine in cc) in absurd (not_opened σ four k small p x a seat f (subst (λ (m : ℕ). answer_to (open_for m f) σ ≡ done) (sym q) o.answered))
  own_count (ask_for j) z o = let q : k ≡ j = (let w = o.mine in cc) in subst (λ (m : ℕ). OwnHere (ask_for m) → Adds (ask_for m)) q (λ u. adds_own (ask_for k) u count_ask) o
  own_count (serve out) z o = absurd (let w = o.mine in let y : ◌≡◌ {A = ℕ} 0 1 = cc in omega arith)
  own_count (close_for j) z o = let q : k ≡ j = (let w = o.mine in cc) in absurd (z (ap close_for (sym q)))
  own_count (set_mark j m) z o =
      let q : k ≡ j = (let w = o.mine in cc) in subst (λ (i : ℕ). OwnHere (set_mark i m) → Adds (set_mark i m)) q (λ u. adds_own (set_mark k m) u (count_set m u.answered)) o
  own_count (return_to j m) z o =
      let q : k ≡ j = (let w = o.mine in cc) in subst (λ (i : ℕ). OwnHere (return_to i m) → Adds (return_to i m)) q (λ u. adds_own (return_to k m) u (count_return m u.answered)) o
  own_count (forget j m) z o =
      let q : k ≡ j = (let w = o.mine in cc) in subst (λ (i : ℕ). OwnHere (forget i m) → Adds (forget i m)) q (λ u. adds_own (forget k m) u (count_forget m)) o

  taken_count : (c : Call) → Taken σ four k small c → Adds c
  unfolding hands_to handed_to served standing handing counting schedules_of
  taken_count c t = go (head_of (to_come p x)) own.0 own.1
    where
      own : (answer_to c σ ≡ handed_to k (head_of (to_come p x))) × (record_of (after c σ) k ≡ served (record_of σ k) (head_of (to_come p x)))
      own = taken_is σ four k small p x a seat c t

      go : (o : Option Schedule) → answer_to c σ ≡ handed_to k o → record_of (after c σ) k ≡ served (record_of σ k) o → Adds c
      go none e h = adds_none c (ap (λ (b : Answer). schedules_of (hands_to k b)) e ∙ rw (eq-eqb k k refl)) (ap (λ (r : Caller). r.count) h)
      go (some s) e h = adds_one c (ap (λ (b : Answer). schedules_of (hands_to k b)) e ∙ rw (eq-eqb k k refl)) (ap (λ (r : Caller). r.count) h)

  pub adds : (c : Call) → (c ≡ close_for k → ⊥) → Adds c
  adds c z = ⊎_elim (λ (t : Apart σ four k small c). adds_nothing c t.nothing (ap (λ (r : Caller). r.count) t.leaves))
      (λ (t : OwnHere c ⊎ Taken σ four k small c). ⊎_elim (λ (o : OwnHere c). own_count c z o) (λ (y : Taken σ four k small c). taken_count c y) t)
      (touch σ four k small c)

schedules_append : (u v : List (Option Schedule)) → schedules_of (u ++ v) ≡ schedules_of u + schedules_of v
unfolding schedules_of
schedules_append [] v = let m = schedules_of v in omega arith
schedules_append (some s ∷ u) v = let e = schedules_append u v in omega (arith, e)
schedules_append (none ∷ u) v = schedules_append u v

-- ---- every list of calls
module _ (k : ℕ) (small : k < 4) (p : Program) where
  pub counted_from : (cs : List Call) (σ : Shared) (x : Place) (a : Bool) → Four σ.callers → seat_of σ.callers k ≡ active p x a → Stays k cs →
      (record_of σ k).count < 2 ^ 64 → (record_of (behind_all cs σ) k).count ≡ ((record_of σ k).count + schedules_of (received k (answers cs σ))) % 2 ^ 64
  unfolding behind_all answers received schedules_of
  counted_from [] σ x a h seat st i = let m = (record_of σ k).count in omega (arith, i)
  counted_from (c ∷ cs) σ x a h seat st i = ⊎_elim
      (λ (q : Kept σ h k small p x a seat c). counted_from cs (after c σ) q.place q.asking (four_after c σ h) q.stands (stays_on st) (here.1 i) ∙ one)
      (λ (q : Served σ h k small p x a seat c). counted_from cs (after c σ) q.place false (four_after c σ h) q.stands (stays_on st) (here.1 i) ∙ one)
      (fate σ h k small p x a seat c (stays_now st))
    where
      here : Adds σ h k small p x a seat c
      here = adds σ h k small p x a seat c (stays_now st)

      one : ((record_of (after c σ) k).count + schedules_of (received k (answers cs (after c σ)))) % 2 ^ 64
          ≡ ((record_of σ k).count + schedules_of (hands_to k (answer_to c σ) ++ received k (answers cs (after c σ)))) % 2 ^ 64
      one = here.0 (schedules_of (received k (answers cs (after c σ))))
          ∙ ap (λ (n : ℕ). ((record_of σ k).count + n) % 2 ^ 64) (sym (schedules_append (hands_to k (answer_to c σ)) (received k (answers cs (after c σ)))))
