-- FAIR: a caller that asks and does not close is served by the fourth serve at the latest. Each serve that takes another brings it nearer.
use Prim.Native.Nat.{ℕ, zero, suc, ◌+◌, ◌-◌, ◌%◌, ◌<◌, ◌≤◌}
use mathlib.Core.Path.{◌≡◌, refl, sym, ap, subst, ◌∙◌}
use mathlib.Core.Logic.{◌⊎◌, inl, inr, ⊎_elim}
use mathlib.Core.Bool.{Bool, true, false, cond}
use mathlib.Core.Option.{Option, none, some}
use mathlib.Core.List.{List, [], ◌∷◌, ◌++◌, map}
use native.Mathlib.Omega.{arith}
use borrow.Author.Tests.{eq-eqb, le-ltb, ltb-false}
use lib.Dec.{eqb, ltb}
use Rattle.spec_file.specs.Program.{Program}
use Rattle.spec_schedules.specs.Lists.{find}
use Rattle.spec_schedules.specs.Order.{Schedule}
use Rattle.spec_service.specs.declared.caller.Caller.{Caller}
use Rattle.spec_service.specs.Seat.{Place, Seat, active, is_open, asks}
use Rattle.spec_service.specs.Marks.{is_some, slot_of, slot_for}
use Rattle.spec_service.specs.Call.{Call, open_for, ask_for, serve, close_for, set_mark, return_to, forget, Answer, done, given, ended, idle, refused, Shared, seat_of, last_read, in_turn, next_asking, for_seat, handed_to, served_to, open_answer, open_only, marks_only, done_if, marks_of, set_answer, known_only, serve_answer, answer_to, last_after, after}
use Rattle.spec_service.specs.Play.{answers, hands_to, received, is_serve, serves, Stays}
use Rattle.spec_service.proofs.Rotation.{last_small, last_twice, distance, turn_nearer}
use Rattle.spec_service.proofs.Seats.{Four, Opens, Marking, open_either, only_either, marks_either, serve_either, four_after}
use Rattle.spec_service.proofs.Fates.{Kept, Served, fate}
use Rattle.spec_service.proofs.InOrder.{stays_now, stays_on}

-- there are never more than three between two callers
pub distance_small : (n k : ℕ) → distance n k ≤ 3
unfolding distance
distance_small n k = let m = k + 3 - n in omega arith

-- how one call brings caller k, which asks and is handed nothing, nearer: no serve, and the last one served stays; or a serve, and k is nearer
module _ (σ : Shared) (four : Four σ.callers) (k : ℕ) (small : k < 4) (p : Program) (x : Place) (seat : seat_of σ.callers k ≡ active p x true) where
  abbrev pub Nearer : Answer → Type 0
  Nearer b = ((is_serve b ≡ false) × (last_read (last_after b σ.last) ≡ last_read σ.last))
      ⊎ ((is_serve b ≡ true) × (distance (last_read (last_after b σ.last)) k < distance (last_read σ.last) k))

  by_refused : (n m : ℕ) → Nearer (refused n m)
  unfolding is_serve last_after
  by_refused n m = inl (refl, refl)

  by_done : Nearer done
  unfolding is_serve last_after
  by_done = inl (refl, last_twice (last_read σ.last) (last_small σ.last))

  by_own : (j : ℕ) → Nearer (open_only σ.callers j)
  by_own j = ⊎_elim
      (λ (e : (open_only σ.callers j ≡ done) × (j < 4) × (is_open (seat_of σ.callers j) ≡ true)). subst Nearer (sym e.0) by_done)
      (λ (e : (n : ℕ) × (m : ℕ) × (open_only σ.callers j ≡ refused n m)). subst Nearer (sym e.2) (by_refused e.0 e.1))
      (only_either σ.callers j four)

  by_serve : (out : List ℕ) → hands_to k (serve_answer σ.callers σ.last out) ≡ [] → Nearer (serve_answer σ.callers σ.last out)
  unfolding next_asking served_to handed_to hands_to is_serve last_after asks
  by_serve out n = ⊎_elim
      (λ (e : serve_answer σ.callers σ.last out ≡ refused 22 0). subst Nearer (sym e) (by_refused 22 0))
      (λ (e : serve_answer σ.callers σ.last out ≡ served_to σ.callers (next_asking σ.callers σ.last)).
      let t = e ∙ ap (served_to σ.callers) found.1 in
      subst Nearer (sym t) (go (for_seat (seat_of σ.callers found.0)) (subst (λ (b : Answer). hands_to k b ≡ []) t n)))
      (serve_either σ.callers σ.last out four)
    where
      asking : ℕ → Bool
      asking j = asks (seat_of σ.callers j)

      found : (m : ℕ) × (find asking (in_turn σ.last) ≡ some m) × (m < 4) × (asking m ≡ true) × ((m ≡ k) ⊎ (distance m k < distance (last_read σ.last) k))
      found = turn_nearer asking σ.last k small (ap asks seat)

      near : (o : Option Schedule) → hands_to k (handed_to found.0 o) ≡ [] → distance (last_read found.0) k < distance (last_read σ.last) k
      near o h = ⊎_elim (λ (q : found.0 ≡ k). absurd (mine o q h)) (λ (d : distance found.0 k < distance (last_read σ.last) k). rw (last_twice found.0 found.2) d) found.4
        where
          mine : (o : Option Schedule) → found.0 ≡ k → hands_to k (handed_to found.0 o) ≡ [] → ⊥
          mine none q h = let z : ◌≡◌ {A = List (Option Schedule)} (none ∷ []) [] = rw (eq-eqb found.0 k q) at h in let y : ◌≡◌ {A = ℕ} 0 1 = cc in absurd (omega arith)
          mine (some s) q h = let z : ◌≡◌ {A = List (Option Schedule)} (some s ∷ []) [] = rw (eq-eqb found.0 k q) at h in let y : ◌≡◌ {A = ℕ} 0 1 = cc in absurd (omega arith)

      go : (o : Option Schedule) → hands_to k (handed_to found.0 o) ≡ [] → Nearer (handed_to found.0 o)
      go none h = inr (refl, near none h)
      go (some s) h = inr (refl, near (some s) h)

  by_marks : (j : ℕ) (n : List ℕ) (g : Program → Bool) (w : ℕ) → Nearer (marks_only σ.callers j n (λ y. done_if (g y) w))
  by_marks j n g w = ⊎_elim
      (λ (e : (marks_only σ.callers j n (λ y. done_if (g y) w) ≡ done) × Marking σ.callers j n g). subst Nearer (sym e.0) by_done)
      (λ (e : (v : ℕ) × (m : ℕ) × (marks_only σ.callers j n (λ y. done_if (g y) w) ≡ refused v m)). subst Nearer (sym e.2) (by_refused e.0 e.1))
      (marks_either σ.callers j n g w four)

  nearer : (c : Call) → hands_to k (answer_to c σ) ≡ [] → Nearer (answer_to c σ)
  unfolding answer_to set_answer known_only
  nearer (open_for j f) h = ⊎_elim
      (λ (e : (open_answer σ.callers j f ≡ done) × Opens σ.callers j f). subst Nearer (sym e.0) by_done)
      (λ (e : (n : ℕ) × (m : ℕ) × (open_answer σ.callers j f ≡ refused n m)). subst Nearer (sym e.2) (by_refused e.0 e.1))
      (open_either σ.callers j f four)
  nearer (ask_for j) h = by_own j
  nearer (serve out) h = by_serve out h
  nearer (close_for j) h = by_own j
  nearer (set_mark j n) h = by_marks j n (λ y. is_some (slot_for y n (marks_of σ.callers j))) 47
  nearer (return_to j n) h = by_marks j n (λ y. is_some (slot_of y n (marks_of σ.callers j))) 46
  nearer (forget j n) h = by_marks j n (λ y. is_some (slot_of y n (marks_of σ.callers j))) 46

-- nothing in front and nothing behind: nothing at all
nothing_both : {A : Type 0} (u v : List A) → (u ++ v) ≡ [] → (u ≡ []) × (v ≡ [])
nothing_both [] v e = (refl, e)
nothing_both (x ∷ u) v e = let y : ◌≡◌ {A = ℕ} 0 1 = cc in absurd (omega arith)

module _ (k : ℕ) (small : k < 4) (p : Program) where
  -- with so many callers between the last one served and k, one serve more is enough
  pub fair_from : (cs : List Call) (σ : Shared) (n : ℕ) (x : Place) → Four σ.callers → seat_of σ.callers k ≡ active p x true → Stays k cs →
      distance (last_read σ.last) k ≤ n → suc n ≤ serves (answers cs σ) → received k (answers cs σ) ≡ [] → ⊥
  unfolding answers serves received after
  fair_from [] σ n x h seat st d e r = absurd (omega (arith, e))
  fair_from (c ∷ cs) σ n x h seat st d e r =
      ⊎_elim
      (λ (kept : Kept σ h k small p x true seat c).
      go n d e (nearer σ h k small p x seat c kept.nothing)
      (λ m near more. fair_from cs (after c σ) m kept.place (four_after c σ h) (kept.stands ∙ ap (active p kept.place) (kept.still refl)) (stays_on st) near more parts.1))
      (λ (given : Served σ h k small p x true seat c). let z = sym given.something ∙ parts.0 in let y : ◌≡◌ {A = ℕ} 0 1 = cc in absurd (omega arith))
      (fate σ h k small p x true seat c (stays_now st))
    where
      parts : (hands_to k (answer_to c σ) ≡ []) × (received k (answers cs (after c σ)) ≡ [])
      parts = nothing_both (hands_to k (answer_to c σ)) (received k (answers cs (after c σ))) r

      go : (n : ℕ) → distance (last_read σ.last) k ≤ n → suc n ≤ serves (answers (c ∷ cs) σ) → Nearer σ h k small p x seat (answer_to c σ) →
          ((m : ℕ) → distance (last_read (after c σ).last) k ≤ m → suc m ≤ serves (answers cs (after c σ)) → ⊥) → ⊥
      go n d e (inl q) ih = ih n (rw q.1 d) (rw (q.0, serves) at e)
      go zero d e (inr q) ih = absurd (omega (arith, d, q.1))
      go (suc n) d e (inr q) ih = ih n (omega (arith, d, q.1)) (let z : suc (suc n) ≤ suc (serves (answers cs (after c σ))) = rw (q.0, serves) at e in omega (arith, z))
