-- EIGHT MARKS, each with a name of eight bytes, are in a record behind every call, if they were before it.
use Prim.Native.Nat.{ℕ, ◌<◌, ◌≤◌}
use mathlib.Core.Path.{◌≡◌, refl, sym, ap, subst, ◌∙◌}
use mathlib.Core.Logic.{◌⊎◌, ⊎_elim}
use mathlib.Core.Bool.{Bool, true, false, cond}
use mathlib.Core.Option.{Option, none, some}
use mathlib.Core.List.{List, [], ◌∷◌, map}
use native.Mathlib.Omega.{arith}
use native.Mathlib.Decide.{ℕ_discrete}
use borrow.Author.Tests.{leb-true}
use lib.Dec.{leb}
use lib.ListN.{length, replicate, get_or, set, length-set, length-map, length-replicate, get_or-replicate, get_or-map}
use lib.Seq.{get_or-set_same, get_or-set_other}
use Rattle.spec_file.specs.Over.{over}
use Rattle.spec_file.proofs.Over.{length_over}
use Rattle.spec_file.specs.Program.{Program}
use Rattle.spec_file.proofs.DigitValues.{both}
use Rattle.spec_schedules.specs.Order.{Schedule}
use Rattle.spec_service.specs.declared.caller.Caller.{Caller}
use Rattle.spec_service.specs.declared.caller.Mark.{Mark}
use Rattle.spec_service.specs.Seat.{Place, Seat, closed, active}
use Rattle.spec_service.specs.Record.{reading, no_mark, fresh, opened, asked, served, with_marks, returned, plain, standing, handing, counting}
use Rattle.spec_service.specs.Marks.{is_some, name_fits, bears, slot_of, slot_for, last_handed, new_mark, mark_at, emptied, mark_set, mark_forgotten, mark_returned}
use Rattle.spec_service.specs.Call.{Call, open_for, ask_for, serve, close_for, set_mark, return_to, forget, done, refused, Shared, for_seat, by_program, marks_of, set_answer, answer_to, after}
use Rattle.spec_service.specs.Play.{behind_all}
use Rattle.spec_service.proofs.Seats.{Four, Marking, marks_either, four_after}
use Rattle.spec_service.proofs.Touches.{record_of, whose, own_done, Apart, Own, Taken, touch}

-- ---- eight marks
pub record Shaped (ms : List Mark) : Type 0 where
  pub eight : length ms ≡ 8
  pub bytes : (i : ℕ) → i < 8 → length (get_or ms i no_mark).name ≡ 8

shaped_none : Shaped (replicate 8 no_mark)
unfolding no_mark
shaped_none = record {
  eight = length-replicate 8 no_mark;
  bytes = λ i h. ap (λ (m : Mark). length m.name) (get_or-replicate 8 i no_mark no_mark h) ∙ length-replicate {A = ℕ} 8 0;
}

shaped_emptied : (p : Program) (n : List ℕ) (ms : List Mark) → Shaped ms → Shaped (emptied p n ms)
unfolding emptied no_mark
shaped_emptied p n ms s = record {
  eight = length-map ms emptier ∙ s.eight;
  bytes = λ i h. ap (λ (m : Mark). length m.name) (at i) ∙ go (bears p n (get_or ms i no_mark)) (get_or ms i no_mark) (s.bytes i h);
}
  where
    emptier : Mark → Mark
    emptier m = cond (bears p n m) no_mark m

    none_same : (b : Bool) → cond b no_mark no_mark ≡ no_mark
    none_same true = refl
    none_same false = refl

    at : (i : ℕ) → get_or (map emptier ms) i no_mark ≡ cond (bears p n (get_or ms i no_mark)) no_mark (get_or ms i no_mark)
    at i = ap (get_or (map emptier ms) i) (sym (none_same (bears p n no_mark))) ∙ get_or-map emptier ms i no_mark

    go : (b : Bool) (m : Mark) → length m.name ≡ 8 → length (cond b no_mark m).name ≡ 8
    go true m e = length-replicate {A = ℕ} 8 0
    go false m e = e

shaped_set : (ms : List Mark) (i : ℕ) (v : Mark) → Shaped ms → length v.name ≡ 8 → Shaped (set ms i v)
shaped_set ms i v s e = record {
  eight = length-set ms i v ∙ s.eight;
  bytes = λ j h. go j h (ℕ_discrete j i);
}
  where
    go : (j : ℕ) → j < 8 → Dec (j ≡ i) → length (get_or (set ms i v) j no_mark).name ≡ 8
    go j h (no ne) = ap (λ (m : Mark). length m.name) (get_or-set_other ms i j v no_mark ne) ∙ s.bytes j h
    go j h (yes q) = ap (λ (m : Mark). length m.name)
        (ap (λ (k : ℕ). get_or (set ms i v) k no_mark) q ∙ get_or-set_same ms i v no_mark (let z = s.eight in omega (arith, z, h, q))) ∙ e

-- a new mark
new_bytes : (n : List ℕ) (c : Caller) (o : Option Place) → name_fits (length n) ≡ true → length (new_mark n c o).name ≡ 8
unfolding new_mark mark_at name_fits
new_bytes n c o e = go o
  where
    small : length n ≤ 8
    small = leb-true (length n) 8 (both (leb 1 (length n)) (leb (length n) 8) e).1

    named : length (over n (replicate 8 0)) ≡ 8
    named = length_over n (replicate 8 0) small

    go : (o : Option Place) → length (new_mark n c o).name ≡ 8
    go none = named
    go (some x) = named

-- ---- the records that calls leave
none_plain : (f : List ℕ) → ((opened f).marks ≡ replicate 8 no_mark) × (fresh.marks ≡ replicate 8 no_mark)
unfolding opened fresh plain
none_plain f = (refl, refl)

-- nothing held
pub shaped_fresh : Shaped fresh.marks
shaped_fresh = subst Shaped (sym (none_plain []).1) shaped_none

module _ (r : Caller) where
  asked_marks : (asked r).marks ≡ r.marks
  unfolding asked standing
  asked_marks = refl

  served_marks : (o : Option Schedule) → (served r o).marks ≡ r.marks
  unfolding served standing handing counting
  served_marks none = refl
  served_marks (some x) = refl

  module _ (s : Shaped r.marks) where
    -- what is done to an open record by its program keeps eight marks
    shaped_by : (f : Program → Caller) → ((p : Program) → Shaped (f p).marks) → Shaped (by_program (reading r) r f).marks
    unfolding by_program
    shaped_by f h = go (reading r)
      where
        go : (x : Seat) → Shaped (by_program x r f).marks
        go closed = s
        go (active p y a) = h p

    set_shaped : (n : List ℕ) → name_fits (length n) ≡ true → (p : Program) → Shaped (mark_set p n r).marks
    unfolding mark_set with_marks
    set_shaped n e p = go (slot_for p n r.marks) refl
      where
        go : (o : Option ℕ) → slot_for p n r.marks ≡ o → Shaped (mark_set p n r).marks
        go none q = rw (q, mark_set) s
        go (some i) q = rw (q, mark_set) (shaped_set (emptied p n r.marks) i (new_mark n r (last_handed p r)) (shaped_emptied p n r.marks s) (new_bytes n r (last_handed p r) e))

    forget_shaped : (n : List ℕ) (p : Program) → Shaped (mark_forgotten p n r).marks
    unfolding mark_forgotten with_marks
    forget_shaped n p = shaped_emptied p n r.marks s

    return_shaped : (n : List ℕ) (p : Program) → Shaped (mark_returned p n r).marks
    unfolding mark_returned returned standing
    return_shaped n p = go (slot_of p n r.marks) refl
      where
        go : (o : Option ℕ) → slot_of p n r.marks ≡ o → Shaped (mark_returned p n r).marks
        go none q = rw (q, mark_returned) s
        go (some i) q = rw (q, mark_returned) s

-- ---- one call
module _ (σ : Shared) (four : Four σ.callers) (k : ℕ) (small : k < 4) (s : Shaped (record_of σ k).marks) where
  abbrev Next : Call → Type 0
  Next c = Shaped (record_of (after c σ) k).marks

  abbrev OwnHere : Call → Type 0
  OwnHere c = Own σ four k small c

  next_by : (c : Call) (r : Caller) → record_of (after c σ) k ≡ r → Shaped r.marks → Next c
  next_by c r e q = subst Shaped (sym (ap (λ (z : Caller). z.marks) e)) q

  -- the name of a set that is done fits
  set_fits : (j : ℕ) (n : List ℕ) → answer_to (set_mark j n) σ ≡ done → name_fits (length n) ≡ true
  unfolding answer_to set_answer
  set_fits j n e =
      let g : Program → Bool = λ p. is_some (slot_for p n (marks_of σ.callers j)) in ⊎_elim
      (λ (q : (set_answer σ.callers j n ≡ done) × Marking σ.callers j n g). q.1.fits)
      (λ (q : (v : ℕ) × (m : ℕ) × (set_answer σ.callers j n ≡ refused v m)). let z = sym e ∙ q.2 in absurd (let y : ◌≡◌ {A = ℕ} 0 1 = cc in omega arith))
      (marks_either σ.callers j n g 47 four)

  next_own : (c : Call) → OwnHere c → Next c
  unfolding own_done
  next_own (open_for j f) o = next_by (open_for j f) (opened f) o.leaves (subst Shaped (sym (none_plain f).0) shaped_none)
  next_own (ask_for j) o = next_by (ask_for j) (asked (record_of σ k)) o.leaves (subst Shaped (sym (asked_marks (record_of σ k))) s)
  next_own (serve out) o = next_by (serve out) (record_of σ k) o.leaves s
  next_own (close_for j) o = next_by (close_for j) fresh o.leaves shaped_fresh
  next_own (set_mark j n) o = next_by (set_mark j n) _ o.leaves
      (shaped_by (record_of σ k) s (λ p. mark_set p n (record_of σ k)) (set_shaped (record_of σ k) s n (set_fits j n o.answered)))
  next_own (return_to j n) o = next_by (return_to j n) _ o.leaves (shaped_by (record_of σ k) s (λ p. mark_returned p n (record_of σ k)) (return_shaped (record_of σ k) s n))
  next_own (forget j n) o = next_by (forget j n) _ o.leaves (shaped_by (record_of σ k) s (λ p. mark_forgotten p n (record_of σ k)) (forget_shaped (record_of σ k) s n))

  shaped_on : (c : Call) → Next c
  shaped_on c = ⊎_elim (λ (t : Apart σ four k small c). next_by c (record_of σ k) t.leaves s)
      (λ (t : OwnHere c ⊎ Taken σ four k small c). ⊎_elim (λ (o : OwnHere c). next_own c o)
      (λ (y : Taken σ four k small c). next_by c _ y.leaves (subst Shaped (sym (served_marks (record_of σ k) (for_seat (reading (record_of σ k))))) s)) t)
      (touch σ four k small c)

-- ---- every list of calls
pub shaped_from : (k : ℕ) → k < 4 → (cs : List Call) (σ : Shared) → Four σ.callers → Shaped (record_of σ k).marks → Shaped (record_of (behind_all cs σ) k).marks
unfolding behind_all
shaped_from k small [] σ h s = s
shaped_from k small (c ∷ cs) σ h s = shaped_from k small cs (after c σ) (four_after c σ h) (shaped_on σ h k small s c)
