-- WHAT HOLDS OF EVERY LIST OF CALLS from four fresh records.
use Prim.Native.Nat.{ℕ, zero, suc, ◌+◌, ◌<◌, ◌≤◌, ◌%◌, ◌^◌}
use mathlib.Core.Path.{◌≡◌, refl, sym, ap, subst, ◌∙◌}
use mathlib.Core.Logic.{◌↔◌, ◌⊎◌, ⊎_elim}
use mathlib.Core.Bool.{Bool, true, false, cond}
use mathlib.Core.Option.{none, some}
use mathlib.Core.List.{List, [], ◌∷◌}
use native.Mathlib.Omega.{arith}
use borrow.Author.Tests.{ltb-false}
use lib.Dec.{ltb}
use lib.ListN.{length, get_or}
use Rattle.spec_file.specs.Program.{Program}
use Rattle.spec_file.specs.Decode.{accepted, decode}
use Rattle.spec_model.specs.Alike.{list_of}
use Rattle.spec_sc.specs.Sequential.{sc}
use Rattle.spec_service.specs.declared.caller.Caller.{Caller}
use Rattle.spec_service.specs.Seat.{Place, beginning, Seat, closed, active, to_come, is_open, asks}
use Rattle.spec_service.specs.Record.{reading, no_mark, fresh, opened, plain}
use Rattle.spec_service.specs.Marks.{name_fits}
use Rattle.spec_service.specs.Call.{Call, open_for, ask_for, close_for, set_mark, return_to, forget, Answer, done, refused, Shared, start, seat_of, open_answer, open_only, by_program, marks_only, marks_of, set_answer, known_only, answer_to, after}
use Rattle.spec_service.specs.Play.{answers, behind_all, received, schedules_of}
use Rattle.spec_service.specs.Noted.{Noted, nothing_noted}
use Rattle.spec_service.specs.Concerns.{Event}
use Rattle.spec_service.specs.Lent.{LentTo, Eight}
use Rattle.spec_service.specs.Claims.{Sharing}
use Rattle.spec_service.proofs.Readings.{reading_fresh, reading_opened, reading_asked, reading_returned}
use Rattle.spec_service.proofs.Seats.{Four, checked_four, Opens, open_either, only_either, four_after}
use Rattle.spec_service.proofs.Touches.{record_of, whose, own_done, own_leaves_lem}
use Rattle.spec_service.proofs.Fates.{return_leaves}
use Rattle.spec_service.proofs.Asking.{asks_from}
use Rattle.spec_service.proofs.Shaped.{Shaped, shaped_fresh, shaped_from}
use Rattle.spec_service.proofs.Lent.{known_small, lent}
use Rattle.spec_service.proofs.InOrder.{order_from}
use Rattle.spec_service.proofs.Fair.{fair_from, distance_small}
use Rattle.spec_service.proofs.Noted.{Agrees, agrees_opened, Open, noted_from, known_slot, unknown_refused}
use Rattle.spec_service.proofs.Counted.{counted_from}
use Rattle.spec_service.proofs.Isolation.{record_after, hands_after, decided_from}

-- there are four records behind every list of calls
four_all : (cs : List Call) (σ : Shared) → Four σ.callers → Four (behind_all cs σ).callers
unfolding behind_all
four_all [] σ h = h
four_all (c ∷ cs) σ h = four_all cs (after c σ) (four_after c σ h)

four_start : Four start.callers
unfolding start
four_start = refl

-- an open seat holds a program, at a place
open_active : (s : Seat) → is_open s ≡ true → (p : Program) × (x : Place) × (a : Bool) × (s ≡ active p x a)
unfolding is_open
open_active closed e = absurd (let y : ◌≡◌ {A = ℕ} 0 1 = cc in omega arith)
open_active (active p x a) e = (p, x, a, refl)

-- behind an ask that is not refused the caller asks
asked_seat : (σ : Shared) (k : ℕ) → Four σ.callers → answer_to (ask_for k) σ ≡ done →
    (k < 4) × ((p : Program) × (x : Place) × (seat_of (after (ask_for k) σ).callers k ≡ active p x true))
unfolding answer_to seat_of own_done whose
asked_seat σ k h e = ⊎_elim
    (λ (q : (open_only σ.callers k ≡ done) × (k < 4) × (is_open (seat_of σ.callers k) ≡ true)).
    let o = open_active (seat_of σ.callers k) q.2 in
    (q.1, (o.0, o.1, ap reading (own_leaves_lem σ h k q.1 (ask_for k) refl e) ∙ reading_asked (record_of σ k) o.0 o.1 o.2 o.3)))
    (λ (q : (n : ℕ) × (m : ℕ) × (open_only σ.callers k ≡ refused n m)). let z = sym e ∙ q.2 in absurd (let y : ◌≡◌ {A = ℕ} 0 1 = cc in omega arith))
    (only_either σ.callers k h)

-- behind an opening the caller has this record, and stands before the first schedule
opened_record : (σ : Shared) (k : ℕ) (f : List ℕ) → Four σ.callers → answer_to (open_for k f) σ ≡ done → (k < 4) × (record_of (after (open_for k f) σ) k ≡ opened f)
unfolding answer_to own_done whose
opened_record σ k f h e = ⊎_elim
    (λ (q : (open_answer σ.callers k f ≡ done) × Opens σ.callers k f). (q.1.small, own_leaves_lem σ h k q.1.small (open_for k f) refl e))
    (λ (q : (n : ℕ) × (m : ℕ) × (open_answer σ.callers k f ≡ refused n m)). let z = sym e ∙ q.2 in absurd (let y : ◌≡◌ {A = ℕ} 0 1 = cc in omega arith))
    (open_either σ.callers k f h)

opened_seat : (σ : Shared) (k : ℕ) (f : List ℕ) (p : Program) → Four σ.callers → decode f ≡ accepted p → answer_to (open_for k f) σ ≡ done →
    (k < 4) × (seat_of (after (open_for k f) σ).callers k ≡ active p beginning false)
unfolding seat_of
opened_seat σ k f p h d e = let q = opened_record σ k f h e in (q.0, ap reading q.1 ∙ reading_opened f p d)

-- behind an open that is done the caller is open with nothing noted
opened_open : (σ : Shared) (k : ℕ) (f : List ℕ) (p : Program) (n : List ℕ) → Four σ.callers → decode f ≡ accepted p → (e : answer_to (open_for k f) σ ≡ done) → (small : k < 4) →
    Open p n k small (after (open_for k f) σ) nothing_noted
opened_open σ k f p n h d e small = record {
  four = four_after (open_for k f) σ h;
  place = beginning;
  asking = false;
  seat = (opened_seat σ k f p h d e).1;
  holds = subst (λ (r : Caller). Agrees p n r nothing_noted) (sym (opened_record σ k f h e).1) (agrees_opened p n f);
}

-- behind a closing the record is empty, and nobody is there
closed_record : (σ : Shared) (k : ℕ) → Four σ.callers → answer_to (close_for k) σ ≡ done →
    (record_of (after (close_for k) σ) k ≡ fresh) × (seat_of (after (close_for k) σ).callers k ≡ closed)
unfolding answer_to seat_of own_done whose
closed_record σ k h e = ⊎_elim
    (λ (q : (open_only σ.callers k ≡ done) × (k < 4) × (is_open (seat_of σ.callers k) ≡ true)).
    let r = own_leaves_lem σ h k q.1 (close_for k) refl e in (r, ap reading r ∙ reading_fresh))
    (λ (q : (n : ℕ) × (m : ℕ) × (open_only σ.callers k ≡ refused n m)). let z = sym e ∙ q.2 in absurd (let y : ◌≡◌ {A = ℕ} 0 1 = cc in omega arith))
    (only_either σ.callers k h)

-- an opened record has counted nothing
opened_count : (f : List ℕ) → (opened f).count ≡ 0
unfolding opened plain
opened_count f = refl

-- a return goes to the place that was noted, and keeps the asking
returned_seat : (p : Program) (n : List ℕ) (k : ℕ) (small : k < 4) (σ : Shared) (μ : Noted) (o : Open p n k small σ μ) (x : Place) → μ.place ≡ some x →
    (answer_to (return_to k n) σ ≡ done) × (seat_of (after (return_to k n) σ).callers k ≡ active p x (asks (seat_of σ.callers k))) × (answer_to (forget k n) σ ≡ done)
unfolding answer_to seat_of whose asks
returned_seat p n k small σ μ o x e =
    let s = known_slot p n k small σ μ o x e in (
      s.0,
      ap reading (own_leaves_lem σ o.four k small (return_to k n) refl s.0 ∙ return_leaves σ o.four k small p o.place o.asking o.seat n s.1.0 s.1.1)
          ∙ reading_returned (record_of σ k) p o.place o.asking (get_or (record_of σ k).marks s.1.0 no_mark) x o.seat s.1.2
          ∙ ap (λ (y : Seat). active p x (asks y)) (sym o.seat),
      s.0,
    )

unknown_both : (p : Program) (n : List ℕ) (k : ℕ) (small : k < 4) (σ : Shared) (μ : Noted) (o : Open p n k small σ μ) → name_fits (length n) ≡ true → μ.place ≡ none →
    (answer_to (return_to k n) σ ≡ refused 46 0) × (answer_to (forget k n) σ ≡ refused 46 0)
unfolding answer_to
unknown_both p n k small σ μ o f e = let r = unknown_refused p n k small σ μ o f e in (r, r)

-- nobody asks at the start, and every record is a fresh one
start_fresh : (k : ℕ) → record_of start k ≡ fresh
unfolding start
start_fresh zero = refl
start_fresh (suc zero) = refl
start_fresh (suc (suc zero)) = refl
start_fresh (suc (suc (suc zero))) = refl
start_fresh (suc (suc (suc (suc k)))) = refl

start_silent : (k : ℕ) → asks (seat_of start.callers k) ≡ false
unfolding seat_of asks
start_silent k = ap (λ (r : Caller). asks (reading r)) (start_fresh k) ∙ ap asks reading_fresh

start_shaped : (k : ℕ) → Shaped (record_of start k).marks
start_shaped k = subst (λ (r : Caller). Shaped r.marks) (sym (start_fresh k)) shaped_fresh

-- ---- a ninth name
-- a call on marks that goes by its name is that of an open one
marks_seat : (σ : Shared) (k : ℕ) (n : List ℕ) (g : Program → Answer) (w : ℕ) → Four σ.callers → 45 < w → marks_only σ.callers k n g ≡ refused w 0 →
    (k < 4) × ((p : Program) × (x : Place) × (a : Bool) × (seat_of σ.callers k ≡ active p x a))
unfolding marks_only by_program
marks_seat σ k n g w h big e = go (ltb 3 k) (seat_of σ.callers k) refl refl (sym (checked_four σ.callers k _ h) ∙ e)
  where
    go : (b : Bool) (s : Seat) → ltb 3 k ≡ b → seat_of σ.callers k ≡ s →
        cond (ltb 3 k) (refused 42 0) (by_program (seat_of σ.callers k) (refused 44 0) (λ p. cond (name_fits (length n)) (g p) (refused 45 0))) ≡ refused w 0 →
        (k < 4) × ((p : Program) × (x : Place) × (a : Bool) × (seat_of σ.callers k ≡ active p x a))
    go true s q r z = let y : refused 42 0 ≡ refused w 0 = rw q at z in let m : 42 ≡ w = cc in absurd (omega (arith, m, big))
    go false closed q r z = let y : refused 44 0 ≡ refused w 0 = rw (q, r, by_program) at z in let m : 44 ≡ w = cc in absurd (omega (arith, m, big))
    go false (active p x a) q r z = ((let m = ltb-false 3 k q in omega (arith, m)), (p, x, a, r))

ninth_all : (calls : List Call) (k : ℕ) (n : List ℕ) →
    (answer_to (set_mark k n) (behind_all calls start) ≡ refused 47 0) ↔ ((answer_to (return_to k n) (behind_all calls start) ≡ refused 46 0) × Eight (behind_all calls start) k)
unfolding answer_to set_answer known_only marks_of
ninth_all calls k n = (
  λ e. let s = marks_seat σ k n _ 47 four (omega arith) e in
      lent.only_ninth σ k s.1.0 s.1.1 s.1.2 n (lends s.0 s.1.0 s.1.1 s.1.2 s.1.3) (shape s.0).bytes e,
  λ q. let s = marks_seat σ k n _ 46 four (omega arith) q.0 in
      lent.ninth σ k s.1.0 s.1.1 s.1.2 n (lends s.0 s.1.0 s.1.1 s.1.2 s.1.3) q.0 q.1,
)
  where
    σ : Shared
    σ = behind_all calls start

    four : Four σ.callers
    four = four_all calls start four_start

    shape : k < 4 → Shaped (record_of σ k).marks
    shape small = shaped_from k small calls start four_start (start_shaped k)

    lends : k < 4 → (p : Program) (x : Place) (a : Bool) → seat_of σ.callers k ≡ active p x a → LentTo σ k p x a
    lends small p x a s = record { four = four; eight = (shape small).eight; seat = s }

pub sharing : Sharing
unfolding to_come start answer_to marks_of
sharing = record {
  fourth_serve = λ before later k e st more r.
      let σ = behind_all before start in
      let h = four_all before start four_start in
      let q = asked_seat σ k h e in
      fair_from k q.0 q.1.0 later (after (ask_for k) σ) 3 q.1.1 (four_after (ask_for k) σ h) q.1.2 st (distance_small _ k) more r;
  asks_exactly = λ calls k small. asks_from k small calls start false four_start (start_silent k);
  eight_marks = λ calls k small. let z = shaped_from k small calls start four_start (start_shaped k) in (z.eight, z.bytes);
  ninth_exactly = λ calls k n. ninth_all calls k n;
  in_order = λ before later k f p d e st nr.
      let σ = behind_all before start in
      let h = four_all before start four_start in
      let q = opened_seat σ k f p h d e in
      order_from k q.0 p (list_of sc p) later (after (open_for k f) σ) 0 beginning false (four_after (open_for k f) σ h) q.1 refl st nr;
  behind_mark = λ before later k n p x a e s st nr.
      let σ = behind_all before start in
      let h = four_all before start four_start in
      order_from k (known_small σ k n h e).0 p (to_come p x) later (after (return_to k n) σ) 0 x a (four_after (return_to k n) σ h) s refl st nr;
  known = λ before later k f p n x d e st m.
      let σ = behind_all before start in
      let h = four_all before start four_start in
      let small = (opened_seat σ k f p h d e).0 in
      returned_seat p n k small _ _ (noted_from p n k small later (after (open_for k f) σ) nothing_noted st (opened_open σ k f p n h d e small)) x m;
  unknown = λ before later k f p n d e st i m.
      let σ = behind_all before start in
      let h = four_all before start four_start in
      let small = (opened_seat σ k f p h d e).0 in
      unknown_both p n k small _ _ (noted_from p n k small later (after (open_for k f) σ) nothing_noted st (opened_open σ k f p n h d e small)) i m;
  closes = λ before k e. closed_record (behind_all before start) k (four_all before start four_start) e;
  counted = λ before later k f p d e st.
      let σ = behind_all before start in
      let h = four_all before start four_start in
      let q = opened_seat σ k f p h d e in
      let z : (record_of (after (open_for k f) σ) k).count ≡ 0 = ap (λ (r : Caller). r.count) (opened_record σ k f h e).1 ∙ opened_count f in
      counted_from k q.0 p later (after (open_for k f) σ) beginning false (four_after (open_for k f) σ h) q.1 st (omega (arith, z))
      ∙ ap (λ (n : ℕ). n % 2 ^ 64) (let m = schedules_of (received k (answers later (after (open_for k f) σ))) in let y : (record_of (after (open_for k f) σ) k).count + m ≡ m = omega (arith, z) in y);
  isolated = λ left right k small e.
      let l = decided_from k small left start four_start in
      let r = decided_from k small right start four_start in
      let same = l.0 ∙ ap (λ (es : List Event). record_after k es (record_of start k)) e ∙ sym r.0 in
      (ap (λ (c : Caller). c.count) same, same, l.1 ∙ ap (λ (es : List Event). hands_after k es (record_of start k)) e ∙ sym r.1);
}
