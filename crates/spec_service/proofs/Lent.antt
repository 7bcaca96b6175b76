-- WHAT THE CALLS ON MARKS DO, whatever the four records hold, with what holds of asking and of closed records.
use Prim.Native.Nat.{ℕ, ◌<◌, ◌≤◌}
use mathlib.Core.Path.{◌≡◌, refl, sym, ap, subst, ◌∙◌}
use mathlib.Core.Logic.{◌⊎◌, inl, inr, ⊎_elim}
use mathlib.Core.Bool.{Bool, true, false, cond, ◌&&◌, false≢true}
use mathlib.Core.Option.{Option, none, some}
use mathlib.Core.List.{List}
use native.Mathlib.Omega.{arith}
use borrow.Author.Tests.{eq-eqb, ltb-true, ltb-false, leb-true}
use lib.Dec.{eqb, ltb, leb}
use lib.ListN.{length, take, get_or, set, length-set, length-map, length-take, get_or-eq_default}
use Rattle.spec_file.specs.Program.{Program}
use Rattle.spec_file.proofs.DigitValues.{both}
use Rattle.spec_file.proofs.Lists.{same_list_lem}
use Rattle.spec_schedules.specs.Lists.{find}
use Rattle.spec_service.specs.declared.caller.Caller.{Caller}
use Rattle.spec_service.specs.declared.caller.Mark.{Mark}
use Rattle.spec_service.specs.Seat.{Place, active}
use Rattle.spec_service.specs.Record.{reading, no_mark, fresh, with_marks}
use Rattle.spec_service.specs.Marks.{same_name, is_some, name_fits, mark_place, name_of, bears, slot_of, slot_for, last_handed, new_mark, emptied}
use Rattle.spec_service.specs.Call.{Call, set_mark, return_to, forget, done, refused, Shared, seat_of, done_if, marks_of, set_answer, known_only, answer_to, after}
use Rattle.spec_service.specs.Lent.{or_beginning, LentTo, Eight, Keeps, Lent}
use Rattle.spec_service.proofs.Readings.{not_both, reading_fresh, reading_marks, reading_returned}
use Rattle.spec_service.proofs.Seats.{Four, Marking, marks_either, marks_open, after_refused, four_after}
use Rattle.spec_service.proofs.Touches.{record_of, whose, own_leaves_lem}
use Rattle.spec_service.proofs.Marks.{place_found, slot_at, forgets_own, forgets_other, sets_own, sets_other, new_place, new_bears}
use Rattle.spec_service.proofs.Ninth.{slot_first, no_slot, all_used, names, names_eight, names_differ, names_known}
use Rattle.spec_service.proofs.Fates.{set_done, known_done, set_leaves, forget_leaves, return_leaves, slot_place}
use Rattle.spec_service.proofs.Asking.{ask_twice, ask_again, idle_exactly}
use Rattle.spec_service.proofs.Closed.{closed_empty}

-- a call on marks that is done is that of one of the four
pub set_small : (σ : Shared) (k : ℕ) (n : List ℕ) → Four σ.callers → answer_to (set_mark k n) σ ≡ done → k < 4
unfolding answer_to set_answer
set_small σ k n h e =
    let g : Program → Bool = λ p. is_some (slot_for p n (marks_of σ.callers k)) in ⊎_elim
    (λ (q : (set_answer σ.callers k n ≡ done) × Marking σ.callers k n g). q.1.small)
    (λ (q : (v : ℕ) × (m : ℕ) × (set_answer σ.callers k n ≡ refused v m)). let z = sym e ∙ q.2 in absurd (let y : ◌≡◌ {A = ℕ} 0 1 = cc in omega arith))
    (marks_either σ.callers k n g 47 h)

pub known_small : (σ : Shared) (k : ℕ) (n : List ℕ) → Four σ.callers → known_only σ.callers k n ≡ done → (k < 4) × (name_fits (length n) ≡ true)
unfolding known_only
known_small σ k n h e =
    let g : Program → Bool = λ p. is_some (slot_of p n (marks_of σ.callers k)) in ⊎_elim
    (λ (q : (known_only σ.callers k n ≡ done) × Marking σ.callers k n g). (q.1.small, q.1.fits))
    (λ (q : (v : ℕ) × (m : ℕ) × (known_only σ.callers k n ≡ refused v m)). let z = sym e ∙ q.2 in absurd (let y : ◌≡◌ {A = ℕ} 0 1 = cc in omega arith))
    (marks_either σ.callers k n g 46 h)

-- there is a slot of a name where some mark bears it
slot_found : (p : Program) (n : List ℕ) (ms : List Mark) → length ms ≡ 8 → is_some (slot_of p n ms) ≡ is_some (find (bears p n) ms)
unfolding is_some
slot_found p n ms h = ⊎_elim
    (λ (q : (slot_of p n ms ≡ none) × (find (bears p n) ms ≡ none)). ap is_some q.0 ∙ sym (ap is_some q.1))
    (λ (q : (i : ℕ) × (slot_of p n ms ≡ some i) × (find (bears p n) ms ≡ some (get_or ms i no_mark))). ap is_some q.1 ∙ sym (ap is_some q.2))
    (slot_at p n ms h)

-- where a return leads from x, by the mark that bears the name, if there is one
unfoldable or_stays : Program → Place → List ℕ → Option Mark → Place
or_stays p x n o = cond (name_fits (length n)) (elim (place_found p o) [ some y ↦ y | none ↦ x ]) x

module _ (σ : Shared) (k : ℕ) (small : k < 4) (p : Program) (x : Place) (a : Bool) (lent : LentTo σ k p x a) where
  -- return goes by whether some mark bears the name
  by_bears : (n : List ℕ) → known_only σ.callers k n ≡ cond (name_fits (length n)) (done_if (is_some (find (bears p n) (record_of σ k).marks)) 46) (refused 45 0)
  unfolding known_only marks_of
  by_bears n = marks_open σ.callers k n (λ y. is_some (slot_of y n (record_of σ k).marks)) 46 p x a lent.four small lent.seat
      ∙ ap (λ (b : Bool). cond (name_fits (length n)) (done_if b 46) (refused 45 0)) (slot_found p n (record_of σ k).marks lent.eight)

  returned_to : (n : List ℕ) (i : ℕ) (y : Place) → name_fits (length n) ≡ true → slot_of p n (record_of σ k).marks ≡ some i →
      mark_place p (get_or (record_of σ k).marks i no_mark) ≡ some y →
      (known_only σ.callers k n ≡ done) × (seat_of (after (return_to k n) σ).callers k ≡ active p y a)
  unfolding answer_to seat_of whose known_only marks_of done_if is_some
  returned_to n i y f e h =
      let known : known_only σ.callers k n ≡ done = marks_open σ.callers k n (λ z. is_some (slot_of z n (record_of σ k).marks)) 46 p x a lent.four small lent.seat
      ∙ rw (f, e, is_some) in (
        known,
        ap reading (own_leaves_lem σ lent.four k small (return_to k n) refl known ∙ return_leaves σ lent.four k small p x a lent.seat n i e)
            ∙ reading_returned (record_of σ k) p x a (get_or (record_of σ k).marks i no_mark) y lent.seat h,
      )

  stays : (n : List ℕ) (v : ℕ) → known_only σ.callers k n ≡ refused v 0 → seat_of (after (return_to k n) σ).callers k ≡ active p x a
  unfolding answer_to
  stays n v e = ap (λ (τ : Shared). seat_of τ.callers k) (after_refused (return_to k n) σ v 0 e) ∙ lent.seat

  goes : (n : List ℕ) → seat_of (after (return_to k n) σ).callers k ≡ active p (or_stays p x n (find (bears p n) (record_of σ k).marks)) a
  unfolding or_stays place_found done_if is_some marks_of
  goes n = go (name_fits (length n)) refl
    where
      ms : List Mark
      ms = (record_of σ k).marks

      go : (b : Bool) → name_fits (length n) ≡ b → seat_of (after (return_to k n) σ).callers k ≡ active p (or_stays p x n (find (bears p n) ms)) a
      go false q = stays n 45 (by_bears n ∙ rw q) ∙ rw (q, or_stays)
      go true q = ⊎_elim
          (λ (r : (slot_of p n ms ≡ none) × (find (bears p n) ms ≡ none)). stays n 46 (by_bears n ∙ rw (q, r.1, is_some)) ∙ rw (q, r.1, or_stays, place_found))
          (λ (r : (i : ℕ) × (slot_of p n ms ≡ some i) × (find (bears p n) ms ≡ some (get_or ms i no_mark))).
          let y = slot_place σ lent.four k small p x a lent.seat n r.0 r.1 in
          (returned_to n r.0 y.0 q r.1 y.1).1 ∙ rw (q, r.2, y.1, or_stays, place_found))
          (slot_at p n ms lent.eight)

  -- a call that leaves these marks, and eight of them, leaves it lent and open
  lent_on : (c : Call) (ms : List Mark) → record_of (after c σ) k ≡ with_marks (record_of σ k) ms → length ms ≡ 8 → LentTo (after c σ) k p x a
  unfolding seat_of marks_of with_marks
  lent_on c ms e h = record {
    four = four_after c σ lent.four;
    eight = ap (λ (r : Caller). length r.marks) e ∙ h;
    seat = ap reading e ∙ reading_marks (record_of σ k) ms ∙ lent.seat;
  }

  marks_on : (c : Call) (ms : List Mark) → record_of (after c σ) k ≡ with_marks (record_of σ k) ms → (record_of (after c σ) k).marks ≡ ms
  unfolding with_marks
  marks_on c ms e = ap (λ (r : Caller). r.marks) e

module _ (σ : Shared) (k : ℕ) (p : Program) (x : Place) (a : Bool) (lent : LentTo σ k p x a) where
  -- ---- behind a set
  module _ (m : List ℕ) (e : answer_to (set_mark k m) σ ≡ done) where
    small : k < 4
    small = set_small σ k m lent.four e

    slot : (name_fits (length m) ≡ true) × ((i : ℕ) × (slot_for p m (record_of σ k).marks ≡ some i))
    slot = set_done σ lent.four k small p x a lent.seat m e

    abbrev new : Mark
    new = new_mark m (record_of σ k) (last_handed p (record_of σ k))

    abbrev marks : List Mark
    marks = set (emptied p m (record_of σ k).marks) slot.1.0 new

    left : record_of (after (set_mark k m) σ) k ≡ with_marks (record_of σ k) marks
    unfolding whose
    left = own_leaves_lem σ lent.four k small (set_mark k m) refl e ∙ set_leaves σ lent.four k small p x a lent.seat m slot.1.0 slot.1.1

    eight : length marks ≡ 8
    unfolding emptied marks_of
    eight = length-set (emptied p m (record_of σ k).marks) slot.1.0 new ∙ length-map (record_of σ k).marks _ ∙ lent.eight

    then : LentTo (after (set_mark k m) σ) k p x a
    then = lent_on σ k small p x a lent (set_mark k m) marks left eight

    others : (n : List ℕ) → same_name m n ≡ false → known_only (after (set_mark k m) σ).callers k n ≡ known_only σ.callers k n
    others n ne = by_bears (after (set_mark k m) σ) k small p x a then n
        ∙ ap (λ (ms : List Mark). cond (name_fits (length n)) (done_if (is_some (find (bears p n) ms)) 46) (refused 45 0)) (marks_on σ k small p x a lent (set_mark k m) marks left)
        ∙ ap (λ (o : Option Mark). cond (name_fits (length n)) (done_if (is_some o) 46) (refused 45 0))
        (sets_other p n m (record_of σ k).marks slot.1.0 new slot.1.1 ne (new_bears p m (record_of σ k) slot.0))
        ∙ sym (by_bears σ k small p x a lent n)

    set_keeps : (n : List ℕ) → same_name m n ≡ false → Keeps (set_mark k m) σ k n
    unfolding answer_to
    set_keeps n ne = record {
      answer = others n ne;
      place = goes (after (set_mark k m) σ) k small p x a then n
          ∙ ap (λ (ms : List Mark). active p (or_stays p x n (find (bears p n) ms)) a) (marks_on σ k small p x a lent (set_mark k m) marks left)
          ∙ ap (λ (o : Option Mark). active p (or_stays p x n o) a)
          (sets_other p n m (record_of σ k).marks slot.1.0 new slot.1.1 ne (new_bears p m (record_of σ k) slot.0))
          ∙ sym (goes σ k small p x a lent n);
    }

    own : (answer_to (return_to k m) (after (set_mark k m) σ) ≡ done)
        × (seat_of (after (return_to k m) (after (set_mark k m) σ)).callers k ≡ active p (or_beginning (last_handed p (record_of σ k))) a)
    unfolding answer_to marks_of
    own = ⊎_elim
        (λ (q : (slot_of p m (record_of τ k).marks ≡ none) × (find (bears p m) (record_of τ k).marks ≡ none)). let z = sym q.1 ∙ found in absurd (let y : ◌≡◌ {A = ℕ} 0 1 = cc in omega arith))
        (λ (q : (i : ℕ) × (slot_of p m (record_of τ k).marks ≡ some i) × (find (bears p m) (record_of τ k).marks ≡ some (get_or (record_of τ k).marks i no_mark))).
        let z : new ≡ get_or (record_of τ k).marks q.0 no_mark = (let w = sym found ∙ q.2 in cc) in
        returned_to τ k small p x a then m q.0 (or_beginning (last_handed p (record_of σ k))) slot.0 q.1 (ap (mark_place p) (sym z) ∙ new_place p m (record_of σ k) slot.0))
        (slot_at p m (record_of τ k).marks then.eight)
      where
        τ : Shared
        τ = after (set_mark k m) σ

        found : find (bears p m) (record_of τ k).marks ≡ some new
        found = ap (find (bears p m)) (marks_on σ k small p x a lent (set_mark k m) marks left)
            ∙ sets_own p m m (record_of σ k).marks slot.1.0 new lent.eight slot.1.1 (same_list_lem eqb (λ i. eq-eqb i i refl) m) (new_bears p m (record_of σ k) slot.0)

  -- ---- behind a forget
  module _ (m : List ℕ) (e : answer_to (forget k m) σ ≡ done) where
    facts : (k < 4) × (name_fits (length m) ≡ true)
    unfolding answer_to
    facts = known_small σ k m lent.four e

    abbrev bare : List Mark
    bare = emptied p m (record_of σ k).marks

    bared : record_of (after (forget k m) σ) k ≡ with_marks (record_of σ k) bare
    unfolding whose
    bared = own_leaves_lem σ lent.four k facts.0 (forget k m) refl e ∙ forget_leaves σ lent.four k facts.0 p x a lent.seat m

    bare_eight : length bare ≡ 8
    unfolding emptied marks_of
    bare_eight = length-map (record_of σ k).marks _ ∙ lent.eight

    later : LentTo (after (forget k m) σ) k p x a
    later = lent_on σ k facts.0 p x a lent (forget k m) bare bared bare_eight

    by_bare : (n : List ℕ) → known_only (after (forget k m) σ).callers k n ≡ cond (name_fits (length n)) (done_if (is_some (find (bears p n) bare)) 46) (refused 45 0)
    by_bare n = by_bears (after (forget k m) σ) k facts.0 p x a later n
        ∙ ap (λ (ms : List Mark). cond (name_fits (length n)) (done_if (is_some (find (bears p n) ms)) 46) (refused 45 0)) (marks_on σ k facts.0 p x a lent (forget k m) bare bared)

    gone : known_only (after (forget k m) σ).callers k m ≡ refused 46 0
    unfolding is_some done_if
    gone = by_bare m ∙ rw (facts.1, forgets_own p m m (record_of σ k).marks (same_list_lem eqb (λ i. eq-eqb i i refl) m), is_some)

    kept : (n : List ℕ) → same_name m n ≡ false → known_only (after (forget k m) σ).callers k n ≡ known_only σ.callers k n
    kept n ne = by_bare n ∙ ap (λ (o : Option Mark). cond (name_fits (length n)) (done_if (is_some o) 46) (refused 45 0)) (forgets_other p n m (record_of σ k).marks ne)
        ∙ sym (by_bears σ k facts.0 p x a lent n)

    forget_keeps : (n : List ℕ) → same_name m n ≡ false → Keeps (forget k m) σ k n
    unfolding answer_to
    forget_keeps n ne = record {
      answer = kept n ne;
      place = goes (after (forget k m) σ) k facts.0 p x a later n
          ∙ ap (λ (ms : List Mark). active p (or_stays p x n (find (bears p n) ms)) a) (marks_on σ k facts.0 p x a lent (forget k m) bare bared)
          ∙ ap (λ (o : Option Mark). active p (or_stays p x n o) a) (forgets_other p n m (record_of σ k).marks ne)
          ∙ sym (goes σ k facts.0 p x a lent n);
    }

-- ---- a ninth name
-- only one of the four can be open
lent_small : (σ : Shared) (k : ℕ) (p : Program) (x : Place) (a : Bool) → LentTo σ k p x a → k < 4
unfolding seat_of
lent_small σ k p x a l = go (ltb k 4) refl
  where
    go : (b : Bool) → ltb k 4 ≡ b → k < 4
    go true e = ltb-true k 4 e
    go false e =
        let h = ltb-false k 4 e in
        let z = l.four in
        absurd (not_both (sym reading_fresh ∙ sym (ap reading (get_or-eq_default σ.callers fresh (omega (arith, h, z)))) ∙ l.seat))

name_small : (n : ℕ) → name_fits n ≡ true → n ≤ 8
unfolding name_fits
name_small n e = leb-true n 8 (both (leb 1 n) (leb n 8) e).1

-- a refusal above 45 is not by the length of the name
refused_by : (b o : Bool) (w : ℕ) → 45 < w → cond b (done_if o w) (refused 45 0) ≡ refused w 0 → (b ≡ true) × (o ≡ false)
unfolding done_if
refused_by true true w h e = absurd (let z : ◌≡◌ {A = ℕ} 0 1 = cc in omega arith)
refused_by true false w h e = (refl, refl)
refused_by false o w h e = let z : 45 ≡ w = cc in absurd (omega (arith, z, h))

is_none : {A : Type 0} (o : Option A) → is_some o ≡ false → o ≡ none
unfolding is_some
is_none none e = refl
is_none (some x) e = absurd (false≢true (sym e))

module _ (σ : Shared) (k : ℕ) (p : Program) (x : Place) (a : Bool) (lent : LentTo σ k p x a) where
  in_four : k < 4
  in_four = lent_small σ k p x a lent

  by_slot : (n : List ℕ) → known_only σ.callers k n ≡ cond (name_fits (length n)) (done_if (is_some (slot_of p n (record_of σ k).marks)) 46) (refused 45 0)
  unfolding known_only marks_of
  by_slot n = marks_open σ.callers k n (λ y. is_some (slot_of y n (record_of σ k).marks)) 46 p x a lent.four in_four lent.seat

  by_room : (n : List ℕ) → set_answer σ.callers k n ≡ cond (name_fits (length n)) (done_if (is_some (slot_for p n (record_of σ k).marks)) 47) (refused 45 0)
  unfolding set_answer marks_of
  by_room n = marks_open σ.callers k n (λ y. is_some (slot_for y n (record_of σ k).marks)) 47 p x a lent.four in_four lent.seat

  -- a set with a name that fits is done, or refused by 47
  unless : (n : List ℕ) → name_fits (length n) ≡ true → (set_answer σ.callers k n ≡ done) ⊎ (set_answer σ.callers k n ≡ refused 47 0)
  unfolding done_if
  unless n f = go (is_some (slot_for p n (record_of σ k).marks)) refl
    where
      go : (b : Bool) → is_some (slot_for p n (record_of σ k).marks) ≡ b → (set_answer σ.callers k n ≡ done) ⊎ (set_answer σ.callers k n ≡ refused 47 0)
      go true q = inl (by_room n ∙ rw (f, q))
      go false q = inr (by_room n ∙ rw (f, q))

  first : (n : List ℕ) (i : ℕ) (y : Place) → name_fits (length n) ≡ true → i < 8 → bears p n (get_or (record_of σ k).marks i no_mark) ≡ true →
      ((j : ℕ) → j < i → bears p n (get_or (record_of σ k).marks j no_mark) ≡ false) → mark_place p (get_or (record_of σ k).marks i no_mark) ≡ some y →
      (known_only σ.callers k n ≡ done) × (seat_of (after (return_to k n) σ).callers k ≡ active p y a)
  unfolding marks_of
  first n i y f h e front place = returned_to σ k in_four p x a lent n i y f (slot_first p (record_of σ k).marks lent.eight n i h e front) place

  no_room : (n : List ℕ) → known_only σ.callers k n ≡ refused 46 0 → Eight σ k → set_answer σ.callers k n ≡ refused 47 0
  unfolding answer_to is_some done_if marks_of
  no_room n e g =
      let r = refused_by (name_fits (length n)) (is_some (slot_of p n (record_of σ k).marks)) 46 (omega arith) (sym (by_slot n) ∙ e) in
      let s = no_slot p (record_of σ k).marks lent.eight n g.names (is_none (slot_of p n (record_of σ k).marks) r.1) g.eight g.differ
      (λ m i. known_done σ lent.four k in_four p x a lent.seat m (g.known m i)) in
      by_room n ∙ rw (r.0, s, is_some)

  -- the name of a mark that holds a place fits
  fits_own : (m : Mark) → length m.name ≡ 8 → is_some (mark_place p m) ≡ true → name_fits (length (name_of m)) ≡ true
  unfolding mark_place name_of is_some
  fits_own m h e = go (name_fits m.length) refl
    where
      go : (b : Bool) → name_fits m.length ≡ b → name_fits (length (take m.length m.name)) ≡ true
      go true q =
          let w = length-take m.length m.name in
          let v = name_small m.length q in
          let z : length (take m.length m.name) ≡ m.length = omega (arith, w, v, h) in
          ap name_fits z ∙ q
      go false q = let z : false ≡ true = rw (q, is_some) at e in absurd (false≢true z)

  full : (n : List ℕ) → ((i : ℕ) → i < 8 → length (get_or (record_of σ k).marks i no_mark).name ≡ 8) → set_answer σ.callers k n ≡ refused 47 0 →
      (known_only σ.callers k n ≡ refused 46 0) × Eight σ k
  unfolding answer_to is_some done_if marks_of
  full n bytes e =
      let ms = (record_of σ k).marks in
      let r = refused_by (name_fits (length n)) (is_some (slot_for p n ms)) 47 (omega arith) (sym (by_room n) ∙ e) in
      let u = all_used p ms lent.eight n (is_none (slot_for p n ms) r.1) in (
        by_slot n ∙ rw (r.0, u.0, is_some),
        record {
          names = names p ms lent.eight u.1;
          eight = names_eight p ms lent.eight u.1;
          differ = names_differ p ms lent.eight u.1;
          known = λ m i.
              let w = names_known p ms lent.eight u.1 m i in
              let fit : name_fits (length m) ≡ true = subst (λ (z : List ℕ). name_fits (length z) ≡ true) w.1.2
              (fits_own (get_or ms w.1.0 no_mark) (bytes w.1.0 w.1.1) (u.1 w.1.0 w.1.1).0) in
              by_slot m ∙ rw (fit, w.0);
        },
      )

pub lent : Lent
unfolding answer_to marks_of
lent = record {
  ask_twice = ask_twice;
  ask_again = ask_again;
  idle_exactly = idle_exactly;
  closed_empty = closed_empty;
  set_unless = λ σ k p x a n l f. unless σ k p x a l n f;
  first_mark = λ σ k p x a n i y l f h e front place. first σ k p x a l n i y f h e front place;
  ninth = λ σ k p x a n l e g. no_room σ k p x a l n e g;
  only_ninth = λ σ k p x a n l b e. full σ k p x a l n b e;
  set_returns = λ σ k p x a n l e. own σ k p x a l n e;
  forgotten = λ σ k p x a n l e. gone σ k p x a l n e;
  set_others = λ σ k p x a m n l e ne. set_keeps σ k p x a l m e n ne;
  forget_others = λ σ k p x a m n l e ne. forget_keeps σ k p x a l m e n ne;
}
