-- WHAT A NAME STANDS FOR: an open caller's record holds, under each name, what its calls since it opened leave there.
use Prim.Native.Nat.{ℕ, ◌<◌}
use mathlib.Core.Path.{◌≡◌, refl, sym, ap, subst, ◌∙◌}
use mathlib.Core.Logic.{◌⊎◌, ⊎_elim}
use mathlib.Core.Bool.{Bool, true, false, cond, ◌&&◌, false≢true}
use mathlib.Core.Option.{Option, none, some}
use mathlib.Core.List.{List, [], ◌∷◌}
use native.Mathlib.Omega.{arith}
use borrow.Author.Tests.{eqb-true, eq-eqb}
use lib.Dec.{eqb}
use lib.ListN.{length, replicate, get_or, set, length-set, length-map}
use Rattle.spec_file.specs.Program.{Program}
use Rattle.spec_file.proofs.Lists.{same_list_is}
use Rattle.spec_schedules.specs.Lists.{head_of, range, find}
use Rattle.spec_schedules.specs.Order.{Schedule}
use Rattle.spec_service.specs.declared.caller.Caller.{Caller}
use Rattle.spec_service.specs.declared.caller.Mark.{Mark}
use Rattle.spec_service.specs.Seat.{Place, beginning, behind, Seat, active, to_come, asks}
use Rattle.spec_service.specs.Record.{reading, no_mark, fresh, opened, asked, served, with_marks, returned, plain, standing, handing, counting}
use Rattle.spec_service.specs.Marks.{same_name, is_some, name_fits, mark_place, bears, slot_of, slot_for, last_handed, new_mark, emptied}
use Rattle.spec_service.specs.Call.{Call, open_for, ask_for, serve, close_for, set_mark, return_to, forget, Answer, done, given, ended, refused, Shared, seat_of, handed_to, done_if, marks_of, known_only, answer_to, after}
use Rattle.spec_service.specs.Play.{behind_all, Stays}
use Rattle.spec_service.specs.Lent.{or_beginning}
use Rattle.spec_service.specs.Noted.{Noted, nothing_noted, place_behind, note_done, note_call, noted}
use Rattle.spec_service.proofs.Readings.{handed_given, reading_returned}
use Rattle.spec_service.proofs.Seats.{Four, marks_open, four_after}
use Rattle.spec_service.proofs.Touches.{record_of, whose, own_done, Apart, Own, Taken, touch}
use Rattle.spec_service.proofs.Marks.{place_found, slot_at, forgets_own, forgets_other, sets_own, sets_other, new_place, new_bears}
use Rattle.spec_service.proofs.Fates.{Kept, Served, fate, reads, not_opened, set_done, known_done, set_leaves, forget_leaves, return_leaves, slot_place, taken_is, come_full}
use Rattle.spec_service.proofs.InOrder.{stays_now, stays_on}

-- the last schedule handed, as a place
unfoldable pub as_place : Option Schedule → Option Place
as_place none = none
as_place (some s) = some (behind s)

or_behind : (o : Option Schedule) → or_beginning (as_place o) ≡ place_behind o
unfolding or_beginning as_place place_behind
or_behind none = refl
or_behind (some s) = refl

module _ (p : Program) (n : List ℕ) where
  -- a record holds what was noted under the name
  pub record Agrees (r : Caller) (μ : Noted) : Type 0 where
    pub eight : length r.marks ≡ 8
    pub last : last_handed p r ≡ as_place μ.last
    pub place : place_found p (find (bears p n) r.marks) ≡ μ.place
    pub fits : (x : Place) → μ.place ≡ some x → name_fits (length n) ≡ true

  -- an opened one, under no name
  pub agrees_opened : (f : List ℕ) → Agrees (opened f) nothing_noted
  unfolding opened plain nothing_noted last_handed as_place place_found find bears mark_place no_mark name_fits is_some
  agrees_opened f = record { eight = refl; last = refl; place = refl; fits = λ x e. absurd (let y : ◌≡◌ {A = ℕ} 0 1 = cc in omega arith) }

  -- the same marks and the same last schedule hold the same
  agrees_like : (r s : Caller) (μ : Noted) → Agrees r μ → s.marks ≡ r.marks → last_handed p s ≡ last_handed p r → Agrees s μ
  agrees_like r s μ g e h = record {
    eight = ap length e ∙ g.eight;
    last = h ∙ g.last;
    place = ap (λ (ms : List Mark). place_found p (find (bears p n) ms)) e ∙ g.place;
    fits = g.fits;
  }

  agrees_asked : (r : Caller) (μ : Noted) → Agrees r μ → Agrees (asked r) μ
  unfolding asked standing last_handed
  agrees_asked r μ g = agrees_like r (asked r) μ g refl refl

  agrees_returned : (r : Caller) (m : Mark) (μ : Noted) → Agrees r μ → Agrees (returned r m) μ
  unfolding returned standing last_handed
  agrees_returned r m μ g = agrees_like r (returned r m) μ g refl refl

  agrees_ended : (r : Caller) (μ : Noted) → Agrees r μ → Agrees (served r none) μ
  unfolding served standing counting last_handed
  agrees_ended r μ g = agrees_like r (served r none) μ g refl refl

  -- a schedule handed is the last one from then on
  agrees_given : (r : Caller) (s : Schedule) (μ : Noted) → last_handed p (served r (some s)) ≡ some (behind s) → Agrees r μ →
      Agrees (served r (some s)) (record { last = some s; place = μ.place })
  unfolding served standing handing counting as_place
  agrees_given r s μ h g = record { eight = g.eight; last = h; place = g.place; fits = g.fits }

  -- behind a forget
  agrees_forgot : (r : Caller) (m : List ℕ) (μ : Noted) → Agrees r μ →
      Agrees (with_marks r (emptied p m r.marks)) (cond (same_name m n) (record { last = μ.last; place = none }) μ)
  unfolding with_marks last_handed emptied place_found
  agrees_forgot r m μ g = go (same_name m n) refl
    where
      ms : List Mark
      ms = r.marks

      go : (b : Bool) → same_name m n ≡ b → Agrees (with_marks r (emptied p m r.marks)) (cond b (record { last = μ.last; place = none }) μ)
      go true e = record {
        eight = length-map r.marks _ ∙ g.eight;
        last = g.last;
        place = ap (place_found p) (forgets_own p n m r.marks e);
        fits = λ x q. absurd (let y : ◌≡◌ {A = ℕ} 0 1 = cc in omega arith);
      }
      go false e = record {
        eight = length-map r.marks _ ∙ g.eight;
        last = g.last;
        place = ap (place_found p) (forgets_other p n m r.marks e) ∙ g.place;
        fits = g.fits;
      }

  -- behind a set
  agrees_set : (r : Caller) (m : List ℕ) (i : ℕ) (μ : Noted) → Agrees r μ → name_fits (length m) ≡ true → slot_for p m r.marks ≡ some i →
      Agrees (with_marks r (set (emptied p m r.marks) i (new_mark m r (last_handed p r))))
      (cond (same_name m n) (record { last = μ.last; place = some (place_behind μ.last) }) μ)
  unfolding with_marks last_handed emptied place_found
  agrees_set r m i μ g f s = go (same_name m n) refl
    where
      v : Mark
      v = new_mark m r (last_handed p r)

      go : (b : Bool) → same_name m n ≡ b → Agrees (with_marks r (set (emptied p m r.marks) i (new_mark m r (last_handed p r))))
          (cond b (record { last = μ.last; place = some (place_behind μ.last) }) μ)
      go true e = record {
        eight = length-set (emptied p m r.marks) i _ ∙ length-map r.marks _ ∙ g.eight;
        last = g.last;
        place = ap (place_found p) (sets_own p n m r.marks i _ g.eight s e (new_bears p m r f)) ∙ new_place p m r f
            ∙ ap (λ (o : Option Place). some (or_beginning o)) g.last ∙ ap some (or_behind μ.last);
        fits = λ x q. subst (λ (w : List ℕ). name_fits (length w) ≡ true) (same_list_is eqb eqb-true m n e) f;
      }
      go false e = record {
        eight = length-set (emptied p m r.marks) i _ ∙ length-map r.marks _ ∙ g.eight;
        last = g.last;
        place = ap (place_found p) (sets_other p n m r.marks i _ s e (new_bears p m r f)) ∙ g.place;
        fits = g.fits;
      }

-- ---- one call
module _ (p : Program) (n : List ℕ) (σ : Shared) (four : Four σ.callers) (k : ℕ) (small : k < 4) (x : Place) (a : Bool) (seat : seat_of σ.callers k ≡ active p x a)
    (μ : Noted) (g : Agrees p n (record_of σ k) μ) where
  abbrev Next : Call → Type 0
  Next c = Agrees p n (record_of (after c σ) k) (note_call k n c (answer_to c σ) μ)

  abbrev OwnHere : Call → Type 0
  OwnHere c = Own σ four k small c

  -- what follows where both the caller's record and what is noted are known
  next_by : (c : Call) (s : Caller) (ν : Noted) → record_of (after c σ) k ≡ s → note_call k n c (answer_to c σ) μ ≡ ν → Agrees p n s ν → Next c
  next_by c s ν e h q = subst (λ (w : Noted). Agrees p n (record_of (after c σ) k) w) (sym h) (subst (λ (w : Caller). Agrees p n w ν) (sym e) q)

  note_done_lem : (c : Call) → answer_to c σ ≡ done → note_call k n c (answer_to c σ) μ ≡ note_done k n c μ
  unfolding note_call
  note_done_lem c e = ap (λ (b : Answer). note_call k n c b μ) e

  next_ask : OwnHere (ask_for k) → Next (ask_for k)
  unfolding note_done own_done
  next_ask o = next_by (ask_for k) (asked (record_of σ k)) μ o.leaves (note_done_lem (ask_for k) o.answered) (agrees_asked p n (record_of σ k) μ g)

  next_set : (m : List ℕ) → OwnHere (set_mark k m) → Next (set_mark k m)
  unfolding note_done
  next_set m o =
      let d = set_done σ four k small p x a seat m o.answered in
      next_by (set_mark k m) _ _ (o.leaves ∙ set_leaves σ four k small p x a seat m d.1.0 d.1.1)
      (note_done_lem (set_mark k m) o.answered ∙ rw (eq-eqb k k refl)) (agrees_set p n (record_of σ k) m d.1.0 μ g d.0 d.1.1)

  next_forget : (m : List ℕ) → OwnHere (forget k m) → Next (forget k m)
  unfolding note_done
  next_forget m o = next_by (forget k m) _ _ (o.leaves ∙ forget_leaves σ four k small p x a seat m)
      (note_done_lem (forget k m) o.answered ∙ rw (eq-eqb k k refl)) (agrees_forgot p n (record_of σ k) m μ g)

  next_return : (m : List ℕ) → OwnHere (return_to k m) → Next (return_to k m)
  unfolding note_done answer_to
  next_return m o =
      let d = known_done σ four k small p x a seat m o.answered in
      next_by (return_to k m) _ μ (o.leaves ∙ return_leaves σ four k small p x a seat m d.0 d.1)
      (note_done_lem (return_to k m) o.answered) (agrees_returned p n (record_of σ k) (get_or (record_of σ k).marks d.0 no_mark) μ g)

  next_own : (c : Call) → (c ≡ close_for k → ⊥) → OwnHere c → Next c
  unfolding whose
  next_own (open_for j f) z o = let q : k ≡ j = (let w = o.mine in cc) in absurd (not_opened σ four k small p x a seat f (subst (λ (m : ℕ). answer_to (open_for m f) σ ≡ done) (sym q) o.answered))
  next_own (ask_for j) z o = let q : k ≡ j = (let w = o.mine in cc) in subst (λ (m : ℕ). OwnHere (ask_for m) → Next (ask_for m)) q next_ask o
  next_own (serve out) z o = absurd (let w = o.mine in let y : ◌≡◌ {A = ℕ} 0 1 = cc in omega arith)
  next_own (close_for j) z o = let q : k ≡ j = (let w = o.mine in cc) in absurd (z (ap close_for (sym q)))
  next_own (set_mark j m) z o = let q : k ≡ j = (let w = o.mine in cc) in subst (λ (i : ℕ). OwnHere (set_mark i m) → Next (set_mark i m)) q (next_set m) o
  next_own (return_to j m) z o = let q : k ≡ j = (let w = o.mine in cc) in subst (λ (i : ℕ). OwnHere (return_to i m) → Next (return_to i m)) q (next_return m) o
  next_own (forget j m) z o = let q : k ≡ j = (let w = o.mine in cc) in subst (λ (i : ℕ). OwnHere (forget i m) → Next (forget i m)) q (next_forget m) o

  next_taken : (c : Call) → Taken σ four k small c → Next c
  unfolding note_call handed_to head_of
  next_taken c t = go (to_come p x) refl
    where
      own : (answer_to c σ ≡ handed_to k (head_of (to_come p x))) × (record_of (after c σ) k ≡ served (record_of σ k) (head_of (to_come p x)))
      own = taken_is σ four k small p x a seat c t

      go : (l : List Schedule) → to_come p x ≡ l → Next c
      go [] e = next_by c (served (record_of σ k) none) μ (own.1 ∙ ap (λ (z : List Schedule). served (record_of σ k) (head_of z)) e)
          (ap (λ (b : Answer). note_call k n c b μ) (own.0 ∙ ap (λ (z : List Schedule). handed_to k (head_of z)) e)) (agrees_ended p n (record_of σ k) μ g)
      go (s ∷ l) e = next_by c (served (record_of σ k) (some s)) (record { last = some s; place = μ.place }) (own.1 ∙ ap (λ (z : List Schedule). served (record_of σ k) (head_of z)) e)
          (ap (λ (b : Answer). note_call k n c b μ) (own.0 ∙ ap (λ (z : List Schedule). handed_to k (head_of z)) e) ∙ rw (eq-eqb k k refl))
          (agrees_given p n (record_of σ k) s μ (handed_given (record_of σ k) p x a s (reads σ four k small p x a seat) (come_full p x s l e)) g)

  pub agrees_on : (c : Call) → (c ≡ close_for k → ⊥) → Next c
  agrees_on c z = ⊎_elim (λ (t : Apart σ four k small c). next_by c (record_of σ k) μ t.leaves (t.unseen n μ) g)
      (λ (t : OwnHere c ⊎ Taken σ four k small c). ⊎_elim (λ (o : OwnHere c). next_own c z o) (λ (y : Taken σ four k small c). next_taken c y) t)
      (touch σ four k small c)

-- ---- every list of calls
module _ (p : Program) (n : List ℕ) (k : ℕ) (small : k < 4) where
  pub record Open (σ : Shared) (μ : Noted) : Type 0 where
    pub four : Four σ.callers
    pub place : Place
    pub asking : Bool
    pub seat : seat_of σ.callers k ≡ active p place asking
    pub holds : Agrees p n (record_of σ k) μ

  open_on : (c : Call) (σ : Shared) (μ : Noted) → (c ≡ close_for k → ⊥) → Open σ μ → Open (after c σ) (note_call k n c (answer_to c σ) μ)
  open_on c σ μ z o = ⊎_elim
      (λ (q : Kept σ o.four k small p o.place o.asking o.seat c). record { four = four_after c σ o.four; place = q.place; asking = q.asking; seat = q.stands; holds = next })
      (λ (q : Served σ o.four k small p o.place o.asking o.seat c). record { four = four_after c σ o.four; place = q.place; asking = false; seat = q.stands; holds = next })
      (fate σ o.four k small p o.place o.asking o.seat c z)
    where
      next : Agrees p n (record_of (after c σ) k) (note_call k n c (answer_to c σ) μ)
      next = agrees_on p n σ o.four k small o.place o.asking o.seat μ o.holds c z

  -- a caller that stays is open, and its record holds what was noted
  pub noted_from : (cs : List Call) (σ : Shared) (μ : Noted) → Stays k cs → Open σ μ → Open (behind_all cs σ) (noted k n cs σ μ)
  unfolding behind_all noted
  noted_from [] σ μ st o = o
  noted_from (c ∷ cs) σ μ st o = noted_from cs (after c σ) (note_call k n c (answer_to c σ) μ) (stays_on st) (open_on c σ μ (stays_now st) o)

  module _ (σ : Shared) (μ : Noted) (o : Open σ μ) where
    -- return and forget go by whether there is a slot
    by_slot : known_only σ.callers k n ≡ cond (name_fits (length n)) (done_if (is_some (slot_of p n (record_of σ k).marks)) 46) (refused 45 0)
    unfolding known_only marks_of
    by_slot = marks_open σ.callers k n (λ y. is_some (slot_of y n (record_of σ k).marks)) 46 p o.place o.asking o.four small o.seat

    -- a name under which nothing is noted is unknown
    pub unknown_refused : name_fits (length n) ≡ true → μ.place ≡ none → known_only σ.callers k n ≡ refused 46 0
    unfolding done_if is_some place_found
    unknown_refused f e = ⊎_elim
        (λ (q : (slot_of p n (record_of σ k).marks ≡ none) × (find (bears p n) (record_of σ k).marks ≡ none)). by_slot ∙ rw (f, q.0, is_some))
        (λ (q : (i : ℕ) × (slot_of p n (record_of σ k).marks ≡ some i) × (find (bears p n) (record_of σ k).marks ≡ some (get_or (record_of σ k).marks i no_mark))).
        let y = slot_place σ o.four k small p o.place o.asking o.seat n q.0 q.1 in
        let w = sym y.1 ∙ sym (ap (place_found p) q.2) ∙ o.holds.place ∙ e in
        absurd (let z : ◌≡◌ {A = ℕ} 0 1 = cc in omega arith))
        (slot_at p n (record_of σ k).marks o.holds.eight)

    -- one under which a place is noted is known, and its mark holds that place
    pub known_slot : (y : Place) → μ.place ≡ some y →
        (known_only σ.callers k n ≡ done) × ((i : ℕ) × (slot_of p n (record_of σ k).marks ≡ some i) × (mark_place p (get_or (record_of σ k).marks i no_mark) ≡ some y))
    unfolding done_if is_some place_found
    known_slot y e = ⊎_elim
        (λ (q : (slot_of p n (record_of σ k).marks ≡ none) × (find (bears p n) (record_of σ k).marks ≡ none)).
        let w : none ≡ some y = sym (ap (place_found p) q.1) ∙ o.holds.place ∙ e in absurd (let z : ◌≡◌ {A = ℕ} 0 1 = cc in omega arith))
        (λ (q : (i : ℕ) × (slot_of p n (record_of σ k).marks ≡ some i) × (find (bears p n) (record_of σ k).marks ≡ some (get_or (record_of σ k).marks i no_mark))).
        (by_slot ∙ rw (o.holds.fits y e, q.1, is_some), (q.0, q.1, sym (ap (place_found p) q.2) ∙ o.holds.place ∙ e)))
        (slot_at p n (record_of σ k).marks o.holds.eight)
