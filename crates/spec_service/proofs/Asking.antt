-- ASKING: a caller asks exactly when it asked and was not served, opened or closed since; a second ask changes nothing; serve says idle exactly
-- when nobody asks.
use Prim.Native.Nat.{ℕ, ◌<◌, ◌≤◌}
use mathlib.Core.Path.{◌≡◌, refl, sym, ap, ap₂, subst, ◌∙◌}
use mathlib.Core.Logic.{◌↔◌, ◌⊎◌, ⊎_elim}
use mathlib.Core.Bool.{Bool, true, false, cond, not, ◌&&◌, false≢true}
use mathlib.Core.Option.{Option, none, some}
use mathlib.Core.List.{List, [], ◌∷◌}
use native.Mathlib.Omega.{arith}
use borrow.Author.Tests.{eqb-true, eq-eqb, le-ltb, ltb-true, ltb-false}
use lib.Dec.{eqb, ltb}
use lib.ListN.{length, get_or, set, length-set, get_or-eq_default}
use lib.Seq.{get_or-set_same, set-get_or}
use Rattle.spec_file.specs.Program.{Program}
use Rattle.spec_file.proofs.DigitValues.{both}
use Rattle.spec_file.specs.Decode.{Decoded, accepted, refused}
use Rattle.spec_schedules.specs.Lists.{find}
use Rattle.spec_schedules.specs.Order.{Schedule}
use Rattle.spec_schedules.specs.Calls.{short}
use Rattle.spec_service.specs.declared.caller.Caller.{Caller}
use Rattle.spec_service.specs.Seat.{Place, Seat, closed, active, is_open, asks}
use Rattle.spec_service.specs.Record.{file_read, place_of, seated, seat_by, reading, no_mark, fresh, opened, asked, served, plain, standing, handing, counting}
use Rattle.spec_service.specs.Marks.{is_some, slot_of, slot_for}
use Rattle.spec_service.specs.Call as Calls
use Rattle.spec_service.specs.Call.{Call, open_for, ask_for, serve, close_for, set_mark, return_to, forget, Answer, done, given, ended, idle, Shared, seat_of, checked, open_only, marks_of, set_answer, known_only, last_read, in_turn, next_asking, for_seat, handed_to, served_to, serve_answer, answer_to, callers_done, callers_after, last_after, after}
use Rattle.spec_service.specs.Play.{behind_all}
use Rattle.spec_service.specs.Asking.{asks_done, asks_behind, asks_in}
use Rattle.spec_service.proofs.Rotation.{last_small, last_twice, turn_nearer, turn_none}
use Rattle.spec_service.proofs.Readings.{reading_fresh, reading_asked, reading_marks, reading_returned}
use Rattle.spec_service.proofs.Seats.{Four, Marking, only_either, marks_either, four_after, checked_four}
use Rattle.spec_service.proofs.Touches.{record_of, whose, own_done, Apart, Own, Taken, touch}
use Rattle.spec_service.proofs.Fates.{set_done, known_done, set_leaves, forget_leaves, return_leaves, slot_place}

-- ---- one record
-- a record asks where it says so and somebody is there
asks_reading : (c : Caller) → asks (reading c) ≡ (eqb c.asking 1 && is_open (reading c))
unfolding reading seat_by seated asks is_open
asks_reading c = go (file_read c)
  where
    by : (b : Bool) → (false ≡ (b && false)) × (b ≡ (b && true))
    by true = (refl, refl)
    by false = (refl, refl)

    at : (p : Program) (o : Option Place) (n : ℕ) → asks (seated p o n) ≡ (eqb n 1 && is_open (seated p o n))
    at p none n = (by (eqb n 1)).0
    at p (some x) n = (by (eqb n 1)).1

    go : (d : Decoded) → asks (seat_by d c) ≡ (eqb c.asking 1 && is_open (seat_by d c))
    go (accepted p) = at p (place_of p c.place c.steps c.schedule) c.asking
    go (refused n k) = (by (eqb c.asking 1)).0

opened_silent : (f : List ℕ) → asks (reading (opened f)) ≡ false
unfolding opened plain
opened_silent f = asks_reading (opened f)

served_silent : (c : Caller) (o : Option Schedule) → asks (reading (served c o)) ≡ false
unfolding served standing handing counting
served_silent c none = asks_reading (served c none)
served_silent c (some s) = asks_reading (served c (some s))

-- an ask opens and closes nothing
pub open_asked : (c : Caller) → is_open (reading (asked c)) ≡ is_open (reading c)
unfolding asked standing file_read reading seat_by seated is_open
open_asked c = go (file_read c)
  where
    at : (p : Program) (o : Option Place) (n : ℕ) → is_open (seated p o 1) ≡ is_open (seated p o n)
    at p none n = refl
    at p (some x) n = refl

    go : (d : Decoded) → is_open (seat_by d (asked c)) ≡ is_open (seat_by d c)
    go (accepted p) = at p (place_of p c.place c.steps c.schedule) c.asking
    go (refused n k) = refl

asked_asks : (c : Caller) → is_open (reading c) ≡ true → asks (reading (asked c)) ≡ true
unfolding asked standing
asked_asks c e = asks_reading (asked c) ∙ open_asked c ∙ e

-- ---- one call
module _ (σ : Shared) (four : Four σ.callers) (k : ℕ) (small : k < 4) where
  abbrev was : Bool
  was = asks (seat_of σ.callers k)

  abbrev Next : Call → Type 0
  Next c = asks (seat_of (after c σ).callers k) ≡ asks_behind k c (answer_to c σ) was

  abbrev OwnHere : Call → Type 0
  OwnHere c = Own σ four k small c

  -- whether the caller asks behind a call, by the record that the call leaves
  next_by : (c : Call) (r : Caller) (a : Bool) → record_of (after c σ) k ≡ r → asks (reading r) ≡ a → asks_behind k c (answer_to c σ) was ≡ a → Next c
  unfolding seat_of
  next_by c r a e h q = ap (λ (z : Caller). asks (reading z)) e ∙ h ∙ sym q

  done_by : (c : Call) → answer_to c σ ≡ done → asks_behind k c (answer_to c σ) was ≡ asks_done k c was
  unfolding asks_behind
  done_by c e = ap (λ (b : Answer). asks_behind k c b was) e

  next_open : (f : List ℕ) → OwnHere (open_for k f) → Next (open_for k f)
  unfolding own_done asks_done
  next_open f o = next_by (open_for k f) (opened f) false o.leaves (opened_silent f) (done_by (open_for k f) o.answered ∙ rw (eq-eqb k k refl))

  next_ask : OwnHere (ask_for k) → Next (ask_for k)
  unfolding own_done asks_done answer_to seat_of
  next_ask o = ⊎_elim
      (λ (q : (open_only σ.callers k ≡ done) × (k < 4) × (is_open (seat_of σ.callers k) ≡ true)).
      next_by (ask_for k) (asked (record_of σ k)) true o.leaves (asked_asks (record_of σ k) q.2)
      (done_by (ask_for k) o.answered ∙ rw (eq-eqb k k refl)))
      (λ (q : (n : ℕ) × (m : ℕ) × (open_only σ.callers k ≡ Calls.refused n m)). let z = sym o.answered ∙ q.2 in absurd (let y : ◌≡◌ {A = ℕ} 0 1 = cc in omega arith))
      (only_either σ.callers k four)

  next_close : OwnHere (close_for k) → Next (close_for k)
  unfolding own_done asks_done asks
  next_close o = next_by (close_for k) fresh false o.leaves (ap asks reading_fresh) (done_by (close_for k) o.answered ∙ rw (eq-eqb k k refl))

  -- the calls on marks leave it
  module _ (p : Program) (x : Place) (a : Bool) (seat : seat_of σ.callers k ≡ active p x a) where
    here : was ≡ a
    unfolding asks
    here = ap asks seat

    still : (c : Call) (y : Place) (r : Caller) → record_of (after c σ) k ≡ r → reading r ≡ active p y a → asks_behind k c (answer_to c σ) was ≡ was → Next c
    unfolding asks
    still c y r e h q = next_by c r a e (ap asks h) (q ∙ here)

    reads : reading (record_of σ k) ≡ active p x a
    unfolding seat_of
    reads = seat

    next_set : (n : List ℕ) → OwnHere (set_mark k n) → Next (set_mark k n)
    unfolding asks_done
    next_set n o = let s = (set_done σ four k small p x a seat n o.answered).1 in
        still (set_mark k n) x _ (o.leaves ∙ set_leaves σ four k small p x a seat n s.0 s.1) (reading_marks (record_of σ k) _ ∙ reads) (done_by (set_mark k n) o.answered)

    next_forget : (n : List ℕ) → OwnHere (forget k n) → Next (forget k n)
    unfolding asks_done
    next_forget n o = still (forget k n) x _ (o.leaves ∙ forget_leaves σ four k small p x a seat n) (reading_marks (record_of σ k) _ ∙ reads) (done_by (forget k n) o.answered)

    next_return : (n : List ℕ) → OwnHere (return_to k n) → Next (return_to k n)
    unfolding asks_done answer_to
    next_return n o =
        let s = known_done σ four k small p x a seat n o.answered in
        let y = slot_place σ four k small p x a seat n s.0 s.1 in
        still (return_to k n) y.0 _ (o.leaves ∙ return_leaves σ four k small p x a seat n s.0 s.1)
        (reading_returned (record_of σ k) p x a (get_or (record_of σ k).marks s.0 no_mark) y.0 reads y.1) (done_by (return_to k n) o.answered)

  -- whoever's call on marks is done is open
  set_open : (n : List ℕ) → OwnHere (set_mark k n) → Next (set_mark k n)
  unfolding answer_to set_answer
  set_open n o =
      let g : Program → Bool = λ p. is_some (slot_for p n (marks_of σ.callers k)) in ⊎_elim
      (λ (q : (set_answer σ.callers k n ≡ done) × Marking σ.callers k n g). next_set q.1.program q.1.place q.1.asking q.1.seat n o)
      (λ (q : (v : ℕ) × (m : ℕ) × (set_answer σ.callers k n ≡ Calls.refused v m)). let z = sym o.answered ∙ q.2 in absurd (let y : ◌≡◌ {A = ℕ} 0 1 = cc in omega arith))
      (marks_either σ.callers k n g 47 four)

  known_open : (c : Call) (n : List ℕ) → known_only σ.callers k n ≡ done →
      ((p : Program) (x : Place) (a : Bool) → seat_of σ.callers k ≡ active p x a → Next c) → Next c
  unfolding known_only
  known_open c n e h =
      let g : Program → Bool = λ p. is_some (slot_of p n (marks_of σ.callers k)) in ⊎_elim
      (λ (q : (known_only σ.callers k n ≡ done) × Marking σ.callers k n g). h q.1.program q.1.place q.1.asking q.1.seat)
      (λ (q : (v : ℕ) × (m : ℕ) × (known_only σ.callers k n ≡ Calls.refused v m)). let z = sym e ∙ q.2 in absurd (let y : ◌≡◌ {A = ℕ} 0 1 = cc in omega arith))
      (marks_either σ.callers k n g 46 four)

  next_own : (c : Call) → OwnHere c → Next c
  unfolding whose answer_to
  next_own (open_for j f) o = let q : k ≡ j = (let w = o.mine in cc) in subst (λ (m : ℕ). OwnHere (open_for m f) → Next (open_for m f)) q (next_open f) o
  next_own (ask_for j) o = let q : k ≡ j = (let w = o.mine in cc) in subst (λ (m : ℕ). OwnHere (ask_for m) → Next (ask_for m)) q next_ask o
  next_own (serve out) o = absurd (let w = o.mine in let y : ◌≡◌ {A = ℕ} 0 1 = cc in omega arith)
  next_own (close_for j) o = let q : k ≡ j = (let w = o.mine in cc) in subst (λ (m : ℕ). OwnHere (close_for m) → Next (close_for m)) q next_close o
  next_own (set_mark j n) o = let q : k ≡ j = (let w = o.mine in cc) in subst (λ (m : ℕ). OwnHere (set_mark m n) → Next (set_mark m n)) q (set_open n) o
  next_own (return_to j n) o = let q : k ≡ j = (let w = o.mine in cc) in
      subst (λ (m : ℕ). OwnHere (return_to m n) → Next (return_to m n)) q (λ u. known_open (return_to k n) n u.answered (λ p x a s. next_return p x a s n u)) o
  next_own (forget j n) o = let q : k ≡ j = (let w = o.mine in cc) in
      subst (λ (m : ℕ). OwnHere (forget m n) → Next (forget m n)) q (λ u. known_open (forget k n) n u.answered (λ p x a s. next_forget p x a s n u)) o

  -- a serve that takes it ends its asking
  next_taken : (c : Call) → Taken σ four k small c → Next c
  unfolding asks_behind handed_to
  next_taken c t = next_by c _ false t.leaves (served_silent (record_of σ k) (for_seat (reading (record_of σ k))))
      (ap (λ (b : Answer). asks_behind k c b was) t.answered ∙ go (for_seat (reading (record_of σ k))))
    where
      go : (o : Option Schedule) → asks_behind k c (handed_to k o) was ≡ false
      go none = rw (eq-eqb k k refl)
      go (some s) = rw (eq-eqb k k refl)

  asks_on : (c : Call) → Next c
  unfolding seat_of
  asks_on c = ⊎_elim (λ (t : Apart σ four k small c). ap (λ (r : Caller). asks (reading r)) t.leaves ∙ sym (t.still was))
      (λ (t : OwnHere c ⊎ Taken σ four k small c). ⊎_elim (λ (o : OwnHere c). next_own c o) (λ (y : Taken σ four k small c). next_taken c y) t)
      (touch σ four k small c)

-- ---- every list of calls
pub asks_from : (k : ℕ) → k < 4 → (cs : List Call) (σ : Shared) (a : Bool) → Four σ.callers → asks (seat_of σ.callers k) ≡ a →
    asks (seat_of (behind_all cs σ).callers k) ≡ asks_in k cs σ a
unfolding behind_all asks_in
asks_from k small [] σ a h e = e
asks_from k small (c ∷ cs) σ a h e =
    asks_from k small cs (after c σ) (asks_behind k c (answer_to c σ) a) (four_after c σ h) (asks_on σ h k small c ∙ ap (asks_behind k c (answer_to c σ)) e)

-- ---- asking twice
-- an ask that is done is that of one of four, and open
ask_done : (cs : List Caller) (k : ℕ) → open_only cs k ≡ done → Four cs × (k < 4) × (is_open (seat_of cs k) ≡ true)
unfolding open_only checked
ask_done cs k e = go (eqb (length cs) 4) (ltb 3 k) (is_open (seat_of cs k)) refl refl refl e
  where
    go : (b d o : Bool) → eqb (length cs) 4 ≡ b → ltb 3 k ≡ d → is_open (seat_of cs k) ≡ o →
        cond (not b) (Calls.refused 22 0) (cond d (Calls.refused 42 0) (cond o done (Calls.refused 44 0))) ≡ done → Four cs × (k < 4) × (is_open (seat_of cs k) ≡ true)
    go true false true p q r h = (eqb-true (length cs) 4 p, (let z = ltb-false 3 k q in omega (arith, z)), r)
    go true false false p q r h = absurd (let y : ◌≡◌ {A = ℕ} 0 1 = cc in omega arith)
    go true true o p q r h = absurd (let y : ◌≡◌ {A = ℕ} 0 1 = cc in omega arith)
    go false d o p q r h = absurd (let y : ◌≡◌ {A = ℕ} 0 1 = cc in omega arith)

ask_open : (cs : List Caller) (k : ℕ) → Four cs → k < 4 → is_open (seat_of cs k) ≡ true → open_only cs k ≡ done
unfolding open_only
ask_open cs k h small e = checked_four cs k (cond (is_open (seat_of cs k)) done (Calls.refused 44 0)) h ∙ rw (le-ltb 3 k (omega (arith, small)), e)

asked_twice : (c : Caller) → asked (asked c) ≡ asked c
unfolding asked standing
asked_twice c = refl

ask_leaves : (σ : Shared) (k : ℕ) → answer_to (ask_for k) σ ≡ done → after (ask_for k) σ ≡ record { callers = set σ.callers k (asked (record_of σ k)); last = last_read σ.last }
unfolding after callers_after callers_done last_after
ask_leaves σ k e = rw e

-- a record that asks stays as it is behind an ask
asked_same : (c : Caller) → c.asking ≡ 1 → asked c ≡ c
unfolding asked standing
asked_same c e = ap (standing c c.place c.steps c.schedule) (sym e)

-- only one of the four asks
asking_small : (σ : Shared) (k : ℕ) → Four σ.callers → asks (seat_of σ.callers k) ≡ true → k < 4
unfolding seat_of asks
asking_small σ k h e = go (ltb k 4) refl
  where
    go : (b : Bool) → ltb k 4 ≡ b → k < 4
    go true q = ltb-true k 4 q
    go false q =
        let i = ltb-false k 4 q in
        absurd (false≢true (sym (ap asks reading_fresh) ∙ sym (ap (λ (r : Caller). asks (reading r)) (get_or-eq_default σ.callers fresh (omega (arith, h, i)))) ∙ e))

module _ (σ : Shared) (k : ℕ) where
  -- the state behind an ask
  abbrev once : Shared
  once = record { callers = set σ.callers k (asked (record_of σ k)); last = last_read σ.last }

  twice : Four σ.callers × (k < 4) × (is_open (seat_of σ.callers k) ≡ true) → (answer_to (ask_for k) once ≡ done) × (after (ask_for k) once ≡ once)
  unfolding answer_to seat_of
  twice q =
      let r = record_of σ k in
      let cs = set σ.callers k (asked r) in
      let own : record_of once k ≡ asked r = get_or-set_same σ.callers k (asked r) fresh (omega (arith, q.0, q.1)) in
      let d = ask_open cs k (length-set σ.callers k (asked r) ∙ q.0) q.1 (ap (λ (z : Caller). is_open (reading z)) own ∙ open_asked r ∙ q.2) in (
        d,
        ask_leaves once k d ∙ ap₂ (λ (l : List Caller) (n : ℕ). record { callers = l; last = n })
            (ap (λ (z : Caller). set cs k z) (ap asked own ∙ asked_twice r ∙ sym own) ∙ set-get_or cs k fresh) (last_twice (last_read σ.last) (last_small σ.last)),
      )

  pub ask_twice : answer_to (ask_for k) σ ≡ done → (answer_to (ask_for k) (after (ask_for k) σ) ≡ done) × (after (ask_for k) (after (ask_for k) σ) ≡ after (ask_for k) σ)
  unfolding answer_to
  ask_twice e = subst (λ (z : Shared). (answer_to (ask_for k) z ≡ done) × (after (ask_for k) z ≡ z)) (sym (ask_leaves σ k e)) (twice (ask_done σ.callers k e))

-- an ask of a caller that asks
pub ask_again : (σ : Shared) (k : ℕ) → Four σ.callers → asks (seat_of σ.callers k) ≡ true → (answer_to (ask_for k) σ ≡ done) × ((after (ask_for k) σ).callers ≡ σ.callers)
unfolding answer_to seat_of
ask_again σ k h e =
    let r = record_of σ k in
    let q = both (eqb r.asking 1) (is_open (reading r)) (sym (asks_reading r) ∙ e) in
    let d = ask_open σ.callers k h (asking_small σ k h e) q.1 in
    (d, ap (λ (z : Shared). z.callers) (ask_leaves σ k d) ∙ ap (set σ.callers k) (asked_same r (eqb-true r.asking 1 q.0)) ∙ set-get_or σ.callers k fresh)

-- ---- nobody asks
pub idle_exactly : (σ : Shared) (out : List ℕ) → Four σ.callers → 24 ≤ length out →
    (answer_to (serve out) σ ≡ idle) ↔ ((k : ℕ) → k < 4 → asks (seat_of σ.callers k) ≡ false)
unfolding answer_to serve_answer next_asking served_to handed_to
idle_exactly σ out h enough = (λ e k small. someone e k small, λ all. answered ∙ ap (served_to cs) (turn_none asking σ.last all))
  where
    cs : List Caller
    cs = σ.callers

    asking : ℕ → Bool
    asking j = asks (seat_of cs j)

    answered : serve_answer cs σ.last out ≡ served_to cs (find asking (in_turn σ.last))
    answered = rw (h, le-ltb (length out) 24 enough)

    handed : (m : ℕ) (o : Option Schedule) → handed_to m o ≡ idle → ⊥
    handed m none e = let y : ◌≡◌ {A = ℕ} 0 1 = cc in absurd (omega arith)
    handed m (some s) e = let y : ◌≡◌ {A = ℕ} 0 1 = cc in absurd (omega arith)

    someone : serve_answer cs σ.last out ≡ idle → (k : ℕ) → k < 4 → asking k ≡ false
    someone e k small = go (asking k) refl
      where
        go : (b : Bool) → asking k ≡ b → b ≡ false
        go false q = refl
        go true q =
            let t = turn_nearer asking σ.last k small q in
            absurd (handed t.0 (for_seat (seat_of cs t.0)) (sym (ap (served_to cs) t.1) ∙ sym answered ∙ e))
