-- What a call does to an open caller that it does not close: it hands it nothing and leaves it where it stands, if it is not a return of its
-- own, or it hands it the first of what is yet to come of its list, and it then stands behind that.
use Prim.Native.Nat.{ℕ, ◌<◌}
use mathlib.Core.Path.{◌≡◌, refl, sym, ap, subst, ◌∙◌}
use mathlib.Core.Logic.{◌≢◌, ◌⊎◌, inl, inr, ⊎_elim}
use mathlib.Core.Bool.{Bool, true, false, cond, ◌&&◌, false≢true}
use mathlib.Core.Option.{some}
use mathlib.Core.List.{List, [], ◌∷◌, tail, Memᴰ}
use native.Mathlib.Omega.{arith}
use borrow.Author.Tests.{eq-eqb}
use lib.Dec.{eqb}
use lib.ListN.{length, get_or, set}
use Rattle.spec_file.specs.Program.{Program}
use Rattle.spec_schedules.specs.Lists.{head_of}
use Rattle.spec_file.specs.Lists.{Ascends}
use Rattle.spec_schedules.specs.Order.{Schedule, less}
use Rattle.spec_schedules.specs.Found.{after}
use Rattle.spec_schedules.proofs.After.{of_after, after_behind, after_on}
use Rattle.spec_sc.specs.Graph.{Full}
use Rattle.spec_model.specs.Alike.{list_of}
use Rattle.spec_sc.specs.Sequential.{sc}
use Rattle.spec_model.proofs.TheList.{list_ascends, list_exact}
use Rattle.spec_sc.proofs.Laws.{sc_laws}
use Rattle.spec_service.specs.declared.caller.Caller.{Caller}
use Rattle.spec_service.specs.Seat.{Place, beginning, behind, end, Seat, active, to_come, is_open}
use Rattle.spec_service.specs.Record.{reading, no_mark, served, with_marks, returned}
use Rattle.spec_service.specs.Marks.{is_some, name_fits, mark_place, slot_of, slot_for, last_handed, new_mark, emptied, mark_set, mark_returned, mark_forgotten}
use Rattle.spec_service.specs.Call as Calls
use Rattle.spec_service.specs.Call.{Call, open_for, ask_for, serve, close_for, set_mark, return_to, forget, done, refused, Shared, seat_of, for_seat, handed_to, open_answer, by_program, done_if, marks_of, set_answer, known_only, answer_to}
use Rattle.spec_service.specs.Play.{hands_to, is_done, is_return}
use Rattle.spec_service.proofs.Readings.{reading_asked, reading_given, reading_ended, reading_marks, reading_returned}
use Rattle.spec_service.proofs.Seats.{Four, Opens, open_either, marks_open}
use Rattle.spec_service.proofs.Touches.{record_of, whose, own_done, Apart, Own, Taken, touch}
use Rattle.spec_service.proofs.Marks.{is_some_lem, bears_place, slot_of_lem}

-- ---- what is yet to come behind the first of it
pub come_next : (p : Program) (x : Place) (s : Schedule) (l : List Schedule) → to_come p x ≡ s ∷ l → to_come p (behind s) ≡ l
unfolding to_come
come_next p beginning s l e = ap (after (some s)) e ∙ after_behind [] s l (subst (λ k. Ascends less k) e (list_ascends sc sc_laws p))
come_next p (behind b) s l e = after_on (some b) (list_of sc p) [] s l (list_ascends sc sc_laws p) e
come_next p end s l e = absurd (let z : ◌≡◌ {A = ℕ} 0 1 = cc in omega arith)

-- the first of what is yet to come is full
pub come_full : (p : Program) (x : Place) (s : Schedule) (l : List Schedule) → to_come p x ≡ s ∷ l → Full p s
unfolding to_come
come_full p beginning s l e = ((list_exact sc sc_laws p s).0 (subst (Memᴰ s) (sym e) (Memᴰ.head refl))).0
come_full p (behind b) s l e = ((list_exact sc sc_laws p s).0 (of_after (some b) (list_of sc p) s (subst (Memᴰ s) (sym e) (Memᴰ.head refl)))).0
come_full p end s l e = absurd (let z : ◌≡◌ {A = ℕ} 0 1 = cc in omega arith)

module _ (σ : Shared) (four : Four σ.callers) (k : ℕ) (small : k < 4) (p : Program) (x : Place) (a : Bool) (seat : seat_of σ.callers k ≡ active p x a) where
  -- handed nothing, and still asking if it asked; left where it stands save by a return
  pub record Kept (c : Call) : Type 0 where
    pub nothing : hands_to k (answer_to c σ) ≡ []
    pub place : Place
    pub asking : Bool
    pub stands : seat_of (Calls.after c σ).callers k ≡ active p place asking
    pub still : a ≡ true → asking ≡ true
    pub stays : (is_return k c && is_done (answer_to c σ)) ≡ false → place ≡ x

  -- handed the first of what is yet to come, and behind that
  pub record Served (c : Call) : Type 0 where
    pub something : hands_to k (answer_to c σ) ≡ head_of (to_come p x) ∷ []
    pub place : Place
    pub stands : seat_of (Calls.after c σ).callers k ≡ active p place false
    pub rest : to_come p place ≡ tail (to_come p x)

  -- the caller's record reads as its seat
  pub reads : reading (record_of σ k) ≡ active p x a
  unfolding seat_of
  reads = seat

  -- what goes by the program of the caller's seat
  pub by_active : (f : Program → Caller) → by_program (reading (record_of σ k)) (record_of σ k) f ≡ f p
  unfolding by_program
  by_active f = ap (λ (s : Seat). by_program s (record_of σ k) f) reads

  -- ---- its own calls that are done
  -- it does not open again
  pub not_opened : (f : List ℕ) → answer_to (open_for k f) σ ≡ done → ⊥
  unfolding answer_to is_open
  not_opened f e = ⊎_elim
      (λ (z : (open_answer σ.callers k f ≡ done) × Opens σ.callers k f). false≢true (sym z.1.was ∙ ap is_open seat))
      (λ (z : (n : ℕ) × (m : ℕ) × (open_answer σ.callers k f ≡ refused n m)). let w = sym e ∙ z.2 in absurd (let y : ◌≡◌ {A = ℕ} 0 1 = cc in omega arith))
      (open_either σ.callers k f four)

  -- what a call on marks that is done tells
  passed : (b o : Bool) (w : ℕ) → cond b (done_if o w) (refused 45 0) ≡ done → (b ≡ true) × (o ≡ true)
  unfolding done_if
  passed true true w e = (refl, refl)
  passed true false w e = absurd (let y : ◌≡◌ {A = ℕ} 0 1 = cc in omega arith)
  passed false o w e = absurd (let y : ◌≡◌ {A = ℕ} 0 1 = cc in omega arith)

  -- a set: the name fits, and there is a slot for it
  pub set_done : (n : List ℕ) → answer_to (set_mark k n) σ ≡ done → (name_fits (length n) ≡ true) × ((i : ℕ) × (slot_for p n (record_of σ k).marks ≡ some i))
  unfolding answer_to set_answer marks_of
  set_done n e =
      let g : Program → Bool = λ y. is_some (slot_for y n (record_of σ k).marks) in
      let z = passed (name_fits (length n)) (g p) 47 (sym (marks_open σ.callers k n g 47 p x a four small seat) ∙ e) in
      (z.0, is_some_lem (slot_for p n (record_of σ k).marks) z.1)

  -- a return or a forget: there is a mark of that name
  pub known_done : (n : List ℕ) → known_only σ.callers k n ≡ done → (i : ℕ) × (slot_of p n (record_of σ k).marks ≡ some i)
  unfolding known_only marks_of
  known_done n e =
      let g : Program → Bool = λ y. is_some (slot_of y n (record_of σ k).marks) in
      let z = passed (name_fits (length n)) (g p) 46 (sym (marks_open σ.callers k n g 46 p x a four small seat) ∙ e) in
      is_some_lem (slot_of p n (record_of σ k).marks) z.1

  -- the records that they leave
  pub set_leaves : (n : List ℕ) (i : ℕ) → slot_for p n (record_of σ k).marks ≡ some i → own_done (set_mark k n) (record_of σ k)
      ≡ with_marks (record_of σ k) (set (emptied p n (record_of σ k).marks) i (new_mark n (record_of σ k) (last_handed p (record_of σ k))))
  unfolding own_done mark_set
  set_leaves n i e = by_active (λ y. mark_set y n (record_of σ k)) ∙ rw (e, mark_set)

  pub forget_leaves : (n : List ℕ) → own_done (forget k n) (record_of σ k) ≡ with_marks (record_of σ k) (emptied p n (record_of σ k).marks)
  unfolding own_done mark_forgotten
  forget_leaves n = by_active (λ y. mark_forgotten y n (record_of σ k))

  pub return_leaves : (n : List ℕ) (i : ℕ) → slot_of p n (record_of σ k).marks ≡ some i → own_done (return_to k n) (record_of σ k) ≡ returned (record_of σ k) (get_or (record_of σ k).marks i no_mark)
  unfolding own_done mark_returned
  return_leaves n i e = by_active (λ y. mark_returned y n (record_of σ k)) ∙ rw (e, mark_returned)

  -- the mark that a return goes to holds a place
  pub slot_place : (n : List ℕ) (i : ℕ) → slot_of p n (record_of σ k).marks ≡ some i → (y : Place) × (mark_place p (get_or (record_of σ k).marks i no_mark) ≡ some y)
  slot_place n i e = bears_place p n (get_or (record_of σ k).marks i no_mark) (slot_of_lem p n (record_of σ k).marks i e).1

  -- ---- what it is handed and where it stands behind them
  abbrev OwnHere : Call → Type 0
  OwnHere c = Own σ four k small c

  kept_by : (c : Call) (y : Caller) → hands_to k (answer_to c σ) ≡ [] → record_of (Calls.after c σ) k ≡ y → reading y ≡ active p x a → Kept c
  unfolding seat_of
  kept_by c y h e q = record { nothing = h; place = x; asking = a; stands = ap reading e ∙ q; still = λ z. z; stays = λ z. refl }

  done_nothing : (c : Call) → answer_to c σ ≡ done → hands_to k (answer_to c σ) ≡ []
  unfolding hands_to
  done_nothing c e = ap (hands_to k) e

  kept_ask : OwnHere (ask_for k) → Kept (ask_for k)
  unfolding seat_of own_done
  kept_ask o = record {
    nothing = done_nothing (ask_for k) o.answered;
    place = x;
    asking = true;
    stands = ap reading o.leaves ∙ reading_asked (record_of σ k) p x a reads;
    still = λ z. refl;
    stays = λ z. refl;
  }

  kept_set : (n : List ℕ) → OwnHere (set_mark k n) → Kept (set_mark k n)
  kept_set n o =
      let s = (set_done n o.answered).1 in
      kept_by (set_mark k n) _ (done_nothing (set_mark k n) o.answered) (o.leaves ∙ set_leaves n s.0 s.1) (reading_marks (record_of σ k) _ ∙ reads)

  kept_forget : (n : List ℕ) → OwnHere (forget k n) → Kept (forget k n)
  kept_forget n o = kept_by (forget k n) _ (done_nothing (forget k n) o.answered) (o.leaves ∙ forget_leaves n) (reading_marks (record_of σ k) _ ∙ reads)

  kept_return : (n : List ℕ) → OwnHere (return_to k n) → Kept (return_to k n)
  unfolding seat_of answer_to is_return is_done
  kept_return n o =
      let s = known_done n o.answered in
      let y = slot_place n s.0 s.1 in record {
        nothing = done_nothing (return_to k n) o.answered;
        place = y.0;
        asking = a;
        stands = ap reading (o.leaves ∙ return_leaves n s.0 s.1) ∙ reading_returned (record_of σ k) p x a (get_or (record_of σ k).marks s.0 no_mark) y.0 reads y.1;
        still = λ z. z;
        stays = λ z. absurd (false≢true (sym z ∙ (let w : (eqb k k && is_done (answer_to (return_to k n) σ)) ≡ true = rw (eq-eqb k k refl, o.answered) in w)));
      }

  kept_own : (c : Call) → (c ≡ close_for k → ⊥) → OwnHere c → Kept c
  unfolding whose
  kept_own (open_for j f) n o = let q : k ≡ j = (let w = o.mine in cc) in absurd (not_opened f (subst (λ (m : ℕ). answer_to (open_for m f) σ ≡ done) (sym q) o.answered))
  kept_own (ask_for j) n o = let q : k ≡ j = (let w = o.mine in cc) in subst (λ (m : ℕ). OwnHere (ask_for m) → Kept (ask_for m)) q kept_ask o
  kept_own (serve out) n o = absurd (let w = o.mine in let y : ◌≡◌ {A = ℕ} 0 1 = cc in omega arith)
  kept_own (close_for j) n o = let q : k ≡ j = (let w = o.mine in cc) in absurd (n (ap close_for (sym q)))
  kept_own (set_mark j m) n o = let q : k ≡ j = (let w = o.mine in cc) in subst (λ (i : ℕ). OwnHere (set_mark i m) → Kept (set_mark i m)) q (kept_set m) o
  kept_own (return_to j m) n o = let q : k ≡ j = (let w = o.mine in cc) in subst (λ (i : ℕ). OwnHere (return_to i m) → Kept (return_to i m)) q (kept_return m) o
  kept_own (forget j m) n o = let q : k ≡ j = (let w = o.mine in cc) in subst (λ (i : ℕ). OwnHere (forget i m) → Kept (forget i m)) q (kept_forget m) o

  -- a serve that takes it gives the first of what is yet to come
  pub taken_is : (c : Call) → Taken σ four k small c →
      (answer_to c σ ≡ handed_to k (head_of (to_come p x))) × (record_of (Calls.after c σ) k ≡ served (record_of σ k) (head_of (to_come p x)))
  unfolding for_seat
  taken_is c t = (t.answered ∙ ap (λ (s : Seat). handed_to k (for_seat s)) reads, t.leaves ∙ ap (λ (s : Seat). served (record_of σ k) (for_seat s)) reads)

  served_taken : (c : Call) → Taken σ four k small c → Served c
  unfolding hands_to handed_to head_of to_come seat_of
  served_taken c t = go (to_come p x) refl
    where
      own : (answer_to c σ ≡ handed_to k (head_of (to_come p x))) × (record_of (Calls.after c σ) k ≡ served (record_of σ k) (head_of (to_come p x)))
      own = taken_is c t

      go : (l : List Schedule) → to_come p x ≡ l → Served c
      go [] n = record {
        something = ap (hands_to k) (own.0 ∙ ap (λ (z : List Schedule). handed_to k (head_of z)) n) ∙ rw (eq-eqb k k refl, n);
        place = end;
        stands = ap reading (own.1 ∙ ap (λ (z : List Schedule). served (record_of σ k) (head_of z)) n) ∙ reading_ended (record_of σ k) p x a reads;
        rest = sym (ap tail n);
      }
      go (s ∷ l) n = record {
        something = ap (hands_to k) (own.0 ∙ ap (λ (z : List Schedule). handed_to k (head_of z)) n) ∙ rw (eq-eqb k k refl, n);
        place = behind s;
        stands = ap reading (own.1 ∙ ap (λ (z : List Schedule). served (record_of σ k) (head_of z)) n) ∙ reading_given (record_of σ k) p x a s reads (come_full p x s l n);
        rest = come_next p x s l n ∙ sym (ap tail n);
      }

  -- A CALLER'S FATE under a call that does not close it
  pub fate : (c : Call) → (c ≡ close_for k → ⊥) → Kept c ⊎ Served c
  fate c n = ⊎_elim (λ (t : Apart σ four k small c). inl (kept_by c (record_of σ k) t.nothing t.leaves reads))
      (λ (t : OwnHere c ⊎ Taken σ four k small c). ⊎_elim (λ (o : OwnHere c). inl (kept_own c n o)) (λ (z : Taken σ four k small c). inr (served_taken c z)) t)
      (touch σ four k small c)
