-- ISOLATED: what concerns a caller in a list of calls decides its record and what it receives.
use Prim.Native.Nat.{ℕ, ◌<◌}
use mathlib.Core.Path.{◌≡◌, refl, sym, ap, subst, ◌∙◌}
use mathlib.Core.Logic.{◌≢◌, ◌⊎◌, inl, inr, ⊎_elim}
use mathlib.Core.Bool.{Bool, true, false, cond, false≢true}
use mathlib.Core.Option.{Option, none, some}
use mathlib.Core.List.{List, [], ◌∷◌, ◌++◌, append_assoc}
use native.Mathlib.Omega.{arith}
use native.Mathlib.Decide.{ℕ_discrete}
use borrow.Author.Tests.{eq-eqb, ne_eqb}
use lib.Dec.{eqb, ltb}
use lib.ListN.{length}
use Rattle.spec_file.specs.Program.{Program}
use Rattle.spec_file.specs.Decode.{decode}
use Rattle.spec_schedules.specs.Order.{Schedule}
use Rattle.spec_service.specs.declared.caller.Caller.{Caller}
use Rattle.spec_service.specs.Seat.{is_open}
use Rattle.spec_service.specs.Record.{reading, served}
use Rattle.spec_service.specs.Marks.{is_some, name_fits, slot_of, slot_for}
use Rattle.spec_service.specs.Call.{Call, open_for, ask_for, serve, close_for, set_mark, return_to, forget, Answer, done, given, ended, idle, refused, Shared, seat_of, opened_by, for_seat, handed_to, by_program, done_if, marks_only, marks_of, open_answer, open_only, set_answer, known_only, answer_to, after}
use Rattle.spec_service.specs.Play.{answers, behind_all, hands_to, received}
use Rattle.spec_service.specs.Concerns.{Event, called, taken, own_call, takes, concerns}
use Rattle.spec_service.proofs.Seats.{Four, checked_four, after_refused, four_after}
use Rattle.spec_service.proofs.Touches.{record_of, whose, own_done, own_either, own_leaves_lem, Apart, Own, Taken, touch}

-- ---- by one record alone
-- what caller k's own call answers, by its record
own_answer : ℕ → Call → Caller → Answer
own_answer k (open_for j f) r = cond (ltb 3 k) (refused 42 0) (cond (is_open (reading r)) (refused 43 0) (opened_by (decode f)))
own_answer k (ask_for j) r = cond (ltb 3 k) (refused 42 0) (cond (is_open (reading r)) done (refused 44 0))
own_answer k (serve out) r = idle
own_answer k (close_for j) r = cond (ltb 3 k) (refused 42 0) (cond (is_open (reading r)) done (refused 44 0))
own_answer k (set_mark j n) r = cond (ltb 3 k) (refused 42 0)
    (by_program (reading r) (refused 44 0) (λ p. cond (name_fits (length n)) (done_if (is_some (slot_for p n r.marks)) 47) (refused 45 0)))
own_answer k (return_to j n) r = cond (ltb 3 k) (refused 42 0)
    (by_program (reading r) (refused 44 0) (λ p. cond (name_fits (length n)) (done_if (is_some (slot_of p n r.marks)) 46) (refused 45 0)))
own_answer k (forget j n) r = cond (ltb 3 k) (refused 42 0)
    (by_program (reading r) (refused 44 0) (λ p. cond (name_fits (length n)) (done_if (is_some (slot_of p n r.marks)) 46) (refused 45 0)))

own_answer_lem : (c : Call) (k : ℕ) (σ : Shared) → Four σ.callers → whose c ≡ some k → answer_to c σ ≡ own_answer k c (record_of σ k)
unfolding whose answer_to own_answer open_answer open_only set_answer known_only marks_only marks_of seat_of
own_answer_lem (open_for j f) k σ h e = let z : j ≡ k = cc in ap (λ (m : ℕ). open_answer σ.callers m f) z ∙ checked_four σ.callers k _ h
own_answer_lem (ask_for j) k σ h e = let z : j ≡ k = cc in ap (λ (m : ℕ). open_only σ.callers m) z ∙ checked_four σ.callers k _ h
own_answer_lem (serve out) k σ h e = absurd (let y : ◌≡◌ {A = ℕ} 0 1 = cc in omega arith)
own_answer_lem (close_for j) k σ h e = let z : j ≡ k = cc in ap (λ (m : ℕ). open_only σ.callers m) z ∙ checked_four σ.callers k _ h
own_answer_lem (set_mark j n) k σ h e = let z : j ≡ k = cc in ap (λ (m : ℕ). set_answer σ.callers m n) z ∙ checked_four σ.callers k _ h
own_answer_lem (return_to j n) k σ h e = let z : j ≡ k = cc in ap (λ (m : ℕ). known_only σ.callers m n) z ∙ checked_four σ.callers k _ h
own_answer_lem (forget j n) k σ h e = let z : j ≡ k = cc in ap (λ (m : ℕ). known_only σ.callers m n) z ∙ checked_four σ.callers k _ h

-- what a caller's own call leaves in its record, by the answer
own_leaves : Call → Answer → Caller → Caller
own_leaves c done r = own_done c r
own_leaves c (given j s) r = r
own_leaves c (ended j) r = r
own_leaves c idle r = r
own_leaves c (refused n m) r = r

-- behind one event, and what it hands
record_by : ℕ → Event → Caller → Caller
record_by k (called c) r = own_leaves c (own_answer k c r) r
record_by k taken r = served r (for_seat (reading r))

hands_by : ℕ → Event → Caller → List (Option Schedule)
hands_by k (called c) r = []
hands_by k taken r = for_seat (reading r) ∷ []

-- behind events one after the other, and what they hand
pub record_after : ℕ → List Event → Caller → Caller
record_after k [] r = r
record_after k (e ∷ es) r = record_after k es (record_by k e r)

pub hands_after : ℕ → List Event → Caller → List (Option Schedule)
hands_after k [] r = []
hands_after k (e ∷ es) r = hands_by k e r ++ hands_after k es (record_by k e r)

record_append : (k : ℕ) (u v : List Event) (r : Caller) → record_after k (u ++ v) r ≡ record_after k v (record_after k u r)
unfolding record_after
record_append k [] v r = refl
record_append k (e ∷ u) v r = record_append k u v (record_by k e r)

hands_append : (k : ℕ) (u v : List Event) (r : Caller) → hands_after k (u ++ v) r ≡ hands_after k u r ++ hands_after k v (record_after k u r)
unfolding record_after hands_after
hands_append k [] v r = refl
hands_append k (e ∷ u) v r = ap (λ (l : List (Option Schedule)). hands_by k e r ++ l) (hands_append k u v (record_by k e r))
    ∙ sym (append_assoc (hands_by k e r) (hands_after k u (record_by k e r)) (hands_after k v (record_after k u (record_by k e r))))

-- ---- which events a call is
-- what hands nothing takes nobody
takes_none : (k : ℕ) (a : Answer) → hands_to k a ≡ [] → takes k a ≡ []
unfolding hands_to takes
takes_none k done h = refl
takes_none k (given j s) h = go (eqb j k) h
  where
    go : (b : Bool) → cond b (some s ∷ []) [] ≡ [] → cond b (taken ∷ []) [] ≡ []
    go true e = absurd (let y : ◌≡◌ {A = ℕ} 0 1 = cc in omega arith)
    go false e = refl
takes_none k (ended j) h = go (eqb j k) h
  where
    go : (b : Bool) → cond {A = List (Option Schedule)} b (none ∷ []) [] ≡ [] → cond b (taken ∷ []) [] ≡ []
    go true e = absurd (let y : ◌≡◌ {A = ℕ} 0 1 = cc in omega arith)
    go false e = refl
takes_none k idle h = refl
takes_none k (refused n m) h = refl

takes_own : (k : ℕ) (o : Option Schedule) → (takes k (handed_to k o) ≡ taken ∷ []) × (hands_to k (handed_to k o) ≡ o ∷ [])
unfolding hands_to takes handed_to
takes_own k none = (rw (eq-eqb k k refl), rw (eq-eqb k k refl))
takes_own k (some s) = (rw (eq-eqb k k refl), rw (eq-eqb k k refl))

-- a caller's own call is an event, another's is none
own_event : (k : ℕ) (c : Call) (j : ℕ) → whose c ≡ some j → own_call k c ≡ cond (eqb j k) (called c ∷ []) []
unfolding whose own_call
own_event k (open_for i f) j e = let z : i ≡ j = cc in ap (λ (m : ℕ). cond (eqb m k) (called (open_for i f) ∷ []) []) z
own_event k (ask_for i) j e = let z : i ≡ j = cc in ap (λ (m : ℕ). cond (eqb m k) (called (ask_for i) ∷ []) []) z
own_event k (serve out) j e = absurd (let y : ◌≡◌ {A = ℕ} 0 1 = cc in omega arith)
own_event k (close_for i) j e = let z : i ≡ j = cc in ap (λ (m : ℕ). cond (eqb m k) (called (close_for i) ∷ []) []) z
own_event k (set_mark i n) j e = let z : i ≡ j = cc in ap (λ (m : ℕ). cond (eqb m k) (called (set_mark i n) ∷ []) []) z
own_event k (return_to i n) j e = let z : i ≡ j = cc in ap (λ (m : ℕ). cond (eqb m k) (called (return_to i n) ∷ []) []) z
own_event k (forget i n) j e = let z : i ≡ j = cc in ap (λ (m : ℕ). cond (eqb m k) (called (forget i n) ∷ []) []) z

-- ---- one call
module _ (σ : Shared) (four : Four σ.callers) (k : ℕ) (small : k < 4) where
  abbrev events : Call → List Event
  events c = own_call k c ++ takes k (answer_to c σ)

  -- the events of a call decide the record behind it and what it hands
  abbrev Decided : Call → Type 0
  Decided c = (record_of (after c σ) k ≡ record_after k (events c) (record_of σ k)) × (hands_to k (answer_to c σ) ≡ hands_after k (events c) (record_of σ k))

  decided_by : (c : Call) (es : List Event) → own_call k c ++ takes k (answer_to c σ) ≡ es → record_of (after c σ) k ≡ record_after k es (record_of σ k) →
      hands_to k (answer_to c σ) ≡ hands_after k es (record_of σ k) → Decided c
  decided_by c es e h q = (h ∙ ap (λ (l : List Event). record_after k l (record_of σ k)) (sym e), q ∙ ap (λ (l : List Event). hands_after k l (record_of σ k)) (sym e))

  -- a caller's own call decides so
  decided_own : (c : Call) → whose c ≡ some k → Decided c
  unfolding record_after hands_after record_by hands_by own_leaves hands_to takes
  decided_own c w = ⊎_elim
      (λ (e : answer_to c σ ≡ done). decided_by c (called c ∷ [])
      (ap (λ (l : List Event). l ++ takes k (answer_to c σ)) event ∙ ap (λ (b : Answer). called c ∷ takes k b) e)
      (own_leaves_lem σ four k small c w e ∙ sym (ap (λ (b : Answer). own_leaves c b (record_of σ k)) (sym (own_answer_lem c k σ four w) ∙ e)))
      (ap (hands_to k) e))
      (λ (e : (n : ℕ) × (m : ℕ) × (answer_to c σ ≡ refused n m)). decided_by c (called c ∷ [])
      (ap (λ (l : List Event). l ++ takes k (answer_to c σ)) event ∙ ap (λ (b : Answer). called c ∷ takes k b) e.2)
      (ap (λ (τ : Shared). record_of τ k) (after_refused c σ e.0 e.1 e.2) ∙ sym (ap (λ (b : Answer). own_leaves c b (record_of σ k)) (sym (own_answer_lem c k σ four w) ∙ e.2)))
      (ap (hands_to k) e.2))
      (own_either c k σ four w)
    where
      event : own_call k c ≡ called c ∷ []
      event = own_event k c k w ∙ rw (eq-eqb k k refl)

  -- another's call, and a serve that does not take the caller, decide nothing
  decided_apart : (c : Call) → own_call k c ≡ [] → Apart σ four k small c → Decided c
  unfolding record_after hands_after
  decided_apart c e t = decided_by c [] (ap (λ (l : List Event). l ++ takes k (answer_to c σ)) e ∙ takes_none k (answer_to c σ) t.nothing) t.leaves t.nothing

  decided_other : (c : Call) (j : ℕ) → whose c ≡ some j → k ≢ j → Decided c
  unfolding whose
  decided_other c j w ne = ⊎_elim
      (λ (t : Apart σ four k small c). decided_apart c (own_event k c j w ∙ rw (ne_eqb j k (λ q. ne (sym q)))) t)
      (λ (t : Own σ four k small c ⊎ Taken σ four k small c). ⊎_elim
      (λ (o : Own σ four k small c). absurd (ne (let z = sym o.mine ∙ w in let y : k ≡ j = cc in y)))
      (λ (o : Taken σ four k small c). absurd (let z : none ≡ some j = sym (ap whose o.call) ∙ w in let y : ◌≡◌ {A = ℕ} 0 1 = cc in omega arith)) t)
      (touch σ four k small c)

  decided_serve : (out : List ℕ) → Decided (serve out)
  unfolding whose own_call record_after hands_after record_by hands_by
  decided_serve out = ⊎_elim
      (λ (t : Apart σ four k small (serve out)). decided_apart (serve out) refl t)
      (λ (t : Own σ four k small (serve out) ⊎ Taken σ four k small (serve out)). ⊎_elim
      (λ (o : Own σ four k small (serve out)). absurd (let z = o.mine in let y : ◌≡◌ {A = ℕ} 0 1 = cc in omega arith))
      (λ (o : Taken σ four k small (serve out)). decided_by (serve out) (taken ∷ [])
      (ap (takes k) o.answered ∙ (takes_own k (for_seat (reading (record_of σ k)))).0) o.leaves
      (ap (hands_to k) o.answered ∙ (takes_own k (for_seat (reading (record_of σ k)))).1)) t)
      (touch σ four k small (serve out))

  by_caller : (c : Call) (j : ℕ) → whose c ≡ some j → Dec (k ≡ j) → Decided c
  by_caller c j w (yes q) = decided_own c (w ∙ ap some (sym q))
  by_caller c j w (no ne) = decided_other c j w ne

  decided : (c : Call) → Decided c
  unfolding whose
  decided (open_for j f) = by_caller (open_for j f) j refl (ℕ_discrete k j)
  decided (ask_for j) = by_caller (ask_for j) j refl (ℕ_discrete k j)
  decided (serve out) = decided_serve out
  decided (close_for j) = by_caller (close_for j) j refl (ℕ_discrete k j)
  decided (set_mark j n) = by_caller (set_mark j n) j refl (ℕ_discrete k j)
  decided (return_to j n) = by_caller (return_to j n) j refl (ℕ_discrete k j)
  decided (forget j n) = by_caller (forget j n) j refl (ℕ_discrete k j)

-- ---- every list of calls
module _ (k : ℕ) (small : k < 4) where
  pub decided_from : (cs : List Call) (σ : Shared) → Four σ.callers →
      (record_of (behind_all cs σ) k ≡ record_after k (concerns k cs σ) (record_of σ k)) × (received k (answers cs σ) ≡ hands_after k (concerns k cs σ) (record_of σ k))
  unfolding behind_all answers received concerns record_after hands_after
  decided_from [] σ h = (refl, refl)
  decided_from (c ∷ cs) σ h =
      let d = decided σ h k small c in
      let e = own_call k c ++ takes k (answer_to c σ) in
      let l = concerns k cs (after c σ) in
      let i = decided_from cs (after c σ) (four_after c σ h) in (
        i.0 ∙ ap (record_after k l) d.0 ∙ sym (record_append k e l (record_of σ k)),
        ap (λ (u : List (Option Schedule)). u ++ received k (answers cs (after c σ))) d.1
            ∙ ap (λ (u : List (Option Schedule)). hands_after k e (record_of σ k) ++ u) (i.1 ∙ ap (hands_after k l) d.0)
            ∙ sym (hands_append k e l (record_of σ k)),
      )
