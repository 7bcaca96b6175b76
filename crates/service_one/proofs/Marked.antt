-- What set, return and forget do, way by way of the code.
use Prim.Native.Nat.{ℕ, ◌≤◌, ◌<◌}
use mathlib.Core.Path.{◌≡◌, refl, sym, ap, ◌∙◌}
use mathlib.Core.Bool.{Bool, true, false, cond, not, false≢true}
use mathlib.Core.Option.{Option, none, some}
use mathlib.Core.List.{List}
use Rattle.std.specs.Prelude.{Some, None, Result, Ok, Err, ⊤}
use Rattle.std.specs.Option as Code
use Rattle.spec_file.specs.declared.refusal.Refusal.{Refusal}
use native.Mathlib.Omega.{arith}
use borrow.Author.Tests.{le-ltb, eq-eqb, eqb-true, ltb-false}
use lib.Dec.{eqb, ltb}
use lib.ListN.{length, get_or, set}
use Rattle.spec_file.specs.Program.{Program}
use Rattle.spec_service.specs.declared.caller.Caller.{Caller}
use Rattle.spec_service.specs.declared.caller.Mark.{Mark}
use Rattle.spec_service.specs.Seat.{Seat, closed, active, is_open}
use Rattle.spec_service.specs.Record.{reading, fresh, no_mark, with_marks, returned}
use Rattle.spec_service.specs.Marks.{is_some, name_fits, slot_of, slot_for, last_handed, new_mark, emptied, mark_set, mark_forgotten, mark_returned}
use Rattle.spec_service.specs.Call.{Answer, done, refused, set_mark, return_to, forget, seat_of, checked, by_program, marks_only, done_if, marks_of, set_answer, known_only, changed, answer_to, callers_done}
use Rattle.spec_service.proofs.Marks.{slot_of_lem, slot_for_lem}
use Rattle.service_marks.specs.Numbers.{slot_number, refused_by, open_refusal, refusal_of}
use Rattle.service_one.specs.Left.{Left}
use Rattle.service_one.proofs.Doing.{said}
use Rattle.spec_service.specs.Reply.{shared}

-- ---- what comes before the marks
-- nothing is refused: four records, a caller of them that is open, a name of a right length
pub passed : (n k : ℕ) (o f : Bool) (u : ⊤) → refusal_of n k o f ≡ Ok u → (n ≡ 4) × (k ≤ 3) × (o ≡ true) × (f ≡ true)
unfolding refusal_of open_refusal
passed n k o f u e = go (eqb n 4) (ltb 3 k) o f refl refl refl refl e
  where
    go : (t v o' f' : Bool) → eqb n 4 ≡ t → ltb 3 k ≡ v → o ≡ o' → f ≡ f'
        → ◌≡◌ {A = Result ⊤ Refusal} (elim (cond t (cond v (refused_by 42) (cond o' (Ok (tt {0})) (refused_by 44))) (refused_by 22)) as (λ (w : Result ⊤ Refusal). Result ⊤ Refusal) [ Ok u ↦ cond f' (Ok tt) (refused_by 45) | Err r ↦ Err r ]) (Ok u)
        → (n ≡ 4) × (k ≤ 3) × (o ≡ true) × (f ≡ true)
    go true false true true a b c d h = (eqb-true n 4 a, ltb-false 3 k b, c, d)
    go true false true false a b c d h = cc
    go true false false f' a b c d h = cc
    go true true o' f' a b c d h = cc
    go false v o' f' a b c d h = cc

-- by the program of an open seat
by_open : {A : Type 0} (s : Seat) (p : Program) (z : A) (f : Program → A) → by_program s none some ≡ some p → by_program s z f ≡ f p
unfolding by_program
by_open closed p z f e = let w : ◌≡◌ {A = ℕ} 0 1 = cc in absurd (omega arith)
by_open (active p' x a) p z f e = let w : p' ≡ p = cc in ap f w

-- ---- slots
taken : (o : Option ℕ) (i : ℕ) → slot_number o ≡ Some i → o ≡ some i
unfolding slot_number
taken none i e = cc
taken (some j) i e = let z : j ≡ i = cc in ap some z

missing : (o : Option ℕ) → slot_number o ≡ None → o ≡ none
unfolding slot_number
missing none e = refl
missing (some j) e = cc

-- a slot is one of eight
pub set_below : (p : Program) (name : List ℕ) (ms : List Mark) (i : ℕ) → slot_number (slot_for p name ms) ≡ Some i → i < 8
set_below p name ms i s = (slot_for_lem p name ms i (taken _ i s)).0

pub return_below : (p : Program) (name : List ℕ) (ms : List Mark) (i : ℕ) → slot_number (slot_of p name ms) ≡ Some i → i < 8
return_below p name ms i s = (slot_of_lem p name ms i (taken _ i s)).0

-- what comes first says what a call on marks answers
marks_said : (cs : List Caller) (k : ℕ) (name : List ℕ) (f : Program → Answer)
    → marks_only cs k name f ≡ said (refusal_of (length cs) k (is_open (seat_of cs k)) (name_fits (length name))) (by_program (seat_of cs k) (refused 44 0) f)
unfolding marks_only checked refusal_of open_refusal by_program is_open
marks_said cs k name f = go (eqb (length cs) 4) (ltb 3 k) (seat_of cs k) (name_fits (length name))
  where
    go : (t u : Bool) (s : Seat) (v : Bool)
        → cond (not t) (refused 22 0) (cond u (refused 42 0) (by_program s (refused 44 0) (λ p. cond v (f p) (refused 45 0))))
        ≡ said (elim (cond t (cond u (refused_by 42) (cond (is_open s) (Ok (tt {0})) (refused_by 44))) (refused_by 22)) as (λ (w : Result ⊤ Refusal). Result ⊤ Refusal) [ Ok u ↦ cond v (Ok tt) (refused_by 45) | Err r ↦ Err r ]) (by_program s (refused 44 0) f)
    go false u s v = refl
    go true true s v = refl
    go true false closed v = refl
    go true false (active p x a) false = refl
    go true false (active p x a) true = refl

module _ (cs : List Caller) (k : ℕ) (name : List ℕ) (r : Caller) (q : r ≡ get_or cs k fresh) where
  -- ---- refused before the marks
  module _ (n : ℕ) (l : length cs ≡ n) (e : Refusal) (w : refusal_of n k (is_open (reading r)) (name_fits (length name)) ≡ Err e) where
    first_refused : (f : Program → Answer) → marks_only cs k name f ≡ refused e.number e.place
    unfolding seat_of
    first_refused f =
        marks_said cs k name f
        ∙ ap (λ (v : Result ⊤ Refusal). said v (by_program (seat_of cs k) (refused 44 0) f)) ((λ i. refusal_of (l i) k (is_open (reading (sym q i))) (name_fits (length name))) ∙ w)

    pub set_refused : Left (set_mark k name) cs k (Err e)
    unfolding answer_to set_answer
    set_refused m = first_refused _

    pub return_refused : Left (return_to k name) cs k (Err e)
    unfolding answer_to known_only
    return_refused m = first_refused _

    pub forget_refused : Left (forget k name) cs k (Err e)
    unfolding answer_to known_only
    forget_refused m = first_refused _

  -- ---- an open caller and a name of a right length
  module _ (l : length cs ≡ 4) (b : k ≤ 3) (fits : name_fits (length name) ≡ true) (p : Program) (o : by_program (reading r) none some ≡ some p) where
    seat_program : by_program (seat_of cs k) none some ≡ some p
    unfolding seat_of
    seat_program = ap (λ (c : Caller). by_program (reading c) none some) (sym q) ∙ o

    marks_by : (f : Program → Answer) → marks_only cs k name f ≡ f p
    unfolding marks_only checked
    marks_by f = rw (eq-eqb (length cs) 4 l, le-ltb 3 k b) (by_open (seat_of cs k) p (refused 44 0) (λ p. cond (name_fits (length name)) (f p) (refused 45 0)) seat_program ∙ rw fits)

    changed_by : (g : Program → Caller → Caller) → set cs k (g p r) ≡ changed cs k g
    unfolding changed
    changed_by g = ap (λ (c : Caller). set cs k (g p c)) q ∙ sym (ap (set cs k) (by_open (seat_of cs k) p (get_or cs k fresh) (λ p. g p (get_or cs k fresh)) seat_program))

    own_marks : r.marks ≡ marks_of cs k
    unfolding marks_of
    own_marks = ap (λ (c : Caller). c.marks) q

    -- ---- set
    set_known : (o : Option ℕ) → slot_for p name r.marks ≡ o → (m : ℕ) → answer_to (set_mark k name) (shared cs m) ≡ done_if (is_some o) 47
    unfolding answer_to set_answer
    set_known o e m =
        marks_by (λ p. done_if (is_some (slot_for p name (marks_of cs k))) 47)
        ∙ ap (λ (x : Option ℕ). done_if (is_some x) 47) (ap (slot_for p name) (sym own_marks) ∙ e)

    pub set_47 : slot_number (slot_for p name r.marks) ≡ None → Left (set_mark k name) cs k (refused_by 47)
    unfolding done_if is_some
    set_47 s m = set_known none (missing _ s) m

    module _ (i : ℕ) (s : slot_number (slot_for p name r.marks) ≡ Some i) where
      pub set_done : Left (set_mark k name) cs k (Ok (with_marks r (set (emptied p name r.marks) i (new_mark name r (last_handed p r)))))
      unfolding done_if is_some callers_done mark_set with_marks
      set_done m = (set_known (some i) (taken _ i s) m, ap (set cs k) (sym record_is) ∙ changed_by (λ p. mark_set p name))
        where
          record_is : mark_set p name r ≡ with_marks r (set (emptied p name r.marks) i (new_mark name r (last_handed p r)))
          record_is = rw (taken (slot_for p name r.marks) i s, mark_set)

    -- ---- return and forget
    known : (o : Option ℕ) → slot_of p name r.marks ≡ o → known_only cs k name ≡ done_if (is_some o) 46
    unfolding known_only
    known o e =
        marks_by (λ p. done_if (is_some (slot_of p name (marks_of cs k))) 46)
        ∙ ap (λ (x : Option ℕ). done_if (is_some x) 46) (ap (slot_of p name) (sym own_marks) ∙ e)

    pub return_46 : slot_number (slot_of p name r.marks) ≡ None → Left (return_to k name) cs k (refused_by 46)
    unfolding answer_to done_if is_some
    return_46 s m = known none (missing _ s)

    pub forget_46 : slot_number (slot_of p name r.marks) ≡ None → Left (forget k name) cs k (refused_by 46)
    unfolding answer_to done_if is_some
    forget_46 s m = known none (missing _ s)

    module _ (i : ℕ) (s : slot_number (slot_of p name r.marks) ≡ Some i) where
      pub return_done : Left (return_to k name) cs k (Ok (returned r (get_or r.marks i no_mark)))
      unfolding answer_to done_if is_some callers_done mark_returned returned
      return_done m = (known (some i) (taken _ i s), ap (set cs k) (sym record_is) ∙ changed_by (λ p. mark_returned p name))
        where
          record_is : mark_returned p name r ≡ returned r (get_or r.marks i no_mark)
          record_is = rw (taken (slot_of p name r.marks) i s, mark_returned)

    pub forget_done : Code.is_some (slot_number (slot_of p name r.marks)) ≡ true → Left (forget k name) cs k (Ok (mark_forgotten p name r))
    unfolding answer_to done_if is_some callers_done slot_number
    forget_done s m = (known (slot_of p name r.marks) refl ∙ go (slot_of p name r.marks) s, changed_by (λ p. mark_forgotten p name))
      where
        go : (o : Option ℕ) → Code.is_some (slot_number o) ≡ true → done_if (is_some o) 46 ≡ done
        go none h = absurd (false≢true h)
        go (some i) h = refl
