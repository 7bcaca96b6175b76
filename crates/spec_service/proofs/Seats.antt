-- What a call can answer, and what caller k's record reads as behind it: only its own calls, and serves that take it, change that.
use Prim.Native.Nat.{ℕ, ◌<◌, ◌≤◌}
use mathlib.Core.Path.{◌≡◌, refl, sym, ap, subst, ◌∙◌}
use mathlib.Core.Logic.{◌≢◌, ◌⊎◌, inl, inr, ⊎_elim}
use mathlib.Core.Bool.{Bool, true, false, cond, not, false≢true}
use mathlib.Core.Option.{Option, none, some}
use mathlib.Core.List.{List, [], ◌∷◌, tail, Memᴰ}
use native.Mathlib.Omega.{arith}
use borrow.Author.Tests.{eq-eqb, le-ltb, ltb-true, ltb-false}
use lib.Dec.{eqb, ltb}
use lib.ListN.{length, get_or, set, length-set}
use lib.Seq.{get_or-set_same, get_or-set_other}
use Rattle.spec_file.specs.Program.{Program}
use Rattle.spec_file.specs.Decode.{Decoded, accepted, decode}
use Rattle.spec_file.specs.Decode as File
use Rattle.spec_schedules.specs.Lists.{head_of}
use Rattle.spec_schedules.specs.Order.{Schedule}
use Rattle.spec_schedules.specs.Calls.{short}
use Rattle.spec_service.specs.declared.caller.Caller.{Caller}
use Rattle.spec_service.specs.Seat.{Place, Seat, closed, active, is_open, asks}
use Rattle.spec_service.specs.Record.{reading, fresh, opened, asked, served}
use Rattle.spec_service.specs.Marks.{name_fits}
use Rattle.spec_service.specs.Call.{Call, open_for, ask_for, serve, close_for, set_mark, return_to, forget, Answer, done, given, ended, idle, refused, Shared, seat_of, checked, opened_by, open_answer, open_only, by_program, marks_only, done_if, changed, next_asking, for_seat, handed_to, served_to, serve_answer, answer_to, callers_done, callers_after, last_after, after}

-- four records, as every call leaves them
abbrev pub Four : List Caller → Type 0
Four cs = length cs ≡ 4

-- ---- what a call can answer
-- caller k is one of the four, and what it reads as is this
pub checked_four : (cs : List Caller) (k : ℕ) (a : Answer) → Four cs → checked cs k a ≡ cond (ltb 3 k) (refused 42 0) a
unfolding checked
checked_four cs k a h = rw h

pub record Opens (cs : List Caller) (k : ℕ) (f : List ℕ) : Type 0 where
  pub small : k < 4
  pub was : is_open (seat_of cs k) ≡ false
  pub program : Program
  pub read : decode f ≡ accepted program

-- an open is done, or refused
pub open_either : (cs : List Caller) (k : ℕ) (f : List ℕ) → Four cs → ((open_answer cs k f ≡ done) × Opens cs k f) ⊎ ((n : ℕ) × (m : ℕ) × (open_answer cs k f ≡ refused n m))
unfolding open_answer opened_by
open_either cs k f h = go (ltb 3 k) (is_open (seat_of cs k)) (decode f) refl refl refl
  where
    here : checked cs k (cond (is_open (seat_of cs k)) (refused 43 0) (opened_by (decode f))) ≡ cond (ltb 3 k) (refused 42 0) (cond (is_open (seat_of cs k)) (refused 43 0) (opened_by (decode f)))
    here = checked_four cs k (cond (is_open (seat_of cs k)) (refused 43 0) (opened_by (decode f))) h

    go : (b o : Bool) (d : Decoded) → ltb 3 k ≡ b → is_open (seat_of cs k) ≡ o → decode f ≡ d →
        ((checked cs k (cond (is_open (seat_of cs k)) (refused 43 0) (opened_by (decode f))) ≡ done) × Opens cs k f)
        ⊎ ((n : ℕ) × (m : ℕ) × (checked cs k (cond (is_open (seat_of cs k)) (refused 43 0) (opened_by (decode f))) ≡ refused n m))
    go true o d p q r = inr (42, 0, here ∙ rw p)
    go false true d p q r = inr (43, 0, here ∙ rw (p, q))
    go false false (accepted x) p q r = inl (here ∙ rw (p, q, r, opened_by), record { small = let z = ltb-false 3 k p in omega (arith, z); was = q; program = x; read = r })
    go false false (File.refused n m) p q r = inr (n, m, here ∙ rw (p, q, r, opened_by))

-- asking and closing are done for an open one, or refused
pub only_either : (cs : List Caller) (k : ℕ) → Four cs → ((open_only cs k ≡ done) × (k < 4) × (is_open (seat_of cs k) ≡ true)) ⊎ ((n : ℕ) × (m : ℕ) × (open_only cs k ≡ refused n m))
unfolding open_only
only_either cs k h = go (ltb 3 k) (is_open (seat_of cs k)) refl refl
  where
    here : checked cs k (cond (is_open (seat_of cs k)) done (refused 44 0)) ≡ cond (ltb 3 k) (refused 42 0) (cond (is_open (seat_of cs k)) done (refused 44 0))
    here = checked_four cs k (cond (is_open (seat_of cs k)) done (refused 44 0)) h

    go : (b o : Bool) → ltb 3 k ≡ b → is_open (seat_of cs k) ≡ o →
        ((checked cs k (cond (is_open (seat_of cs k)) done (refused 44 0)) ≡ done) × (k < 4) × (is_open (seat_of cs k) ≡ true))
        ⊎ ((n : ℕ) × (m : ℕ) × (checked cs k (cond (is_open (seat_of cs k)) done (refused 44 0)) ≡ refused n m))
    go true o p q = inr (42, 0, here ∙ rw p)
    go false true p q = inl (here ∙ rw (p, q), (let z = ltb-false 3 k p in omega (arith, z)), q)
    go false false p q = inr (44, 0, here ∙ rw (p, q))

-- a call on marks is done for an open one, with a name that fits, where its program passes the test; or refused
pub record Marking (cs : List Caller) (k : ℕ) (n : List ℕ) (g : Program → Bool) : Type 0 where
  pub small : k < 4
  pub program : Program
  pub place : Place
  pub asking : Bool
  pub seat : seat_of cs k ≡ active program place asking
  pub fits : name_fits (length n) ≡ true
  pub passes : g program ≡ true

-- for an open caller a call on marks goes by its program
pub marks_open : (cs : List Caller) (k : ℕ) (n : List ℕ) (g : Program → Bool) (w : ℕ) (p : Program) (x : Place) (a : Bool) → Four cs → k < 4 → seat_of cs k ≡ active p x a →
    marks_only cs k n (λ p. done_if (g p) w) ≡ cond (name_fits (length n)) (done_if (g p) w) (refused 45 0)
unfolding marks_only by_program
marks_open cs k n g w p x a h i e =
    checked_four cs k (by_program (seat_of cs k) (refused 44 0) (λ p. cond (name_fits (length n)) (done_if (g p) w) (refused 45 0))) h
    ∙ rw (le-ltb 3 k (omega (arith, i)), e, by_program)

pub marks_either : (cs : List Caller) (k : ℕ) (n : List ℕ) (g : Program → Bool) (w : ℕ) → Four cs →
    ((marks_only cs k n (λ p. done_if (g p) w) ≡ done) × Marking cs k n g) ⊎ ((v : ℕ) × (m : ℕ) × (marks_only cs k n (λ p. done_if (g p) w) ≡ refused v m))
unfolding marks_only done_if by_program
marks_either cs k n g w h = go (ltb 3 k) (seat_of cs k) (name_fits (length n)) refl refl refl
  where
    inside : Seat → Answer
    inside s = by_program s (refused 44 0) (λ p. cond (name_fits (length n)) (cond (g p) done (refused w 0)) (refused 45 0))

    here : checked cs k (inside (seat_of cs k)) ≡ cond (ltb 3 k) (refused 42 0) (inside (seat_of cs k))
    here = checked_four cs k (inside (seat_of cs k)) h

    last : (p : Program) (x : Place) (a b : Bool) → ltb 3 k ≡ false → seat_of cs k ≡ active p x a → name_fits (length n) ≡ true → g p ≡ b →
        ((checked cs k (inside (seat_of cs k)) ≡ done) × Marking cs k n g) ⊎ ((v : ℕ) × (m : ℕ) × (checked cs k (inside (seat_of cs k)) ≡ refused v m))
    last p x a true u q r t = inl (
      here ∙ rw (u, q, by_program, r, t),
      record { small = let z = ltb-false 3 k u in omega (arith, z); program = p; place = x; asking = a; seat = q; fits = r; passes = t },
    )
    last p x a false u q r t = inr (w, 0, here ∙ rw (u, q, by_program, r, t))

    go : (b : Bool) (s : Seat) (o : Bool) → ltb 3 k ≡ b → seat_of cs k ≡ s → name_fits (length n) ≡ o →
        ((checked cs k (inside (seat_of cs k)) ≡ done) × Marking cs k n g) ⊎ ((v : ℕ) × (m : ℕ) × (checked cs k (inside (seat_of cs k)) ≡ refused v m))
    go true s o u q r = inr (42, 0, here ∙ rw u)
    go false closed o u q r = inr (44, 0, here ∙ rw (u, q, by_program))
    go false (active p x a) false u q r = inr (45, 0, here ∙ rw (u, q, by_program, r))
    go false (active p x a) true u q r = last p x a (g p) u q r refl

-- a serve is refused, or takes whoever comes next in turn
pub serve_either : (cs : List Caller) (n : ℕ) (out : List ℕ) → Four cs → (serve_answer cs n out ≡ refused 22 0) ⊎ (serve_answer cs n out ≡ served_to cs (next_asking cs n))
unfolding serve_answer
serve_either cs n out h = go (short 24 out) refl
  where
    go : (b : Bool) → short 24 out ≡ b →
        (cond (not (eqb (length cs) 4)) (refused 22 0) (cond (short 24 out) (refused 22 0) (served_to cs (next_asking cs n))) ≡ refused 22 0)
        ⊎ (cond (not (eqb (length cs) 4)) (refused 22 0) (cond (short 24 out) (refused 22 0) (served_to cs (next_asking cs n))) ≡ served_to cs (next_asking cs n))
    go true e = inl (rw (h, e))
    go false e = inr (rw (h, e))

-- ---- the seats behind a call
-- a record put back reads as itself, and the others as before
pub seat_same : (cs : List Caller) (k : ℕ) (x : Caller) → Four cs → k < 4 → seat_of (set cs k x) k ≡ reading x
unfolding seat_of
seat_same cs k x h i = ap reading (get_or-set_same cs k x fresh (omega (arith, h, i)))

pub seat_other : (cs : List Caller) (k j : ℕ) (x : Caller) → j ≢ k → seat_of (set cs k x) j ≡ seat_of cs j
unfolding seat_of
seat_other cs k j x ne = ap reading (get_or-set_other cs k j x fresh ne)

-- a refusal changes nothing
pub after_refused : (c : Call) (σ : Shared) (n m : ℕ) → answer_to c σ ≡ refused n m → after c σ ≡ σ
unfolding after callers_after last_after
after_refused c σ n m e = rw e

-- there are four records behind every call
pub four_after : (c : Call) (σ : Shared) → Four σ.callers → Four (after c σ).callers
unfolding after callers_after callers_done changed
four_after c σ h = go c (answer_to c σ)
  where
    go : (c : Call) (a : Answer) → Four (callers_after c a σ.callers)
    go (open_for k f) done = length-set σ.callers k _ ∙ h
    go (ask_for k) done = length-set σ.callers k _ ∙ h
    go (serve out) done = h
    go (close_for k) done = length-set σ.callers k _ ∙ h
    go (set_mark k n) done = length-set σ.callers k _ ∙ h
    go (return_to k n) done = length-set σ.callers k _ ∙ h
    go (forget k n) done = length-set σ.callers k _ ∙ h
    go c (given k s) = length-set σ.callers k _ ∙ h
    go c (ended k) = length-set σ.callers k _ ∙ h
    go c idle = h
    go c (refused n k) = h
