-- WHAT A CALL CAN ANSWER, whatever it is lent. A serve: 22, idle, no more for one of the four, or a schedule of at most 24 steps for one of them,
-- with room for it in the output. Every other call: done, or a refusal whose number has eight bits and whose place has 48.
use Prim.Native.Nat.{ℕ, ◌^◌, ◌<◌, ◌≤◌}
use mathlib.Core.Path.{◌≡◌, refl}
use mathlib.Core.Logic.{◌⊎◌, ⊎_elim}
use mathlib.Core.Bool.{Bool, true, false, cond, not}
use mathlib.Core.Option.{Option, none, some}
use mathlib.Core.List.{List, [], ◌∷◌}
use native.Mathlib.Omega.{arith}
use borrow.Author.Tests.{ltb-false}
use lib.Dec.{eqb, ltb}
use lib.ListN.{length, get_or}
use Rattle.spec_file.specs.Program.{Program}
use Rattle.spec_file.specs.Decode.{Decoded, accepted, decode}
use Rattle.spec_file.specs.Decode as File
use Rattle.spec_file.proofs.Places.{decode_within}
use Rattle.spec_schedules.specs.Lists.{head_of}
use Rattle.spec_schedules.specs.Order.{Schedule}
use Rattle.spec_schedules.specs.Calls.{short}
use Rattle.spec_sc.proofs.Lawful.{at_most_24}
use Rattle.spec_service.specs.declared.caller.Caller.{Caller}
use Rattle.spec_service.specs.Seat.{Seat, closed, active, to_come, is_open, asks}
use Rattle.spec_service.specs.Record.{fresh}
use Rattle.spec_service.specs.Marks.{is_some, name_fits, slot_of, slot_for}
use Rattle.spec_service.specs.Call.{Call, open_for, ask_for, serve, close_for, set_mark, return_to, forget, Answer, done, given, ended, idle, refused, Shared, seat_of, checked, opened_by, open_answer, open_only, by_program, marks_only, done_if, marks_of, set_answer, known_only, next_asking, for_seat, handed_to, served_to, serve_answer, answer_to}
use Rattle.spec_service.proofs.Rotation.{turn_small}
use Rattle.spec_service.proofs.Readings.{active_formed}
use Rattle.spec_service.proofs.Fates.{come_full}

-- what holds of both holds of either
either_way : (P : Answer → Type 0) (b : Bool) (u v : Answer) → P u → P v → P (cond b u v)
either_way P true u v h k = h
either_way P false u v h k = k

-- ---- every call but a serve
module _ (P : Answer → Type 0) (yes : P done) (no : (n m : ℕ) → n < 256 → m < 2 ^ 48 → P (refused n m)) where
  at_zero : (n : ℕ) → n < 256 → P (refused n 0)
  at_zero n h = no n 0 h (omega arith)

  by_checks : (cs : List Caller) (k : ℕ) (a : Answer) → P a → P (checked cs k a)
  unfolding checked
  by_checks cs k a h = either_way P (not (eqb (length cs) 4)) (refused 22 0) _ (at_zero 22 (omega arith)) (either_way P (ltb 3 k) (refused 42 0) a (at_zero 42 (omega arith)) h)

  by_file : (f : List ℕ) → P (opened_by (decode f))
  unfolding opened_by
  by_file f = go (decode f) refl
    where
      go : (d : Decoded) → decode f ≡ d → P (opened_by d)
      go (accepted p) e = yes
      go (File.refused n k) e =
          let h = rw e at (decode_within f) in
          no n k (⊎_elim (λ (a : n ≤ 8). let z : n < 256 = omega arith in z) (λ (a : n ≡ 40). omega arith) h.0) (omega (arith, h.1))

  by_open : (cs : List Caller) (k : ℕ) → P (open_only cs k)
  unfolding open_only
  by_open cs k = by_checks cs k _ (either_way P (is_open (seat_of cs k)) done (refused 44 0) yes (at_zero 44 (omega arith)))

  by_marks : (cs : List Caller) (k : ℕ) (n : List ℕ) (g : Program → Bool) (w : ℕ) → w < 256 → P (marks_only cs k n (λ p. done_if (g p) w))
  unfolding marks_only by_program done_if
  by_marks cs k n g w h = by_checks cs k _ (go (seat_of cs k))
    where
      go : (s : Seat) → P (by_program s (refused 44 0) (λ p. cond (name_fits (length n)) (cond (g p) done (refused w 0)) (refused 45 0)))
      go closed = at_zero 44 (omega arith)
      go (active p x a) = either_way P (name_fits (length n)) _ (refused 45 0) (either_way P (g p) done (refused w 0) yes (at_zero w h)) (at_zero 45 (omega arith))

  -- IT IS DONE OR REFUSED
  pub own_answers : (c : Call) (σ : Shared) → ((out : List ℕ) → c ≡ serve out → ⊥) → P (answer_to c σ)
  unfolding answer_to open_answer set_answer known_only
  own_answers (open_for k f) σ n = by_checks σ.callers k _ (either_way P (is_open (seat_of σ.callers k)) (refused 43 0) (opened_by (decode f)) (at_zero 43 (omega arith)) (by_file f))
  own_answers (ask_for k) σ n = by_open σ.callers k
  own_answers (serve out) σ n = absurd (n out refl)
  own_answers (close_for k) σ n = by_open σ.callers k
  own_answers (set_mark k m) σ n = by_marks σ.callers k m (λ y. is_some (slot_for y m (marks_of σ.callers k))) 47 (omega arith)
  own_answers (return_to k m) σ n = by_marks σ.callers k m (λ y. is_some (slot_of y m (marks_of σ.callers k))) 46 (omega arith)
  own_answers (forget k m) σ n = by_marks σ.callers k m (λ y. is_some (slot_of y m (marks_of σ.callers k))) 46 (omega arith)

-- ---- a serve
module _ (out : List ℕ) (P : Answer → Type 0) (no : P (refused 22 0)) (nobody : P idle) (end : (k : ℕ) → k < 4 → P (ended k))
    (one : (k : ℕ) (s : Schedule) → k < 4 → length s ≤ 24 → 24 ≤ length out → P (given k s)) where
  by_seat : (cs : List Caller) (k : ℕ) → k < 4 → 24 ≤ length out → P (handed_to k (for_seat (seat_of cs k)))
  unfolding handed_to for_seat head_of seat_of
  by_seat cs k small enough = go (seat_of cs k) refl
    where
      go : (s : Seat) → seat_of cs k ≡ s → P (handed_to k (for_seat s))
      go closed e = end k small
      go (active p x a) e = first (to_come p x) refl
        where
          first : (l : List Schedule) → to_come p x ≡ l → P (handed_to k (head_of l))
          first [] q = end k small
          first (s ∷ l) q = one k s small (at_most_24 p (active_formed (get_or cs k fresh) p x a e) s (come_full p x s l q)) enough

  -- IT IS REFUSED BY 22, IDLE, NO MORE OR A SCHEDULE, and never just done
  pub serve_answers : (σ : Shared) → P (answer_to (serve out) σ)
  unfolding answer_to serve_answer next_asking served_to
  serve_answers σ = either_way P (not (eqb (length σ.callers) 4)) (refused 22 0) _ no (go (short 24 out) refl)
    where
      turn : 24 ≤ length out → (o : Option ℕ) → next_asking σ.callers σ.last ≡ o → P (served_to σ.callers o)
      turn enough none e = nobody
      turn enough (some k) e = by_seat σ.callers k (turn_small (λ j. asks (seat_of σ.callers j)) σ.last k e) enough

      go : (b : Bool) → short 24 out ≡ b → P (cond b (refused 22 0) (served_to σ.callers (next_asking σ.callers σ.last)))
      go true e = no
      go false e = turn (ltb-false (length out) 24 e) (next_asking σ.callers σ.last) refl
