-- The first skip beyond its thread's end, found in the rows.
use Prim.Native.Nat.{ℕ, suc, ◌+◌, ◌*◌, ◌-◌, ◌≤◌, ◌<◌}
use native.Mathlib.Numerals.{add-one}
use native.Mathlib.Omega.{arith}
use mathlib.Core.Path.{◌≡◌, ◌∙◌, ap, sym}
use mathlib.Core.Bool.{cond}
use mathlib.Core.List.{List, []}
use lib.Dec.{eqb, ltb, lit<}
use lib.ListN.{length, get_or, drop, length-drop, drop_of_length-le}
use lib.Seq.{drop-cons}
use borrow.Author.Tests.{eq-eqb, ne_eqb, lt-ltb, le-ltb}
use Rattle.std.specs.Prelude.{Some, None}
use Rattle.file_lines.specs.Numbers.{unless_zero}
use Rattle.file_lines.proofs.Numbers.{unless_none, unless_some, unless_positive}
use Rattle.spec_file.specs.Kinds.{kind_of}
use Rattle.spec_file.specs.Frames.{Frame, byte, kind, skip_of}
use Rattle.file_rows.specs.Rows.{row_at}
use Rattle.spec_file.specs.Decode.{Placed, far_skip, first_far_skip}
use Rattle.file_refusals.specs.Held.{no_instruction}
use Rattle.file_decoder.specs.Held.{HeldThread}
use Rattle.spec_file.proofs.KindTable.{kind_bounds}
use Rattle.file_rows.proofs.Rows.{row_byte}

skip_same : (f g : Frame) → ((j : ℕ) → j < 16 → byte f j ≡ byte g j) → skip_of f ≡ skip_of g
unfolding skip_of kind
skip_same f g same =
    let k = kind_bounds (byte g 0) in
    rw (same 0 (lit< tt), same (kind_of (byte g 0)).skip (omega arith))

-- ---- one thread
module _ (code rows : List ℕ) (t : ℕ) (xs : List Placed) (held : HeldThread code rows t xs) where
  row_skip : (i : ℕ) → i < length xs → skip_of (row_at code (t * 16 + i)) ≡ skip_of (get_or xs i no_instruction).code
  row_skip i h =
      skip_same (row_at code (t * 16 + i)) (get_or xs i no_instruction).code
      (λ j hj. row_byte code (t * 16 + i) j hj ∙ held.bytes i j h hj)

  step : (i : ℕ) → i < length xs
      → far_skip (drop i xs) ≡ cond (ltb (length xs - i - 1) (skip_of (row_at code (t * 16 + i)))) (get_or rows (t * 16 + i) 0) (far_skip (drop (i + 1) xs))
  unfolding far_skip
  step i h =
      let n : length (drop (suc i) xs) ≡ length xs - i - 1 = length-drop (suc i) xs ∙ omega arith in
      ap far_skip (drop-cons xs i no_instruction h)
      ∙ rw (n, ← row_skip i h, ← held.lines i h, add-one i)

  -- a skip that goes too far
  pub far_found : (i : ℕ) → i < length xs → length xs - i - 1 < skip_of (row_at code (t * 16 + i)) → unless_zero (far_skip (drop i xs)) ≡ Some (get_or rows (t * 16 + i) 0)
  far_found i h k =
      let n = held.numbered i h in
      ap unless_zero (step i h ∙ rw (lt-ltb (length xs - i - 1) (skip_of (row_at code (t * 16 + i))) k))
      ∙ unless_positive (get_or rows (t * 16 + i) 0) (omega (arith, held.lines i h))

  -- a skip that does not go too far
  pub far_next : (i : ℕ) → i < length xs → skip_of (row_at code (t * 16 + i)) ≤ length xs - i - 1 → far_skip (drop i xs) ≡ far_skip (drop (i + 1) xs)
  far_next i h k = step i h ∙ rw (le-ltb (length xs - i - 1) (skip_of (row_at code (t * 16 + i))) k)

  pub far_none : (i : ℕ) → length xs ≤ i → far_skip (drop i xs) ≡ 0
  unfolding far_skip
  far_none i h = ap far_skip (drop_of_length-le xs h)

-- ---- all threads
first_step : (cs : List (List Placed)) (t : ℕ) → t < length cs
    → first_far_skip (drop t cs) ≡ cond (eqb (far_skip (get_or cs t [])) 0) (first_far_skip (drop (t + 1) cs)) (far_skip (get_or cs t []))
unfolding first_far_skip
first_step cs t h = ap first_far_skip (drop-cons cs t [] h) ∙ rw (add-one t)

pub first_found : (cs : List (List Placed)) (t k : ℕ) → t < length cs → Some k ≡ unless_zero (far_skip (get_or cs t [])) → Some k ≡ unless_zero (first_far_skip (drop t cs))
first_found cs t k h e =
    let q = unless_some (far_skip (get_or cs t [])) k (sym e) in
    sym (ap unless_zero (first_step cs t h ∙ rw (q.0, ne_eqb k 0 (λ z. omega arith))) ∙ unless_positive k q.1)

pub first_next_lem : (cs : List (List Placed)) (t : ℕ) → t < length cs → None ≡ unless_zero (far_skip (get_or cs t [])) → first_far_skip (drop t cs) ≡ first_far_skip (drop (t + 1) cs)
first_next_lem cs t h e = first_step cs t h ∙ rw (eq-eqb (far_skip (get_or cs t [])) 0 (unless_none _ (sym e)))

pub first_none : (cs : List (List Placed)) (t : ℕ) → length cs ≤ t → first_far_skip (drop t cs) ≡ 0
unfolding first_far_skip
first_none cs t h = ap first_far_skip (drop_of_length-le cs h)
