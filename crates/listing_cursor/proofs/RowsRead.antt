-- Rows in a buffer read back: a row's schedule, and the row at a place.
use Prim.Native.Nat.{ℕ, zero, suc, ◌+◌, ◌*◌, ◌<◌, ◌≤◌}
use mathlib.Core.Path.{◌≡◌, refl, sym, ap, ◌∙◌}
use mathlib.Core.Bool.{Bool}
use mathlib.Core.List.{List, [], ◌∷◌, ◌++◌, flat_map}
use native.Mathlib.Nat.{zero-mul, suc-mul, le_trans, le_of_eq}
use native.Mathlib.Omega.{arith}
use lib.ListN.{length, get_or, take, drop}
use lib.Seq.{take_at, take-take, drop-drop, drop-append-add, get_or-take, get_or-drop}
use Rattle.spec_file.proofs.Over.{part_over}
use Rattle.file_rows.proofs.Tabulate.{take_tabulate, tabulate_get_d}
use Rattle.spec_schedules.specs.Order.{Schedule}
use Rattle.spec_calls.specs.Rows.{row_of, row_bytes, row_size, rows_of}
use Rattle.listing_cursor.specs.Rows.{Shown}
use Rattle.listing_cursor.proofs.RowBytes.{row_length}
use Rattle.listing_cursor.proofs.AddedRows.{rows_length, row_within}

-- a row holds its schedule behind two bytes, of which the first is its length
pub row_steps : (w : ℕ) (s : Schedule) (f : Bool) → length s ≤ w → take (length s) (drop 2 (row_bytes w s f)) ≡ s
unfolding row_bytes
row_steps w s f h = take_tabulate (λ k. get_or s k 0) w (length s) h ∙ tabulate_get_d s 0

pub row_steps_count : (w : ℕ) (s : Schedule) (f : Bool) → get_or (row_bytes w s f) 0 0 ≡ length s
unfolding row_bytes
row_steps_count w s f = refl

-- steps read from the first row of some bytes, or from the bytes themselves
steps_in : (w : ℕ) (l : List ℕ) (n : ℕ) → n ≤ w → take n (drop 2 (take (suc (suc w)) l)) ≡ take n (drop 2 l)
steps_in w [] n h = refl
steps_in w (x ∷ []) n h = refl
steps_in w (x ∷ y ∷ l) n h = take-take n w l h

module _ (w : ℕ) (fails : Schedule → Bool) where
  -- row k
  rows_at : (ss : List Schedule) (k : ℕ) → k < length ss → take (row_size w) (drop (k * row_size w) (rows_of w fails ss)) ≡ row_of w fails (get_or ss k [])
  unfolding rows_of flat_map row_of
  rows_at [] k h = absurd (omega arith)
  rows_at (s ∷ ss) zero h =
      ap (λ (i : ℕ). take (row_size w) (drop i (row_of w fails s ++ rows_of w fails ss))) (zero-mul (row_size w))
      ∙ take_at (row_of w fails s) (rows_of w fails ss) (row_size w) (row_length w s (fails s))
  rows_at (s ∷ ss) (suc k) h =
      let e : suc k * row_size w ≡ length (row_of w fails s) + k * row_size w = omega (arith, row_length w s (fails s), suc-mul k (row_size w)) in
      ap (λ (i : ℕ). take (row_size w) (drop i (row_of w fails s ++ rows_of w fails ss))) e
      ∙ ap (take (row_size w)) (drop-append-add (row_of w fails s) (rows_of w fails ss) (k * row_size w)) ∙ rows_at ss k (omega (arith, h))

  module _ (ss : List Schedule) (held rows : List ℕ) (n : ℕ) (shown : Shown w fails ss held rows n) where
    -- row k in a buffer
    pub row_shown : (k : ℕ) → k < n → take (row_size w) (drop (k * row_size w) rows) ≡ row_of w fails (get_or ss k [])
    row_shown k h =
        let c : k < length ss = omega (arith, h, shown.counted) in
        ap (λ (l : List ℕ). take (row_size w) (drop (k * row_size w) l)) shown.text
        ∙ part_over (rows_of w fails ss) held (k * row_size w) (row_size w) (le_trans (row_within k (length ss) (row_size w) c) (le_of_eq (sym (rows_length w fails ss))))
        ∙ rows_at ss k c

    -- the bytes of a row that is shown
    pub shown_at : (k j : ℕ) → k < n → j < row_size w → get_or rows (k * row_size w + j) 0 ≡ get_or (row_of w fails (get_or ss k [])) j 0
    shown_at k j h l =
        sym (get_or-take (row_size w) (drop (k * row_size w) rows) j 0 l ∙ get_or-drop (k * row_size w) rows j 0) ∙ ap (λ (r : List ℕ). get_or r j 0) (row_shown k h)

    -- the first says how many steps there are, and they stand behind two bytes
    pub shown_length : (k : ℕ) → k < n → get_or rows (k * row_size w) 0 ≡ length (get_or ss k [])
    unfolding row_of
    shown_length k h =
        let e : k * row_size w ≡ k * row_size w + 0 = omega arith in
        ap (λ (i : ℕ). get_or rows i 0) e ∙ shown_at k 0 h (omega arith) ∙ row_steps_count w (get_or ss k []) (fails (get_or ss k []))

    pub shown_steps : (k : ℕ) → k < n → length (get_or ss k []) ≤ w → take (length (get_or ss k [])) (drop (k * row_size w + 2) rows) ≡ get_or ss k []
    unfolding row_of
    shown_steps k h l =
        let s : Schedule = get_or ss k [] in
        let j : suc (suc w) ≡ row_size w = omega arith in
        ap (take (length s)) (sym (drop-drop 2 (k * row_size w) rows)) ∙ sym (steps_in w (drop (k * row_size w) rows) (length s) l)
        ∙ ap (λ (i : ℕ). take (length s) (drop 2 (take i (drop (k * row_size w) rows)))) j
        ∙ ap (λ (r : List ℕ). take (length s) (drop 2 r)) (row_shown k h) ∙ row_steps w s (fails s) l
