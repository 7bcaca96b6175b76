-- Rows added to an output, as far as there is room: none, one more, and some behind others.
use Prim.Native.Nat.{ℕ, zero, suc, ◌+◌, ◌-◌, ◌*◌, ◌/◌, ◌<◌, ◌≤◌}
use mathlib.Core.Path.{◌≡◌, refl, sym, ap, subst, ◌∙◌}
use mathlib.Core.Bool.{Bool}
use mathlib.Core.List.{List, [], ◌∷◌, ◌++◌, flat_map, append_assoc, append-nil}
use native.Mathlib.Nat.{mul-le-mul_right, zero-mul, suc-mul, div-mul-le_self, le_trans, le_of_eq}
use native.Mathlib.Omega.{arith}
use lib.ListN.{length, take, length-append, length-take}
use lib.Seq.{take_at, take_all}
use borrow.Rule.Slice.PartMut.{mid_of, put_mid}
use Rattle.spec_file.specs.Over.{over}
use Rattle.spec_file.proofs.Over.{over_part}
use Rattle.spec_schedules.specs.Order.{Schedule}
use Rattle.spec_calls.specs.Rows.{row_of, row_bytes, row_size, rows_of}
use Rattle.listing_cursor.specs.Rows.{Shown}
use Rattle.listing_cursor.specs.Walked.{Adds}
use Rattle.listing_cursor.proofs.RowBytes.{row_length}

-- ---- so many rows in so many bytes
-- the rows that there is room for lie within the buffer
pub rows_fit : (n r : ℕ) → (n / r) * r ≤ n
rows_fit n r = div-mul-le_self n r

-- a row lies within the rows
pub row_within : (k n r : ℕ) → k < n → k * r + r ≤ n * r
row_within k n r h =
    let e : suc k * r ≡ k * r + r = suc-mul k r in
    le_trans (le_of_eq (sym e)) (mul-le-mul_right r h)

pub rows_within : (k n r : ℕ) → k ≤ n → k * r ≤ n * r
rows_within k n r h = mul-le-mul_right r h

-- the first so many, of the first so many with more behind them
pub take_again : {A : Type 0} (n : ℕ) (xs ys : List A) → take n (take n xs ++ ys) ≡ take n (xs ++ ys)
take_again zero xs ys = refl
take_again (suc n) [] ys = refl
take_again {A} (suc n) (x ∷ xs) ys = ap (λ (l : List A). x ∷ l) (take_again n xs ys)

module _ (w : ℕ) (fails : Schedule → Bool) where
  pub rows_length : (ss : List Schedule) → length (rows_of w fails ss) ≡ length ss * row_size w
  unfolding rows_of flat_map row_of
  rows_length [] = sym (zero-mul (row_size w))
  rows_length (s ∷ ss) =
      let h = rows_length ss in
      let n = row_length w s (fails s) in
      let m = suc-mul (length ss) (row_size w) in
      length-append (row_bytes w s (fails s)) (rows_of w fails ss) ∙ omega (arith, h, n, m)

  -- rows behind rows
  pub rows_append : (ss rs : List Schedule) → rows_of w fails (ss ++ rs) ≡ rows_of w fails ss ++ rows_of w fails rs
  unfolding rows_of flat_map
  rows_append [] rs = refl
  rows_append (s ∷ ss) rs =
      ap (λ (t : List ℕ). row_of w fails s ++ t) (rows_append ss rs) ∙ sym (append_assoc (row_of w fails s) (rows_of w fails ss) (rows_of w fails rs))

  one_row : (ss : List Schedule) (v : Schedule) → rows_of w fails ss ++ row_of w fails v ≡ rows_of w fails (ss ++ (v ∷ []))
  unfolding rows_of flat_map
  one_row ss v = sym (rows_append ss (v ∷ []) ∙ ap (λ (t : List ℕ). rows_of w fails ss ++ t) (append-nil (row_of w fails v)))

  module _ (room : ℕ) where
    shown_same : (ss rs : List Schedule) (held out : List ℕ) (n : ℕ) → ss ≡ rs → Shown w fails ss held out n → Shown w fails rs held out n
    shown_same ss rs held out n e s = subst (λ (l : List Schedule). Shown w fails l held out n) e s

    -- nothing is found
    pub adds_none : (found : List Schedule) (out : List ℕ) (n : ℕ) → found ≡ [] → Adds w fails room found out n out n
    adds_none found out n e = record {
      shown = λ ss held r h s. shown_same ss (take room (ss ++ found)) held out n (sym (ap (λ (l : List Schedule). take room (ss ++ l)) e ∙ ap (take room) (append-nil ss) ∙ take_all room ss h)) s;
    }

    -- there is no room
    pub adds_full : (found : List Schedule) (out : List ℕ) (n : ℕ) → room ≤ n → Adds w fails room found out n out n
    adds_full found out n e = record {
      shown = λ ss held r h s. shown_same ss (take room (ss ++ found)) held out n (sym (take_at ss found room (omega (arith, h, s.counted, e)))) s;
    }

    -- some rows, and then others
    pub adds_more : (found rest : List Schedule) (out out' out'' : List ℕ) (n n' n'' : ℕ) → Adds w fails room found out n out' n' → Adds w fails room rest out' n' out'' n''
        → Adds w fails room (found ++ rest) out n out'' n''
    adds_more found rest out out' out'' n n' n'' a b = record {
      shown = λ ss held r h s.
          let k : length (take room (ss ++ found)) ≤ room = rw (length-take room (ss ++ found)) (omega arith) in
          shown_same (take room (take room (ss ++ found) ++ rest)) (take room (ss ++ (found ++ rest))) held out'' n''
          (take_again room (ss ++ found) rest ∙ ap (take room) (append_assoc ss found rest))
          (b.shown (take room (ss ++ found)) held r k (a.shown ss held r h s));
    }

    pub adds_same : (found rest : List Schedule) (out out' : List ℕ) (n n' : ℕ) → found ≡ rest → Adds w fails room rest out n out' n' → Adds w fails room found out n out' n'
    adds_same found rest out out' n n' e a = subst (λ (l : List Schedule). Adds w fails room l out n out' n') (sym e) a

    -- one row, into the part of the output behind the rows
    pub adds_one : (found : List Schedule) (v : Schedule) (out ys : List ℕ) (n : ℕ) → found ≡ v ∷ [] → n < room
        → ys ≡ over (row_of w fails v) (mid_of (n * row_size w) (length out - n * row_size w) out)
        → Adds w fails room found out n (put_mid (n * row_size w) (length out - n * row_size w) out ys) (n + 1)
    adds_one found v out ys n e h q = record {
      shown = λ ss held r l s.
          let c = s.counted in
          let k : length (rows_of w fails ss) ≡ n * row_size w = rows_length ss ∙ ap (λ (i : ℕ). i * row_size w) (sym c) in
          let fits : n * row_size w ≤ length held = le_trans (rows_within n room (row_size w) (omega (arith, h))) r in
          let one : length (ss ++ (v ∷ [])) ≤ room = rw (length-append ss (v ∷ [])) (omega (arith, c, h)) in
          shown_same (ss ++ (v ∷ [])) (take room (ss ++ found)) held (put_mid (n * row_size w) (length out - n * row_size w) out ys) (n + 1)
          (sym (ap (λ (f : List Schedule). take room (ss ++ f)) e ∙ take_all room (ss ++ (v ∷ [])) one))
          (record {
            counted = rw (length-append ss (v ∷ [])) (omega (arith, c));
            text = over_part (rows_of w fails ss) (row_of w fails v) held out ys (n * row_size w) s.text k (le_trans (le_of_eq k) fits) q
                ∙ ap (λ (t : List ℕ). over t held) (one_row ss v);
          });
    }
