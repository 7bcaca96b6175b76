-- ROWS OF OUTCOMES IN AN OUTPUT: how long they are, and one more.
use Prim.Native.Nat.{ℕ, ◌+◌, ◌*◌, ◌-◌, ◌/◌, ◌<◌, ◌≤◌}
use mathlib.Core.Path.{◌≡◌, refl, sym, ap, ◌∙◌}
use mathlib.Core.Option.{some}
use mathlib.Core.List.{List, [], ◌∷◌, ◌++◌, flat_map, append_assoc, append-nil, Memᴰ}
use native.Mathlib.Nat.{zero-mul, suc-mul, le_trans}
use native.Mathlib.Omega.{arith}
use lib.ListN.{length, take, drop, length-append, length-drop, drop_of_length-le}
use lib.Seq.{length-take-le, drop-append-le}
use Rattle.spec_file.specs.Over.{over}
use Rattle.spec_file.proofs.Over.{over_nil}
use Rattle.spec_file.specs.Program.{Program}
use Rattle.spec_schedules.specs.Order.{Schedule}
use Rattle.spec_schedules.specs.Calls.{member}
use Rattle.spec_model.specs.Model.{Model, failing}
use Rattle.spec_calls.specs.Rows.{row_of, row_bytes}
use Rattle.listing_cursor.proofs.RowBytes.{row_length}
use Rattle.listing_cursor.proofs.AddedRows.{rows_fit, row_within}
use Rattle.spec_covers.specs.declared.outcome.Outcome.{Outcome}
use Rattle.spec_across.specs.Under.{outcome_under}
use Rattle.spec_outcomes.specs.Firsts.{firsts_of}
use Rattle.spec_outcomes.specs.OutcomesCall.{four_bytes, outcome_size, outcome_row, outcome_rows}
use Rattle.spec_outcomes.proofs.Taken.{take_more}
use Rattle.outcome_rows.proofs.Values.{values_length}

-- a row lies within an output that has room for it
pub row_room : (M : Model) (j n : ℕ) → j < n / outcome_size M → j * outcome_size M + outcome_size M ≤ n
row_room M j n h = le_trans (row_within j (n / outcome_size M) (outcome_size M) h) (rows_fit n (outcome_size M))

module _ (M : Model) (p : Program) where
  -- the row as the code writes it
  pub row_is : (s : Schedule) (x : Outcome) → x ≡ outcome_under M p s → flat_map four_bytes x.memory ++ row_bytes M.need s x.fails ≡ outcome_row M p s
  unfolding outcome_row row_of outcome_under
  row_is s x e = ap (λ (y : Outcome). flat_map four_bytes y.memory ++ row_bytes M.need s y.fails) e

  row_size : (s : Schedule) → length (outcome_under M p s).memory ≡ 8 → length (outcome_row M p s) ≡ outcome_size M
  unfolding outcome_row row_of
  row_size s e =
      length-append (flat_map four_bytes (outcome_under M p s).memory) (row_bytes M.need s (failing M p s))
      ∙ omega (arith, values_length (outcome_under M p s).memory, e, row_length M.need s (failing M p s))

  pub rows_none : outcome_rows M p [] ≡ []
  unfolding outcome_rows flat_map
  rows_none = refl

  pub rows_more : (ss : List Schedule) (s : Schedule) → outcome_rows M p (ss ++ (s ∷ [])) ≡ outcome_rows M p ss ++ outcome_row M p s
  unfolding outcome_rows flat_map
  rows_more [] s = append-nil (outcome_row M p s)
  rows_more (x ∷ ss) s = ap (λ (t : List ℕ). outcome_row M p x ++ t) (rows_more ss s) ∙ sym (append_assoc (outcome_row M p x) (outcome_rows M p ss) (outcome_row M p s))

  pub rows_length : (ss : List Schedule) → ((s : Schedule) → Memᴰ s ss → length (outcome_under M p s).memory ≡ 8) → length (outcome_rows M p ss) ≡ length ss * outcome_size M
  unfolding outcome_rows flat_map
  rows_length [] h = sym (zero-mul (outcome_size M))
  rows_length (s ∷ ss) h =
      let n = rows_length ss (λ x m. h x (Memᴰ.tail m)) in
      let z = suc-mul (length ss) (outcome_size M) in
      length-append (outcome_row M p s) (outcome_rows M p ss) ∙ omega (arith, n, row_size s (h s (Memᴰ.head refl)), z)

  abbrev F : List Schedule
  F = firsts_of M p

  -- ---- of the first k those from a number on
  module _ (from k : ℕ) (within : k ≤ length F) where
    pub from_many : length (drop from (take k F)) ≡ k - from
    from_many = length-drop from (take k F) ∙ ap (λ (n : ℕ). n - from) (length-take-le k F within)

    module _ (s : Schedule) (next : member F k ≡ some s) where
      -- one more, where its number is reached
      pub from_more : from ≤ k → drop from (take (k + 1) F) ≡ drop from (take k F) ++ (s ∷ [])
      from_more h = ap (drop from) (take_more F k s next) ∙ drop-append-le from (take k F) (s ∷ []) (omega (arith, h, length-take-le k F within))

      -- none, where it is not
      pub from_none : k < from → drop from (take (k + 1) F) ≡ drop from (take k F)
      from_none h =
          let n : length (take k F ++ (s ∷ [])) ≤ from = rw (length-append (take k F) (s ∷ [])) (omega (arith, h, length-take-le k F within)) in
          let m : length (take k F) ≤ from = omega (arith, h, length-take-le k F within) in
          ap (drop from) (take_more F k s next) ∙ drop_of_length-le (take k F ++ (s ∷ [])) n ∙ sym (drop_of_length-le (take k F) m)

-- what is over an output is over it still where no more is added
pub shown_start : (M : Model) (p : Program) (from : ℕ) (out : List ℕ) → out ≡ over (outcome_rows M p (drop from (take 0 (firsts_of M p)))) out
shown_start M p from out =
    let e : drop from (take 0 (firsts_of M p)) ≡ [] = drop_of_length-le (take 0 (firsts_of M p)) {i = from} (omega arith) in
    sym (ap (λ (l : List Schedule). over (outcome_rows M p l) out) e ∙ ap (λ (t : List ℕ). over t out) (rows_none M p) ∙ over_nil out)

-- the row number j, as the code finds its place by the width of a schedule's row
pub put_size : (M : Model) (w j : ℕ) → w ≡ M.need → j * (w + 34) ≡ j * outcome_size M
put_size M w j e = let z : w + 34 ≡ outcome_size M = omega (arith, e) in ap (λ (i : ℕ). j * i) z

pub put_room : (M : Model) (w j n : ℕ) → w ≡ M.need → j < n / outcome_size M → j * (w + 34) + w + 34 ≤ n
put_room M w j n e h =
    let a = row_room M j n h in
    let b = put_size M w j e in
    omega (arith, a, b, e)
