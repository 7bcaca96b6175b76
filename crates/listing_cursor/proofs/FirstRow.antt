-- The first row of a page, read back as the schedule that it holds.
use Prim.Native.Nat.{ℕ, ◌/◌, ◌≤◌}
use mathlib.Core.Path.{◌≡◌, refl, sym, ap, subst, ◌∙◌}
use mathlib.Core.Logic.{◌≢◌}
use mathlib.Core.Bool.{Bool}
use mathlib.Core.List.{List, [], ◌∷◌, append-nil, flat_map, Memᴰ}
use mathlib.Core.Option.{none, some}
use native.Mathlib.Nat.{div_self}
use native.Mathlib.Omega.{arith}
use lib.ListN.{length, get_or, take, drop}
use Rattle.spec_file.specs.Over.{over}
use Rattle.spec_file.proofs.Over.{over_whole}
use Rattle.spec_schedules.specs.Lists.{head_of}
use Rattle.spec_schedules.specs.Order.{Schedule}
use Rattle.spec_schedules.proofs.After.{head_nil}
use Rattle.spec_schedules.proofs.First.{head_cons}
use Rattle.spec_calls.specs.Rows.{row_bytes, row_size, row_of, rows_of}
use Rattle.listing_cursor.specs.Rows.{Shown}
use Rattle.listing_cursor.proofs.RowBytes.{row_length}
use Rattle.listing_cursor.proofs.RowsRead.{row_steps, row_steps_count}

-- a buffer of one row
module _ (w : ℕ) (fails : Schedule → Bool) (held row : List ℕ) (n : ℕ) (size : length held ≡ row_size w) (l : List Schedule)
    (shown : Shown w fails (take (length held / row_size w) l) held row n) where
  one : length held / row_size w ≡ 1
  one = ap (λ (k : ℕ). k / row_size w) size ∙ div_self (omega arith)

  room : Shown w fails (take 1 l) held row n
  room = subst (λ (k : ℕ). Shown w fails (take k l) held row n) one shown

  pub first_none : n ≡ 0 → head_of l ≡ none
  first_none e = go l room.counted
    where
      go : (k : List Schedule) → n ≡ length (take 1 k) → head_of k ≡ none
      go [] c = head_nil
      go (x ∷ k) c = absurd (omega (arith, c, e))

  -- the row of the first
  pub record First : Type 0 where
    pub schedule : Schedule
    pub rest : List Schedule
    pub is : l ≡ schedule ∷ rest
    pub bytes : row ≡ row_of w fails schedule

  module _ (nonzero : n ≢ 0) where
    pub here : First
    unfolding rows_of flat_map row_of
    here = go l refl
      where
        bytes_of : (x : Schedule) (k : List Schedule) → l ≡ x ∷ k → row ≡ row_of w fails x
        bytes_of x k e =
            let b : List ℕ = row_bytes w x (fails x) in
            room.text ∙ ap (λ (s : List Schedule). over (rows_of w fails (take 1 s)) held) e ∙ ap (λ (t : List ℕ). over t held) (append-nil b)
            ∙ over_whole b held (omega (arith, row_length w x (fails x), size))

        go : (k : List Schedule) → l ≡ k → First
        go [] e = absurd (nonzero (room.counted ∙ ap (λ (s : List Schedule). length (take 1 s)) e))
        go (x ∷ k) e = record { schedule = x; rest = k; is = e; bytes = bytes_of x k e }

    abbrev pub first : Schedule
    first = here.schedule

    pub first_head : head_of l ≡ some first
    first_head = ap head_of here.is ∙ head_cons here.schedule here.rest

    pub first_of : Memᴰ first l
    first_of = subst (λ (k : List Schedule). Memᴰ here.schedule k) (sym here.is) (Memᴰ.head refl)

    -- the first schedule's length stands in front of its row, and its steps behind two bytes
    pub first_length : (k : ℕ) → k ≡ get_or row 0 0 → k ≡ length first
    unfolding row_of
    first_length k e = e ∙ ap (λ (b : List ℕ). get_or b 0 0) here.bytes ∙ row_steps_count w here.schedule (fails here.schedule)

    pub first_steps : (k : ℕ) → k ≡ get_or row 0 0 → length first ≤ w → take k (drop 2 row) ≡ first
    unfolding row_of
    first_steps k e most =
        ap (λ (i : ℕ). take i (drop 2 row)) (first_length k e) ∙ ap (λ (b : List ℕ). take (length here.schedule) (drop 2 b)) here.bytes
        ∙ row_steps w here.schedule (fails here.schedule) most
