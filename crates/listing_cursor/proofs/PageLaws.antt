-- A page: the rows of what is yet to come, and the cursor behind them.
use Prim.Native.Nat.{ℕ, zero, suc, ◌+◌, ◌-◌, ◌*◌, ◌/◌, ◌<◌, ◌≤◌}
use mathlib.Core.Path.{◌≡◌, refl, sym, ap, subst, ◌∙◌}
use mathlib.Core.Logic.{◌≢◌}
use mathlib.Core.Bool.{Bool, true, false, false≢true, cond}
use mathlib.Core.Option.{Option, some}
use mathlib.Core.List.Memᴰ
use mathlib.Core.List.{List, [], ◌∷◌, ◌++◌, flat_map, Memᴰ}
use native.Mathlib.Nat.{le_trans, le_of_eq}
use native.Mathlib.Omega.{arith}
use lib.ListN.{length, get_or, take, drop, length-append, length-take, take-append-drop, drop_of_length-le}
use lib.Seq.{take-nil, split_at, get_or-take}
use Rattle.spec_file.proofs.Over.{over_nil, length_over}
use Rattle.spec_file.specs.Lists.{Ascends}
use Rattle.spec_schedules.specs.Order.{Schedule, less}
use Rattle.spec_schedules.specs.Found.{after}
use Rattle.spec_schedules.proofs.After.{of_after, after_on}
use Rattle.listing_cursor.specs.declared.cursor.Cursor.{Cursor}
use Rattle.listing_cursor.specs.declared.cursor.Page.{Page}
use Rattle.listing_cursor.specs.Bounds.{bound_at}
use Rattle.spec_calls.specs.Rows.{row_size, rows_of}
use Rattle.listing_cursor.specs.Rows.{Shown}
use Rattle.listing_cursor.specs.Cursor.{from, bound_of, is_end, pages, Paged}
use Rattle.listing_cursor.proofs.AddedRows.{rows_length, rows_fit, rows_within}
use Rattle.listing_cursor.proofs.RowsRead.{shown_length, shown_steps}
use Rattle.listing_cursor.proofs.CursorLaws.{from_end, from_bound}

-- dropping as many as the first n are drops n
drop_taken : {A : Type 0} (n : ℕ) (l : List A) → drop (length (take n l)) l ≡ drop n l
drop_taken zero l = refl
drop_taken (suc n) [] = refl
drop_taken (suc n) (x ∷ l) = drop_taken n l

taken_most : {A : Type 0} (n : ℕ) (l : List A) → length (take n l) ≤ n
taken_most n l = omega (arith, length-take n l)

module _ (w : ℕ) (fails : Schedule → Bool) where
  -- rows of so many schedules as there is room for leave the buffer's length
  pub shown_size : (ss : List Schedule) (held out : List ℕ) (n : ℕ) → length ss ≤ length held / row_size w → Shown w fails ss held out n → length out ≡ length held
  shown_size ss held out n h s =
      ap length s.text
      ∙ length_over (rows_of w fails ss) held
      (le_trans (le_of_eq (rows_length w fails ss)) (le_trans (rows_within (length ss) (length held / row_size w) (row_size w) h) (rows_fit (length held) (row_size w))))

  -- a page: its rows, then what is yet to come behind it
  module _ (l : List Schedule) (c : Cursor) (held out : List ℕ) (r : Page) (page : Paged w fails l c held out r) where
    pub page_split : from c l ≡ take (length held / row_size w) (from c l) ++ from r.cursor l
    page_split =
        sym (take-append-drop (length held / row_size w) (from c l))
        ∙ ap (λ (t : List Schedule). take (length held / row_size w) (from c l) ++ t)
        (sym (drop_taken (length held / row_size w) (from c l)) ∙ ap (λ (k : ℕ). drop k (from c l)) (sym page.shown.counted) ∙ sym page.rest)

    pub page_size : length out ≡ length held
    page_size = shown_size (take (length held / row_size w) (from c l)) held out r.rows (taken_most (length held / row_size w) (from c l)) page.shown

    pub page_lengths : length (from c l) ≡ r.rows + length (from r.cursor l)
    page_lengths =
        ap length page_split ∙ length-append (take (length held / row_size w) (from c l)) (from r.cursor l)
        ∙ ap (λ (k : ℕ). k + length (from r.cursor l)) (sym page.shown.counted)

    -- with room for a row there are fewer pages to come behind it
    pub page_less : 0 < length held / row_size w → is_end c ≡ false → pages r.cursor l < pages c l
    page_less room_for e = go (is_end r.cursor) refl
      where
        left : pages c l ≡ length (from c l) + 1
        left = ap (λ (b : Bool). length (from c l) + cond b 0 1) e

        go : (b : Bool) → is_end r.cursor ≡ b → pages r.cursor l < pages c l
        go true q =
            let z : pages r.cursor l ≡ length (from r.cursor l) + 0 = ap (λ (b : Bool). length (from r.cursor l) + cond b 0 1) q in
            omega (arith, z, left, page_lengths)
        go false q =
            let z : pages r.cursor l ≡ length (from r.cursor l) + 1 = ap (λ (b : Bool). length (from r.cursor l) + cond b 0 1) q in
            let full : (r.rows < length held / row_size w) → ⊥ = λ h. false≢true (sym q ∙ page.ends h) in
            omega (arith, z, left, page_lengths, full, room_for)

  -- at the end there are no rows
  pub page_over : (l : List Schedule) (c : Cursor) (held : List ℕ) → is_end c ≡ true → Paged w fails l c held held (record { rows = 0; cursor = c })
  unfolding rows_of flat_map
  page_over l c held e =
      let z = from_end l c e in
      let n : take (length held / row_size w) (from c l) ≡ [] = ap (take (length held / row_size w)) z ∙ take-nil (length held / row_size w) in
      record {
        shown = subst (λ (k : List Schedule). Shown w fails k held held 0) (sym n) (record { counted = refl; text = sym (over_nil held) });
        rest = refl;
        ends = λ _. e;
      }

  -- what the search leaves: rows of the first so many behind the bound, which are those that the cursor has yet to come
  module _ (l : List Schedule) (ascends : Ascends less l) (most : (s : Schedule) → Memᴰ s l → length s ≤ w) (tight : Bool) (c : Cursor) (b held out : List ℕ) (rows : ℕ)
      (goes_on : is_end c ≡ false) (at : bound_at tight b 0 ≡ bound_of c)
      (found : Shown w fails (take (length held / row_size w) (after (bound_at tight b 0) l)) held out rows) where
    abbrev room : ℕ
    room = length held / row_size w

    abbrev rest : List Schedule
    rest = after (bound_at tight b 0) l

    same : rest ≡ from c l
    same = ap (λ (o : Option Schedule). after o l) at ∙ from_bound l c goes_on

    shown : Shown w fails (take room (from c l)) held out rows
    shown = subst (λ (k : List Schedule). Shown w fails (take room k) held out rows) same found

    size : length out ≡ length held
    size = shown_size (take room rest) held out rows (taken_most room rest) found

    room_is : length out / row_size w ≡ room
    room_is = ap (λ (n : ℕ). n / row_size w) size

    counted : rows ≡ length (take room rest)
    counted = found.counted

    -- fewer rows than there is room for: nothing is left
    pub page_ended : (e : Cursor) → is_end e ≡ true → rows < length out / row_size w → Paged w fails l c held out (record { rows = rows; cursor = e })
    page_ended e q h =
        let n : length (from c l) ≤ rows = omega (arith, h, room_is, counted, length-take room rest, ap length same) in
        record { shown = shown; rest = from_end l e q ∙ sym (drop_of_length-le (from c l) n); ends = λ _. q }

    -- there was no room
    pub page_none : length out / row_size w ≤ rows → rows ≡ 0 → Paged w fails l c held out (record { rows = rows; cursor = c })
    page_none h z = record {
      shown = shown;
      rest = ap (λ (k : ℕ). drop k (from c l)) (sym z);
      ends = λ k. absurd (omega (arith, h, k, room_is));
    }

    -- the last of the rows, and what is behind it
    module _ (full : length out / row_size w ≤ rows) (nonzero : rows ≢ 0) where
      abbrev last : Schedule
      last = get_or rest (rows - 1) []

      there : rows - 1 < length rest
      there = omega (arith, counted, length-take room rest, nonzero)

      split : rest ≡ take (rows - 1) rest ++ (last ∷ drop rows rest)
      split =
          let j : suc (rows - 1) ≡ rows = omega (arith, nonzero) in
          split_at rest (rows - 1) [] there ∙ ap (λ (i : ℕ). take (rows - 1) rest ++ (last ∷ drop i rest)) j

      last_most : length last ≤ w
      last_most =
          most last (of_after (bound_at tight b 0) l last (subst (Memᴰ last) (sym split) (Memᴰ.append_right (take (rows - 1) rest) (Memᴰ.head refl))))

      in_rows : get_or (take room rest) (rows - 1) [] ≡ last
      in_rows = get_or-take room rest (rows - 1) [] (omega (arith, counted, length-take room rest, nonzero))

      -- the row of the last schedule says how many steps it has
      last_length : (n : ℕ) → n ≡ get_or out ((rows - 1) * row_size w) 0 → n ≡ length last
      last_length n e = e ∙ shown_length w fails (take room rest) held out rows found (rows - 1) (omega (arith, nonzero)) ∙ ap length in_rows

      pub last_few : (n : ℕ) → n ≡ get_or out ((rows - 1) * row_size w) 0 → n ≤ w
      last_few n e = omega (arith, last_length n e, last_most)

      -- the last row lies within the buffer
      pub last_within : (rows * row_size w ≤ length held) × (length out ≡ length held)
      last_within = (le_trans (rows_within rows room (row_size w) (omega (arith, counted, taken_most room rest))) (rows_fit (length held) (row_size w)), size)

      last_steps : (n : ℕ) → n ≡ length last → take n (drop ((rows - 1) * row_size w + 2) out) ≡ last
      last_steps n e =
          let q = in_rows in
          ap (λ (i : ℕ). take i (drop ((rows - 1) * row_size w + 2) out)) (e ∙ ap length (sym q))
          ∙ shown_steps w fails (take room rest) held out rows found (rows - 1) (omega (arith, nonzero)) (omega (arith, ap length q, last_most)) ∙ q

      pub page_full : (n : ℕ) (s : List ℕ) (e : Cursor) → n ≡ get_or out ((rows - 1) * row_size w) 0
          → s ≡ take ((rows - 1) * row_size w + 2 + n - ((rows - 1) * row_size w + 2)) (drop ((rows - 1) * row_size w + 2) out)
          → from e l ≡ after (some s) l → Paged w fails l c held out (record { rows = rows; cursor = e })
      page_full n s e q t r =
          let k : (rows - 1) * row_size w + 2 + n - ((rows - 1) * row_size w + 2) ≡ length last = cut_off ((rows - 1) * row_size w + 2) n ∙ last_length n q in
          record {
            shown = shown;
            rest = r ∙ ap (λ (x : Schedule). after (some x) l) (t ∙ last_steps _ k)
                ∙ after_on (bound_at tight b 0) l (take (rows - 1) rest) last (drop rows rest) ascends split ∙ ap (drop rows) same;
            ends = λ h. absurd (omega (arith, full, h, room_is));
          }
        where
          cut_off : (a n : ℕ) → a + n - a ≡ n
          cut_off a n = omega arith
