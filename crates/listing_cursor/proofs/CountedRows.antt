-- A list counted by pages: the rows of a page that fail, and what is counted with what is yet to come.
use Prim.Native.Nat.{ℕ, suc, ◌+◌, ◌*◌, ◌/◌, ◌<◌, ◌≤◌}
use mathlib.Core.Path.{◌≡◌, refl, sym, ap, ◌∙◌}
use mathlib.Core.Logic.{◌≢◌}
use mathlib.Core.Bool.{Bool, true, false, cond}
use mathlib.Core.List.{List, [], ◌∷◌}
use native.Mathlib.Nat.{mul-div_cancel, le_trans, le_of_eq}
use native.Mathlib.Omega.{arith}
use lib.ListN.{length, get_or, take, length-append, length-take}
use lib.Seq.{take-suc, take_all}
use Rattle.spec_schedules.specs.Lists.{filter}
use Rattle.spec_schedules.specs.Order.{Schedule}
use Rattle.spec_schedules.proofs.Lists.{filter_yes, filter_no}
use Rattle.spec_schedules.proofs.Kept.{filter_length, filter_append}
use Rattle.listing_cursor.specs.declared.cursor.Cursor.{Cursor}
use Rattle.listing_cursor.specs.declared.cursor.Page.{Page}
use Rattle.spec_calls.specs.Rows.{row_of, row_bytes, row_size}
use Rattle.listing_cursor.specs.Rows.{Shown}
use Rattle.listing_cursor.specs.Cursor.{from, is_end, pages, Paged}
use Rattle.listing_cursor.proofs.AddedRows.{row_within, rows_within}
use Rattle.listing_cursor.proofs.RowsRead.{shown_at}
use Rattle.listing_cursor.proofs.CursorLaws.{from_end}
use Rattle.listing_cursor.proofs.PageLaws.{page_split, page_size, page_lengths, page_less}

-- ---- rows that fail
-- of 64 rows each lies at a small place
pub place_small : (w k n : ℕ) → w < 256 → n ≤ 64 → k < n → k * row_size w ≤ 64 * 258
place_small w k n h m l =
    let r : k ≤ 64 = omega (arith, l, m) in
    let q = rows_within k 64 (row_size w) r in
    le_trans q (omega (arith, h))

-- the first two bytes of a row lie within the rows
pub place_within : (w k n : ℕ) (rows : List ℕ) → n * row_size w ≤ length rows → k < n → k * row_size w + 1 < length rows
place_within w k n rows h l = next (k * row_size w) (n * row_size w) (length rows) h (row_within k n (row_size w) l)
  where
    next : (a b c : ℕ) → b ≤ c → a + row_size w ≤ b → a + 1 < c
    next a b c h l = omega (arith, h, l)

module _ (w : ℕ) (fails : Schedule → Bool) (ss : List Schedule) (held rows : List ℕ) (n : ℕ) (shown : Shown w fails ss held rows n) where
  -- the second byte says whether the schedule fails
  second : (k : ℕ) → k < n → get_or rows (k * row_size w + 1) 0 ≡ cond (fails (get_or ss k [])) 1 0
  unfolding row_of row_bytes
  second k h = shown_at w fails ss held rows n shown k 1 h (omega arith)

  pub shown_fails : (k : ℕ) → k < n → get_or rows (k * row_size w + 1) 0 ≡ 1 → fails (get_or ss k []) ≡ true
  shown_fails k h e = go (fails (get_or ss k [])) refl
    where
      go : (b : Bool) → fails (get_or ss k []) ≡ b → fails (get_or ss k []) ≡ true
      go true q = q
      go false q = let z : ◌≡◌ {A = ℕ} 1 0 = sym e ∙ second k h ∙ ap (λ (b : Bool). cond b 1 0) q in absurd (omega (arith, z))

  pub shown_holds : (k : ℕ) → k < n → get_or rows (k * row_size w + 1) 0 ≢ 1 → fails (get_or ss k []) ≡ false
  shown_holds k h e = go (fails (get_or ss k [])) refl
    where
      go : (b : Bool) → fails (get_or ss k []) ≡ b → fails (get_or ss k []) ≡ false
      go true q = absurd (e (second k h ∙ ap (λ (b : Bool). cond b 1 0) q))
      go false q = q

  one_more : (k : ℕ) → k < n → length (filter fails (take (k + 1) ss)) ≡ length (filter fails (take k ss)) + length (filter fails (get_or ss k [] ∷ []))
  one_more k h =
      let e : k + 1 ≡ suc k = omega arith in
      ap (λ (i : ℕ). length (filter fails (take i ss))) e ∙ ap (λ (l : List Schedule). length (filter fails l)) (take-suc ss k [] (omega (arith, h, shown.counted)))
      ∙ ap length (filter_append fails (take k ss) (get_or ss k [] ∷ [])) ∙ length-append (filter fails (take k ss)) (filter fails (get_or ss k [] ∷ []))

  -- one row more that fails
  pub fails_more : (k f : ℕ) → k < n → get_or rows (k * row_size w + 1) 0 ≡ 1 → f ≡ length (filter fails (take k ss)) → f + 1 ≡ length (filter fails (take (k + 1) ss))
  fails_more k f h e q =
      let y = ap length (filter_yes fails (get_or ss k []) [] (shown_fails k h e)) in
      omega (arith, q, one_more k h, y, filter_length fails [])

  -- one row more that does not fail
  pub fails_same : (k f : ℕ) → k < n → get_or rows (k * row_size w + 1) 0 ≢ 1 → f ≡ length (filter fails (take k ss)) → f ≡ length (filter fails (take (k + 1) ss))
  fails_same k f h e q =
      let y = ap length (filter_no fails (get_or ss k []) [] (shown_holds k h e)) in
      omega (arith, q, one_more k h, y, filter_length fails [])

  -- all rows
  pub fails_all : (k f : ℕ) → n ≤ k → f ≡ length (filter fails (take k ss)) → f ≡ length (filter fails ss)
  fails_all k f h q = q ∙ ap (λ (l : List Schedule). length (filter fails l)) (take_all k ss (omega (arith, h, shown.counted)))

-- ---- counting
module _ (w : ℕ) (fails : Schedule → Bool) (l : List Schedule) where
  -- counted so far, with what is yet to come the whole list; 64 rows at a time
  pub record Counting (c : Cursor) (rows : List ℕ) (listed failed : ℕ) : Type 0 where
    pub size : length rows ≡ 64 * row_size w
    pub all : listed + length (from c l) ≡ length l
    pub fail : failed + length (filter fails (from c l)) ≡ length (filter fails l)

  pub counting_start : (c : Cursor) (rows : List ℕ) → length rows ≡ 64 * row_size w → from c l ≡ l → Counting c rows 0 0
  counting_start c rows n e = record {
    size = n;
    all = omega (arith, ap length e);
    fail = omega (arith, ap (λ (k : List Schedule). length (filter fails k)) e);
  }

  -- nothing is to come any more
  pub counting_over : (c : Cursor) (rows : List ℕ) (listed failed : ℕ) → Counting c rows listed failed → is_end c ≡ true
      → (listed ≡ length l) × (failed ≡ length (filter fails l))
  counting_over c rows listed failed k e =
      let z = ap length (from_end l c e) in
      let f = filter_length fails (from c l) in
      (omega (arith, k.all, z), omega (arith, k.fail, f, z))

  -- a page more
  module _ (c : Cursor) (rows : List ℕ) (listed failed : ℕ) (k : Counting c rows listed failed) (rows' : List ℕ) (r : Page) (page : Paged w fails l c rows rows' r) where
    abbrev shown_now : List Schedule
    shown_now = take (length rows / row_size w) (from c l)

    room : length rows / row_size w ≡ 64
    room = ap (λ (n : ℕ). n / row_size w) k.size ∙ mul-div_cancel 64 (omega arith)

    pub counting_64 : r.rows ≤ 64
    counting_64 = omega (arith, page.shown.counted, length-take (length rows / row_size w) (from c l), room)

    same_size : length rows' ≡ length rows
    same_size = page_size w fails l c rows rows' r page

    -- the rows are as long as before
    pub counting_size : length rows' ≡ 64 * row_size w
    counting_size = same_size ∙ k.size

    pub counting_rows : r.rows * row_size w ≤ length rows'
    counting_rows = le_trans (rows_within r.rows 64 (row_size w) counting_64) (le_of_eq (sym counting_size))

    split_length : length (from c l) ≡ r.rows + length (from r.cursor l)
    split_length = page_lengths w fails l c rows rows' r page

    split_fails : length (filter fails (from c l)) ≡ length (filter fails shown_now) + length (filter fails (from r.cursor l))
    split_fails =
        ap (λ (m : List Schedule). length (filter fails m)) (page_split w fails l c rows rows' r page)
        ∙ ap length (filter_append fails shown_now (from r.cursor l)) ∙ length-append (filter fails shown_now) (filter fails (from r.cursor l))

    -- what is counted with these rows is no more than the list
    pub counting_within : listed + r.rows ≤ length l
    counting_within = omega (arith, k.all, split_length)

    pub counting_fails : (f : ℕ)
        → ((fails : Schedule → Bool) (ss : List Schedule) (held : List ℕ) → Shown w fails ss held rows' r.rows → f ≡ length (filter fails ss)) → failed + f ≤ length l
    counting_fails f fs =
        let q = fs fails shown_now rows page.shown in
        let n = filter_length fails l in
        omega (arith, k.fail, split_fails, q, n)

    pub counting_next : (f : ℕ)
        → ((fails : Schedule → Bool) (ss : List Schedule) (held : List ℕ) → Shown w fails ss held rows' r.rows → f ≡ length (filter fails ss))
        → Counting r.cursor rows' (listed + r.rows) (failed + f)
    counting_next f fs =
        let q = fs fails shown_now rows page.shown in
        record {
          size = counting_size;
          all = omega (arith, k.all, split_length);
          fail = omega (arith, k.fail, split_fails, q);
        }

    -- there are fewer pages to come
    pub counting_less : is_end c ≡ false → pages r.cursor l < pages c l
    counting_less e = page_less w fails l c rows rows' r page (omega (arith, room)) e
