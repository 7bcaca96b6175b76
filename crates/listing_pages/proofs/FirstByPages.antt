-- The list walked by pages for the first schedule that passes a test, in any memory model and for any test: it is of the page, or yet to
-- come.
use Prim.Native.Nat.{ℕ, ◌/◌, ◌<◌, ◌≤◌}
use mathlib.Core.Path.{◌≡◌, sym, ap, subst, ◌∙◌}
use mathlib.Core.Bool.{Bool, true, false}
use mathlib.Core.Option.{none, some}
use mathlib.Core.List.Memᴰ
use mathlib.Core.List.{List, ◌++◌, Memᴰ}
use native.Mathlib.Nat.{le_trans, le_of_eq}
use native.Mathlib.Omega.{arith}
use lib.ListN.{length, take, drop, length-take, take-append-drop}
use Rattle.spec_file.specs.Program.{Program}
use Rattle.spec_schedules.specs.Lists.{find}
use Rattle.spec_schedules.specs.Order.{Schedule}
use Rattle.spec_model.specs.Model.{Model, failing}
use Rattle.spec_model.specs.Laws.{Admitted, Laws}
use Rattle.spec_model.specs.Alike.{list_of}
use Rattle.spec_model.specs.Search.{sought}
use Rattle.spec_model.proofs.TheList.{list_room}
use Rattle.spec_calls.specs.Rows.{row_size}
use Rattle.listing_cursor.specs.declared.cursor.Cursor.{Cursor}
use Rattle.listing_cursor.specs.declared.cursor.Page.{Page}
use Rattle.listing_cursor.specs.Cursor.{is_end}
use Rattle.listing_cursor.specs.ListRows.{remaining, pages, Paged}
use Rattle.listing_cursor.proofs.AddedRows.{rows_fit, rows_within}
use Rattle.listing_cursor.proofs.CursorLaws.{from_end, of_from}
use Rattle.listing_cursor.proofs.PageLaws.{page_split, page_size, page_less}
use Rattle.listing_pages.specs.Page.{Rows}
use Rattle.listing_pages.proofs.FirstOfTwo.{find_empty, first_part, second_part}

module _ (M : Model) (p : Program) (f : Schedule → Bool) where
  -- what is looked for is yet to come
  abbrev pub ToCome : Cursor → Type 0
  ToCome c = find f (list_of M p) ≡ find f (remaining M p false c)

  pub to_come_start : (c : Cursor) → remaining M p false c ≡ sought M false p → ToCome c
  unfolding sought
  to_come_start c e = ap (find f) (sym e)

  pub to_come_end : (c : Cursor) → ToCome c → is_end c ≡ true → find f (list_of M p) ≡ none
  to_come_end c t e = t ∙ ap (find f) (from_end (sought M false p) c e) ∙ find_empty f

-- a page
module _ (M : Model) (p : Program) (c : Cursor) (rows rows' : List ℕ) (r : Page) (page : Paged M p false c rows rows' r) where
  abbrev pub here : List Schedule
  here = take (length rows / row_size M.need) (remaining M p false c)

  pub page_room : length rows' ≡ length rows
  page_room = page_size M.need (failing M p) (sought M false p) c rows rows' r page

  pub page_most : r.rows ≤ length rows / row_size M.need
  page_most = omega (arith, page.shown.counted, length-take (length rows / row_size M.need) (remaining M p false c))

  member : (s : Schedule) → Memᴰ s here → Memᴰ s (list_of M p)
  unfolding sought
  member s m =
      of_from (sought M false p) c s
      (subst (Memᴰ s) (take-append-drop (length rows / row_size M.need) (remaining M p false c)) (Memᴰ.append_left (drop (length rows / row_size M.need) (remaining M p false c)) m))

  pub page_rows : Laws M → Admitted M p → Rows M p here rows' r.rows
  page_rows L a = record {
    held = rows;
    shown = page.shown;
    within = le_trans (rows_within r.rows (length rows / row_size M.need) (row_size M.need) page_most) (le_trans (rows_fit (length rows) (row_size M.need)) (le_of_eq (sym page_room)));
    listed = member;
    short = λ s m. list_room M L p a s (member s m);
  }

  pub page_onward : 0 < length rows / row_size M.need → is_end c ≡ false → pages M p false r.cursor < pages M p false c
  page_onward h e = page_less M.need (failing M p) (sought M false p) c rows rows' r page h e

  module _ (f : Schedule → Bool) (t : ToCome M p f c) where
    whole : find f (list_of M p) ≡ find f (here ++ remaining M p false r.cursor)
    whole = t ∙ ap (find f) (page_split M.need (failing M p) (sought M false p) c rows rows' r page)

    pub to_come_next : find f here ≡ none → ToCome M p f r.cursor
    to_come_next e = whole ∙ second_part f here (remaining M p false r.cursor) e

    pub to_come_here : (s : Schedule) → find f here ≡ some s → find f (list_of M p) ≡ some s
    to_come_here s e = whole ∙ first_part f here (remaining M p false r.cursor) s e
