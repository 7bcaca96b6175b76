-- The first listed schedule that passes a test, as the code looks for it: page after page of the list, and row after row of each. In both
-- memory models and for any test.
use Prim.Native.Nat.{ℕ, ◌+◌, ◌<◌, ◌≤◌}
use mathlib.Core.Path.{◌≡◌, sym, ap, subst, ◌∙◌}
use mathlib.Core.Bool.{Bool, true, false}
use mathlib.Core.Option.{some}
use mathlib.Core.List.{List, []}
use lib.ListN.{get_or, drop}
use Rattle.spec_file.specs.Program.{Program}
use Rattle.spec_schedules.specs.Lists.{find}
use Rattle.spec_schedules.specs.Order.{Schedule}
use Rattle.spec_model.specs.Model.{Full}
use Rattle.spec_model.specs.Laws.{Admitted}
use Rattle.spec_model.specs.Alike.{list_of}
use Rattle.listing_cursor.specs.declared.cursor.Cursor.{Cursor}
use Rattle.listing_cursor.specs.declared.cursor.Page.{Page}
use Rattle.listing_cursor.specs.declared.steps.Steps.{Steps}
use Rattle.listing_cursor.specs.ListRows.{Paged}
use Rattle.listing_cursor.specs.Steps.{steps_of}
use Rattle.listing_model.specs.declared.memory.Model.{Model}
use Rattle.listing_model.specs.ModelOf.{model_of}
use Rattle.listing_model.proofs.ModelLaws.{model_laws}
use Rattle.listing_pages.specs.Page.{Rows}
use Rattle.listing_pages.proofs.FirstOfRows.{row_full, left_here, left_next, left_none}
use Rattle.listing_pages.proofs.FirstByPages.{ToCome, here, page_rows, to_come_next, to_come_here}

module _ (m : Model) (p : Program) where
  -- what is left of these rows from row k on has the first of them all
  abbrev pub Left : (Schedule → Bool) → List ℕ → ℕ → ℕ → Type 0
  Left f rows n k = (ss : List Schedule) → Rows (model_of m) p ss rows n → find f ss ≡ find f (drop k ss)

  -- a page: the first is of it, or yet to come behind it
  module _ (a : Admitted (model_of m) p) (c : Cursor) (rows rows' : List ℕ) (g : Page) (page : Paged (model_of m) p false c rows rows' g) where
    -- its schedules
    abbrev pub of_page : List Schedule
    of_page = here (model_of m) p c rows rows' g page

    pub rows_here : Rows (model_of m) p of_page rows' g.rows
    rows_here = page_rows (model_of m) p c rows rows' g page (model_laws m) a

    -- a row that was read off
    module _ (k : ℕ) (h : k < g.rows) (r : Steps 48)
        (row : (q : Program) (ss : List Schedule) (n : ℕ) → Rows (model_of m) q ss rows' n → k < n → steps_of r ≡ get_or ss k []) (s : Schedule) (e : s ≡ steps_of r) where
      is : s ≡ get_or of_page k []
      is = e ∙ row p of_page g.rows rows_here h

      pub row_is_full : Full (model_of m) p s
      row_is_full = subst (Full (model_of m) p) (sym is) (row_full (model_of m) p of_page rows' g.rows rows_here k h (model_laws m))

      -- and tested
      module _ (f : Schedule → Bool) (left : Left f rows' g.rows k) where
        pub row_passes : ToCome (model_of m) p f c → f s ≡ true → some (steps_of r) ≡ find f (list_of (model_of m) p)
        row_passes t q =
            ap some (sym e ∙ is)
            ∙ sym (to_come_here (model_of m) p c rows rows' g page f t (get_or of_page k [])
            (left of_page rows_here ∙ left_here (model_of m) p of_page rows' g.rows rows_here f k h (sym (ap f is) ∙ q)))

        pub row_fails : f s ≡ false → Left f rows' g.rows (k + 1)
        row_fails q ss i = left ss i ∙ left_next (model_of m) p ss rows' g.rows i f k h (sym (ap f (e ∙ row p ss g.rows i h)) ∙ q)

    pub none_passes : (f : Schedule → Bool) (k : ℕ) → g.rows ≤ k → Left f rows' g.rows k → ToCome (model_of m) p f c → ToCome (model_of m) p f g.cursor
    none_passes f k h left t =
        to_come_next (model_of m) p c rows rows' g page f t (left of_page rows_here ∙ left_none (model_of m) p of_page rows' g.rows rows_here f k h)
