-- The calls by rows, way by way.
use Prim.Native.Nat.{ℕ, ◌/◌}
use mathlib.Core.Path.{◌≡◌, sym, ap, subst, ◌∙◌}
use mathlib.Core.Bool.{false}
use mathlib.Core.List.{List}
use mathlib.Core.Option.{Option}
use lib.ListN.{length, take}
use Rattle.std.specs.Prelude.{Result, Ok, Err}
use Rattle.spec_file.specs.declared.refusal.Refusal.{Refusal}
use Rattle.spec_file.specs.Program.{Program}
use Rattle.spec_file.specs.Decode.{Decoded, accepted, refused, decode}
use Rattle.spec_schedules.specs.Order.{Schedule}
use Rattle.spec_schedules.specs.Found.{after}
use Rattle.spec_model.specs.Model.{Model}
use Rattle.spec_model.specs.OnFile.{admit}
use Rattle.spec_model.specs.Search.{sought}
use Rattle.listing_cursor.specs.declared.cursor.Cursor.{Cursor}
use Rattle.listing_cursor.specs.declared.cursor.Page.{Page}
use Rattle.spec_calls.specs.Rows.{row_size}
use Rattle.listing_cursor.specs.ListRows.{Shown, remaining, Paged}
use Rattle.spec_calls.specs.RowsCall.{fitting, rows_on, left_on, rows_file, rows_output}

module _ (M : Model) (file out : List ℕ) (o : Option Schedule) where
  pub rows_refused : (r : Refusal) → admit M (decode file) ≡ refused r.number r.place
      → (Err r ≡ rows_file M file o out) × (out ≡ rows_output M file o out)
  unfolding rows_on left_on
  rows_refused r e = (ap (λ (d : Decoded). rows_on M d o out) (sym e), ap (λ (d : Decoded). left_on M d o out) (sym e))

  rows_written : (p : Program) (later : List ℕ) (r : ℕ) → admit M (decode file) ≡ accepted p → Shown M p (fitting M p o out) out later r
      → (Ok r ≡ rows_file M file o out) × (later ≡ rows_output M file o out)
  unfolding rows_on left_on
  rows_written p later r e s = (
    ap {B = Result ℕ Refusal} Ok s.counted ∙ ap (λ (d : Decoded). rows_on M d o out) (sym e),
    s.text ∙ ap (λ (d : Decoded). left_on M d o out) (sym e),
  )

  -- a page of what a cursor behind the bound has yet to come
  pub rows_paged : (p : Program) (c : Cursor) (later : List ℕ) (r : Page) → admit M (decode file) ≡ accepted p → remaining M p false c ≡ after o (sought M false p)
      → Paged M p false c out later r
      → (Ok r.rows ≡ rows_file M file o out) × (later ≡ rows_output M file o out)
  unfolding fitting sought
  rows_paged p c later r e is page =
      rows_written p later r.rows e (subst (λ (l : List Schedule). Shown M p (take (length out / row_size M.need) l) out later r.rows) is page.shown)
