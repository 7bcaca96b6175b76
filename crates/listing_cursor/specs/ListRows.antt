-- The list by rows and by pages, in any memory model: a row has room for as many steps as an output needs bytes.
use Rattle.std.specs.Prelude.{ℕ, Bool, List}
use Rattle.spec_file.specs.Program.{Program}
use Rattle.spec_schedules.specs.Order.{Schedule}
use Rattle.spec_model.specs.Model.{Model, failing}
use Rattle.spec_model.specs.Search.{sought}
use Rattle.listing_cursor.specs.declared.cursor.Cursor.{Cursor}
use Rattle.listing_cursor.specs.declared.cursor.Page.{Page}
use Rattle.listing_cursor.specs.Rows as Rows
use Rattle.listing_cursor.specs.Cursor as Cursors

module _ (M : Model) (p : Program) where
  -- the rows of listed schedules ss stand over the front of what the buffer held
  abbrev pub Shown : List Schedule → List ℕ → List ℕ → ℕ → Type 0
  Shown ss held out rows = Rows.Shown M.need (failing M p) ss held out rows

  -- what is yet to come, of the listed schedules or of those of them that fail
  abbrev pub remaining : Bool → Cursor → List Schedule
  remaining failures c = Cursors.from c (sought M failures p)

  -- the most pages that are to come
  abbrev pub pages : Bool → Cursor → ℕ
  pages failures c = Cursors.pages c (sought M failures p)

  -- a page of what is yet to come at a cursor
  abbrev pub Paged : Bool → Cursor → List ℕ → List ℕ → Page → Type 0
  Paged failures c held out r = Cursors.Paged M.need (failing M p) (sought M failures p) c held out r
