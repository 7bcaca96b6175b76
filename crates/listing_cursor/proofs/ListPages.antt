-- A listed schedule fits a row, in any memory model with its laws.
use Prim.Native.Nat.{◌≤◌}
use mathlib.Core.Bool.{Bool, true, false}
use mathlib.Core.List.{Memᴰ}
use native.Mathlib.Omega.{arith}
use lib.ListN.{length}
use Rattle.spec_file.specs.Program.{Program}
use Rattle.spec_schedules.specs.Order.{Schedule}
use Rattle.spec_schedules.proofs.Lists.{of_filter}
use Rattle.spec_model.specs.Model.{Model, failing}
use Rattle.spec_model.specs.Alike.{list_of}
use Rattle.spec_model.specs.Laws.{Admitted, Laws}
use Rattle.spec_model.specs.Search.{sought}
use Rattle.spec_model.proofs.TheList.{list_room}
use Rattle.listing_cursor.specs.declared.cursor.Cursor.{Cursor}
use Rattle.listing_cursor.specs.ListRows.{remaining}
use Rattle.listing_cursor.proofs.CursorLaws.{of_from}

of_sought : (M : Model) (p : Program) (failures : Bool) (s : Schedule) → Memᴰ s (sought M failures p) → Memᴰ s (list_of M p)
unfolding sought
of_sought M p true s m = (of_filter (failing M p) (list_of M p) s m).0
of_sought M p false s m = m

module _ (M : Model) (L : Laws M) (p : Program) (a : Admitted M p) (failures : Bool) where
  pub sought_fits : (s : Schedule) → Memᴰ s (sought M failures p) → length s ≤ M.need
  sought_fits s m = list_room M L p a s (of_sought M p failures s m)

  -- a cursor has room for every schedule that is sought
  pub sought_48 : M.need ≤ 48 → (s : Schedule) → Memᴰ s (sought M failures p) → length s ≤ 48
  sought_48 h s m = omega (arith, h, sought_fits s m)

  pub remaining_fits : (c : Cursor) (s : Schedule) → Memᴰ s (remaining M p failures c) → length s ≤ M.need
  remaining_fits c s m = sought_fits s (of_from (sought M failures p) c s m)
