-- The page that a listed schedule is looked for in.
use Prim.Native.Nat.{ℕ, ◌/◌, ◌<◌}
use mathlib.Core.Path.{◌≡◌}
use mathlib.Core.List.{List}
use native.Mathlib.Omega.{arith}
use lib.ListN.{length}
use Rattle.spec_calls.specs.Rows.{row_size}
use Rattle.listing_model.specs.declared.memory.Model.{Model}
use Rattle.listing_model.specs.declared.memory.Model.TheVariants.{Sequential, TotalStoreOrder}
use Rattle.listing_model.specs.ModelOf.{model_of}

-- 800 bytes have room for a row in both memory models
pub room_800 : (m : Model) (rows : List ℕ) → length rows ≡ 800 → 0 < length rows / row_size (model_of m).need
room_800 Sequential rows e = rw e (omega arith)
room_800 TotalStoreOrder rows e = rw e (omega arith)
