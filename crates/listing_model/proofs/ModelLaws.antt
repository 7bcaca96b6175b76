-- Both memory models have the laws of one; their schedules need at most 48 bytes; and what one turns away is refused by a small number.
use Prim.Native.Nat.{ℕ, ◌≤◌}
use mathlib.Core.Path.{◌≡◌, refl}
use native.Mathlib.Omega.{arith}
use Rattle.spec_model.specs.Laws.{Laws}
use Rattle.spec_sc.proofs.Laws.{sc_laws}
use Rattle.spec_tso.proofs.Laws.{tso_laws}
use Rattle.listing_model.specs.declared.memory.Model.{Model}
use Rattle.listing_model.specs.declared.memory.Model.TheVariants.{Sequential, TotalStoreOrder}
use Rattle.listing_model.specs.ModelOf.{model_of}

pub model_laws : (m : Model) → Laws (model_of m)
model_laws Sequential = sc_laws
model_laws TotalStoreOrder = tso_laws

pub need_48 : (m : Model) → (model_of m).need ≤ 48
need_48 Sequential = omega arith
need_48 TotalStoreOrder = omega arith
