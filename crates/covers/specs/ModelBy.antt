-- The memory model that a byte names, as the code has it.
use Rattle.std.specs.Prelude.{ℕ, zero, suc, Option, Some, None}
use Rattle.listing_model.specs.declared.memory.Model.{Model}
use Rattle.listing_model.specs.declared.memory.Model.TheVariants.{Sequential, TotalStoreOrder}

abbrev pub model_by : ℕ → Option Model
model_by zero = Some Sequential
model_by (suc zero) = Some TotalStoreOrder
model_by (suc (suc b)) = None
