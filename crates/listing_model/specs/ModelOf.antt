-- The memory model that the code's number for it stands for.
use Rattle.spec_model.specs.Model as Memory
use Rattle.spec_sc.specs.Sequential.{sc}
use Rattle.spec_tso.specs.TotalStoreOrder.{tso}
use Rattle.listing_model.specs.declared.memory.Model.{Model}
use Rattle.listing_model.specs.declared.memory.Model.TheVariants.{Sequential, TotalStoreOrder}

abbrev pub model_of : Model → Memory.Model
model_of Sequential = sc
model_of TotalStoreOrder = tso
