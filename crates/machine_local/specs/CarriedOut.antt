-- What an instruction that is no access does, as the code carries it out. For the machine's own functions: nothing here is needed to read
-- what a step is.
use Rattle.std.specs.Prelude.{Option, None, Some}
use Rattle.machine_local.specs.declared.local.Carried.{Carried}
use Rattle.spec_sc.specs.Local.{Outcome, continues, stops}

-- how the code holds an outcome: the registers behind it and so many skipped, or none where an assertion failed
abbrev pub carried : Outcome → Option Carried
carried (continues rs k) = Some (record { registers = rs; skip = k })
carried stops = None
