-- What a run of values comes to.
use mathlib.Core.Bool.{Bool}
use Rattle.spec_schedules.specs.Lists.{any}
use Rattle.spec_sc.specs.Local.{Local}
use Rattle.spec_add_zero.specs.Values.{Values, Outcome}

unfoldable pub failed_in : Local → Bool
failed_in h = h.failed

abbrev pub outcome_of : Values → Outcome
outcome_of v = (v.memory, any failed_in v.threads)
