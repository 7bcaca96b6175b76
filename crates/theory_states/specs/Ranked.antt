-- HOW MANY OF A LIST ARE SMALLER than a schedule, which need not be a member.
use Rattle.std.specs.Prelude.{ℕ, List, length}
use Rattle.spec_schedules.specs.Lists.{filter}
use Rattle.spec_schedules.specs.Order.{Schedule, less}

abbrev pub rank : Schedule → List Schedule → ℕ
rank s l = length (filter (λ w. less w s) l)
