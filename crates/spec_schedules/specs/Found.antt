-- The members of a list above a bound.
use Rattle.std.proofs.Math.Option.{Option, none, some}
use Rattle.std.specs.Prelude.{List}
use Rattle.spec_schedules.specs.Lists.{filter}
use Rattle.spec_schedules.specs.Order.{Schedule, less}

-- the members above the bound; without a bound all
unfoldable pub after : Option Schedule → List Schedule → List Schedule
after none l = l
after (some b) l = filter (less b) l
