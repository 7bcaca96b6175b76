-- WHERE ALL THREADS ARE HOSTILE the answer goes by the first listed schedule that fails: its first byte is the least first step. WHERE NONE IS it goes by the
-- counts: the hostile side can exactly where every listed schedule fails, and has no step.
use Rattle.std.specs.Prelude.{true, false, [], ◌∷◌, eqb}
use Rattle.std.proofs.Math.Option.{Option, none, some}
use Rattle.spec_schedules.specs.Order.{Schedule}
use Rattle.spec_model.specs.Answers.{Counts}
use Rattle.spec_force.specs.Forced.{Answer, hostile_can, friendly_can}

unfoldable pub by_failing : Option Schedule → Answer
by_failing none = friendly_can
by_failing (some []) = hostile_can none
by_failing (some (t ∷ z)) = hostile_can (some t)

unfoldable pub by_counts : Counts → Answer
by_counts n = elim (eqb n.listed n.failed) [ true ↦ hostile_can none | false ↦ friendly_can ]
