-- `late_bound` asks whether any was late.
use Rattle.std.proofs.Common.{arith}
use Rattle.search_place.proofs.LateNow.{late_none}
use Rattle.search_place.proofs.lateness.late_bound.Goals as goal

pub returns-then-late-eq0 : goal.returns-then-late-eq0
returns-then-late-eq0 c =
    let a = c.args in
    (omega (arith, c.requires), λ σ b u e h l. late_none σ a.late a.t b u c.if-late-eq0.true e h)
