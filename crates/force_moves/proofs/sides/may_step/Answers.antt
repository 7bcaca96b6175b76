-- `may_step` asks the machine, then the set.
use Rattle.std.proofs.Common.{◌≡◌, Bool, true, false, ap, sym, ◌∙◌, ◌&&◌}
use Rattle.machine.specs.Asked.{enabled_by}
use Rattle.spec_force.specs.Game.{same}
use Rattle.spec_force.specs.Forced.{owner_in}
use Rattle.force_moves.specs.Standing.{side_of}
use Rattle.force_moves.proofs.Flags.{asks_own, own_mine}
use Rattle.force_moves.proofs.sides.may_step.Goals as goal

pub returns-then-enabled : goal.returns-then-enabled
returns-then-enabled c =
    let x = c.args in
    let y = side_of x.side in
    let own = same (owner_in x.set x.t) y in
    let e : enabled_by x.lengths.now x.m x.t ≡ true = sym c.enabled.ensures ∙ c.if-enabled.true in
    let asked : c.is_own.result ≡ asks_own x.lengths.now x.m x.set y x.t = c.is_own.ensures ∙ sym (ap (λ (b : Bool). b && own) e) in
    record { asked = asked; mine = λ code σ held. asked ∙ own_mine x.set y σ code x.lengths.now x.m held x.t }

pub returns-else-enabled : goal.returns-else-enabled
returns-else-enabled c =
    let x = c.args in
    let y = side_of x.side in
    let own = same (owner_in x.set x.t) y in
    let e : enabled_by x.lengths.now x.m x.t ≡ false = sym c.enabled.ensures ∙ c.if-enabled.false in
    let asked : c.enabled.result ≡ asks_own x.lengths.now x.m x.set y x.t = c.if-enabled.false ∙ sym (ap (λ (b : Bool). b && own) e) in
    record { asked = asked; mine = λ code σ held. asked ∙ own_mine x.set y σ code x.lengths.now x.m held x.t }
