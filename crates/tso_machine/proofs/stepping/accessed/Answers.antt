-- What the access does, stored over what stands there.
use Rattle.std.proofs.Common.{◌≡◌, ◌∙◌, ◌&&◌, not, arith, mod-lt}
use Rattle.tso_machine.proofs.CodeSteps.{access_code}
use Rattle.tso_machine.proofs.stepping.accessed.Goals.{then-a, else-a, then-a-2, else-a-2}
use Rattle.tso_machine.proofs.stepping.accessed.Goals as goal

pub returns : goal.returns
returns c =
    let a = c.args in
    let m1 = c.meet-a in
    let put : c.if-a.puts ≡ (m1.result.writes && m1.result.locks) = elim c.if-a.branch [ then-a w ↦ rw w.if-a.true w.puts-is | else-a w ↦ rw w.if-a.false (w.puts-is ∙ w.if-a.false) ] in
    let wait : c.if-a-2.waits ≡ (m1.result.writes && not m1.result.locks) = elim c.if-a-2.branch [ then-a-2 w ↦ rw w.if-a-2.true w.waits-is | else-a-2 w ↦ rw w.if-a-2.false (w.waits-is ∙ w.if-a-2.false) ] in
    record {
      within = (mod-lt c.wide-l.result (omega arith), mod-lt c.wide-j.result (omega arith));
      step = λ m σ held eP ok near. access_code a.program.now.code a.program.now.lengths m σ a.t held (omega (arith, c.requires.0.six)) ok near m1.result (m1.ensures m σ held eP ok near) _ eP c.wide-l.result c.wide-j.result
          c.wide-l.ensures.same c.wide-j.ensures.same c.if-a.puts c.if-a-2.waits put wait c.choose.result c.choose-2.result c.choose-3.result c.choose-4.result
          c.choose.ensures c.choose-2.ensures c.choose-3.ensures c.choose-4.ensures;
    }
