use Rattle.std.proofs.Common.{arith, ◌≡◌, refl, sym, length}
use Rattle.spec_file.specs.Text.{digits}
use Rattle.spec_file.specs.Over.{over}
use Rattle.spec_file.proofs.Over.{over_nil}
use Rattle.spec_file.proofs.Text.{length_text, written_fits, written_short}
use Rattle.file_lines.proofs.Filled.{over_byte, over_last}
use Rattle.file_lines.proofs.writer.write.Goals as goal

pub returns-then-out-n : goal.returns-then-out-n
returns-then-out-n c =
    let s = c.args in
    let e = written_short s.bytes.now (length s.out.now) c.if-out-n.true in
    record { count = rw e; content = rw e (sym (over_nil s.out.now)) }

pub loop-k-init : goal.loop-k-init
unfolding over digits
loop-k-init c = refl

pub loop-k-preserved : goal.loop-k-preserved
loop-k-preserved c =
    let at = c.loop-k in
    over_byte c.args.bytes.now c.args.out.now at.out at.k _ _ c.loop-k-test.true c.if-out-n.false at.invariant c.high.ensures c.low.ensures

pub returns : goal.returns
returns c =
    let s = c.args in
    let at = c.loop-k in
    let room = c.if-out-n.false in
    let e = written_fits s.bytes.now (length s.out.now) room in
    let k : at.k ≡ length s.bytes.now = omega arith in
    record { count = rw e (sym (length_text s.bytes.now)); content = rw e (over_last s.bytes.now s.out.now at.out room (rw k at at.invariant)) }
