use Rattle.std.proofs.Common.{◌≡◌, ◌+◌, ◌-◌, ◌∙◌, arith}
use Rattle.file_rows.proofs.Agree.{agree_parts}
use Rattle.file_rows.proofs.row.same_bytes.Goals as goal

pub returns : goal.returns
returns c =
    let a = c.args.a in
    let b = c.args.b in
    let n = c.args.n in
    let left : a + n - a ≡ n = omega arith in
    let right : b + n - b ≡ n = omega arith in
    c.eq.ensures ∙ rw (left, right) (agree_parts c.args.code.now a b n (omega arith) (omega arith))
