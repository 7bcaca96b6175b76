use Rattle.std.proofs.Common.{ℕ, suc, ◌+◌, ◌-◌, ◌/◌, ◌%◌, ◌<◌, ◌≡◌, subst, arith, get_or, drop, length-set}
use Rattle.file_rows.specs.Rows.{thread_code}
use Rattle.search_rules.proofs.WhatIsLeft.{From, rows_more, reads_behind, writes_behind}
use Rattle.search_rules.proofs.leaving.left_sets.Goals as goal

pub loop-row-preserved-then-n-le16 : goal.loop-row-preserved-then-n-le16
loop-row-preserved-then-n-le16 c =
    let a = c.args in
    let loop = c.loop-row in
    let test = c.loop-row-test in
    let own = c.if-i-n.true in
    let short = c.if-n-le16.true in
    let reads = c.behind-reads in
    let writes = c.behind-writes in
    let k = loop.row - 1 in
    let below : k < 96 = omega (arith, loop.invariant.0, test.true) in
    let up : loop.row ≡ k + 1 = omega (arith, test.true) in
    let f = subst (λ (j : ℕ). From a.program.now.code a.program.now.lengths j loop.left) up loop.invariant.2 in
    let is = drop (suc (k % 16)) (thread_code a.program.now.code (k / 16) (get_or a.program.now.lengths (k / 16) 0)) in
    let r = reads_behind a.program.now.code a.program.now.lengths k below loop.left f own short reads.result reads.ensures.0 reads.ensures.1 in
    let w = writes_behind a.program.now.code a.program.now.lengths k below loop.left f own short writes.result writes.ensures.0 writes.ensures.1 in (
      omega (arith, below),
      simp length-set loop.invariant.1,
      rows_more a.program.now.code a.program.now.lengths k below loop.left f own short c.reads_from.result c.writes_from.result loop.invariant.1
          (c.reads_from.ensures is r) (c.writes_from.ensures is w),
    )
