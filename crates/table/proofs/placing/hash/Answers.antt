use Rattle.std.proofs.Common.{◌+◌, drop, sym, ap, ◌∙◌}
use Rattle.table.specs.Places.{hash_from}
use Rattle.table.proofs.Apart.{hash_more, hash_none}
use Rattle.table.proofs.placing.hash.Goals as goal

pub loop-w-preserved : goal.loop-w-preserved
loop-w-preserved c =
    let l = c.loop-w in
    let key = c.args.key.now in
    l.invariant ∙ hash_more l.h l.w-index key c.loop-w-test.true ∙ ap (λ h. hash_from h (drop (l.w-index + 1) key)) (sym c.mix-h.ensures)

pub returns : goal.returns
returns c =
    let l = c.loop-w in
    sym (l.invariant ∙ hash_none l.h l.w-index c.args.key.now c.loop-w-test.false)
