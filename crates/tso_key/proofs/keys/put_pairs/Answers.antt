use Rattle.std.proofs.Common.{ℕ, ◌+◌, ◌*◌, ◌<◌, ◌≡◌, ap, ◌∙◌, ◌++◌, arith, length, take}
use Rattle.theory_sc_key.specs.Key.{pairs, padded}
use Rattle.tso_key.proofs.Filled.{pairs_none, pairs_more}
use Rattle.tso_key.proofs.keys.put_pairs.Goals as goal

pub loop-i-init : goal.loop-i-init
loop-i-init c = (omega arith, λ l e q. q ∙ pairs_none c.args.values.now l)

pub loop-i-preserved : goal.loop-i-preserved
loop-i-preserved c =
    let two : (c.loop-i.i * 2 + 1 < length c.args.values.now) × (c.args.at + c.loop-i.i < 27) = let p = c.requires in let t = c.loop-i-test.true in (omega (arith, p.1, t), omega (arith, p.0, t)) in
    let a = c.args in
    let l = c.loop-i in
    let b = two in (
      omega (arith, c.loop-i-test.true),
      λ k e q. pairs_more a.values.now k l.words a.at l.i e b.1 b.0 (l.invariant.1 k e q) c.pair.result c.pair.ensures,
    )

pub returns : goal.returns
returns c k e q =
    let a = c.args in
    let l = c.loop-i in
    let same : l.i * 2 ≡ a.n + a.n = omega (arith, l.invariant.0, c.loop-i-test.false) in
    l.invariant.1 k e q ∙ ap (λ (j : ℕ). padded 27 (k ++ pairs (take j a.values.now))) same
