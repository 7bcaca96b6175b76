use Rattle.std.proofs.Common.{rules, ℕ, sym, ap, ◌∙◌, arith}
use Rattle.states_outcomes.specs.Rows.{known_row}
use Rattle.states_outcomes.proofs.RowLists.{known_at, known_none, known_next}
use Rattle.states_outcomes.proofs.known.is_known.Goals as goal

pub loop-k-init : goal.loop-k-init
loop-k-init c = let a = c.args in (omega arith, sym (known_none a.rows.now a.row.now))

pub overflow_mul-k : goal.overflow_mul-k
overflow_mul-k c = let h = c.requires in let l = c.loop-k-test.true in search rules

pub returns-then-stands : goal.returns-then-stands
returns-then-stands c =
    let a = c.args in
    sym (known_at a.rows.now a.row.now a.n c.loop-k.k c.loop-k-test.true (sym c.stands.ensures ∙ c.if-stands.true))

pub loop-k-preserved : goal.loop-k-preserved
loop-k-preserved c =
    let a = c.args in
    let loop = c.loop-k in (
      (let h = c.loop-k-test.true in omega (arith, h)),
      known_next a.rows.now a.row.now loop.k loop.invariant.1 (sym c.stands.ensures ∙ c.if-stands.false),
    )

pub returns : goal.returns
returns c =
    let a = c.args in
    let loop = c.loop-k in
    let l = c.loop-k-test.false in
    let h = loop.invariant.0 in
    sym (ap (λ (k : ℕ). known_row a.rows.now k a.row.now) (omega (arith, l, h)) ∙ loop.invariant.1)
