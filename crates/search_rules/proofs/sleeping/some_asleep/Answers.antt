use Rattle.std.proofs.Common.{refl, ◌∙◌, arith}
use Rattle.spec_sc.specs.Graph.{end_of}
use Rattle.theory_sc.specs.LateSet.{late_set}
use Rattle.theory_sc.specs.Sleepers.{sleepers}
use Rattle.search_rules.proofs.Rounds.{Counters, counters_short, counters_rest, late_small, asleep_first, round_below, round_falls, round_on, round_still, round_none}
use Rattle.search_rules.proofs.sleeping.some_asleep.Goals.{At-loop-set}
use Rattle.search_rules.proofs.sleeping.some_asleep.Goals as goal

-- all six counters are taken
counted : (c : At-loop-set) → Counters c.args.threads c.loop-t.at
counted c k h = c.loop-t.invariant.1 k (omega (arith, h, c.loop-t-test.false))

pub returns-then-late-eq0 : goal.returns-then-late-eq0
returns-then-late-eq0 c =
    let a = c.args in
    λ class count groups x p v r et el.
    round_none (end_of p v) a.late c.if-late-eq0.true (sleepers (end_of p v) (late_set p v)) (asleep_first a.program.now.code a.program.now.lengths class count groups x p v r a.threads et a.late el)

pub loop-set-init : goal.loop-set-init
loop-set-init c = let a = c.args in let q = c.requires in (late_small a.program.now.code a.program.now.lengths q.0 q.1 q.2 q.3 q.4 q.5 q.6 a.threads q.7 a.late q.8, λ σ rests. refl)

pub unwoken-next-requires : goal.unwoken-next-requires
unwoken-next-requires c = let a = c.args in let q = c.requires in counters_short a.program.now.code a.program.now.lengths q.0 q.1 q.2 q.3 q.4 q.5 q.6 a.threads q.7 a.late q.8 c.loop-t.at (counted (goal.at.unwoken-next-requires c).At-loop-set)

pub returns-then-next-set : goal.returns-then-next-set
returns-then-next-set c =
    let a = c.args in
    λ class count groups x p v r et el.
    let rests = counters_rest a.program.now.code a.program.now.lengths class count groups x p v r a.threads et a.late el c.loop-t.at (counted (goal.at.returns-then-next-set c).At-loop-set) in
    round_still (end_of p v) c.loop-set.set c.unwoken-next.result c.loop-set.invariant.0 (c.unwoken-next.ensures (end_of p v) rests c.requires.9) c.if-next-set.true c.loop-set-test.true (sleepers (end_of p v) (late_set p v))
    (asleep_first a.program.now.code a.program.now.lengths class count groups x p v r a.threads et a.late el ∙ c.loop-set.invariant.1 (end_of p v) rests)

pub loop-set-smaller : goal.loop-set-smaller
loop-set-smaller c =
    let a = c.args in
    let q = c.requires in
    let rests = counters_rest a.program.now.code a.program.now.lengths q.0 q.1 q.2 q.3 q.4 q.5 q.6 a.threads q.7 a.late q.8 c.loop-t.at (counted (goal.at.loop-set-smaller c).At-loop-set) in
    round_falls (end_of q.4 q.5) c.loop-set.set c.unwoken-next.result c.loop-set.invariant.0 (c.unwoken-next.ensures (end_of q.4 q.5) rests q.9) c.if-next-set.false

pub loop-set-preserved : goal.loop-set-preserved
loop-set-preserved c =
    let a = c.args in
    let q = c.requires in
    let rests = counters_rest a.program.now.code a.program.now.lengths q.0 q.1 q.2 q.3 q.4 q.5 q.6 a.threads q.7 a.late q.8 c.loop-t.at (counted (goal.at.loop-set-preserved c).At-loop-set) in (
      round_below (end_of q.4 q.5) c.loop-set.set c.unwoken-next.result c.loop-set.invariant.0 (c.unwoken-next.ensures (end_of q.4 q.5) rests q.9),
      λ σ rest. round_on σ c.loop-set.set c.unwoken-next.result c.loop-set.invariant.0 (c.unwoken-next.ensures σ rest q.9) c.if-next-set.false _ (c.loop-set.invariant.1 σ rest),
    )

pub returns : goal.returns
returns c =
    let a = c.args in
    λ class count groups x p v r et el.
    let rests = counters_rest a.program.now.code a.program.now.lengths class count groups x p v r a.threads et a.late el c.loop-t.at (counted (goal.at.returns c).At-loop-set) in
    round_none (end_of p v) c.loop-set.set c.loop-set-test.false (sleepers (end_of p v) (late_set p v)) (asleep_first a.program.now.code a.program.now.lengths class count groups x p v r a.threads et a.late el ∙ c.loop-set.invariant.1 (end_of p v) rests)
