-- `is_allowed` lets the machine step and asks of the note.
use Rattle.std.proofs.Common.{◌∙◌, sym}
use Rattle.spec_schedules.specs.System.{run}
use Rattle.spec_sc.specs.State.{SC, start}
use Rattle.spec_judge.specs.Consistent.{location_of}
use Rattle.spec_judge.proofs.RoundValues.{final_values}
use Rattle.machine.proofs.HeldAsking.{enabled_by_lem}
use Rattle.judge_next.proofs.WalkChoice.{walk_drawn, walk_ordering, walk_below, walk_ready, walk_near, walk_ranged, walk_unmarked, walk_six, ended_over}
use Rattle.judge_next.proofs.choosing.is_allowed.Goals as goal

pub step-requires : goal.step-requires
step-requires c =
    let a = c.args in
    let p = c.requires.1.0 in
    let g = c.requires.1.1 in
    let s = c.requires.1.2 in
    let W = c.requires.1.3 in
    walk_ready a.program.now.code a.program.now.lengths a.program.now.threads a.pairs a.places p g a.m a.counts s W a.t (sym (c.enabled.ensures ∙ enabled_by_lem W.holds a.t) ∙ c.if-enabled.true)

pub allowed-requires : goal.allowed-requires
allowed-requires c =
    let a = c.args in
    let p = c.requires.1.0 in
    let g = c.requires.1.1 in
    let s = c.requires.1.2 in
    let W = c.requires.1.3 in
    let ok = sym (c.enabled.ensures ∙ enabled_by_lem W.holds a.t) ∙ c.if-enabled.true in
    let near = walk_near a.program.now.code a.program.now.lengths a.program.now.threads a.pairs a.places p g a.m a.counts s W a.t ok in (
      walk_six a.program.now.code a.program.now.lengths a.program.now.threads a.pairs a.places p g a.m a.counts s W,
      walk_ranged a.program.now.code a.program.now.lengths a.program.now.threads a.pairs a.places p g a.m a.counts s W a.t ok _ (c.step.ensures (run SC (start p) s) W.holds ok near).noted,
      c.requires.0,
    )

pub returns-then-enabled : goal.returns-then-enabled
returns-then-enabled c =
    let a = c.args in
    λ p g s W.
    let ok = sym (c.enabled.ensures ∙ enabled_by_lem W.holds a.t) ∙ c.if-enabled.true in
    let near = walk_near a.program.now.code a.program.now.lengths a.program.now.threads a.pairs a.places p g a.m a.counts s W a.t ok in
    let noted = (c.step.ensures (run SC (start p) s) W.holds ok near).noted in
    c.allowed.ensures g (location_of p (final_values p g)) (run SC (start p) s) a.t
    (walk_drawn a.program.now.code a.program.now.lengths a.program.now.threads a.pairs a.places p g a.m a.counts s W)
    (walk_ordering a.program.now.code a.program.now.lengths a.program.now.threads a.pairs a.places p g a.m a.counts s W) ok
    (walk_below a.program.now.code a.program.now.lengths a.program.now.threads a.pairs a.places p g a.m a.counts s W a.t ok) noted
    (walk_unmarked a.program.now.code a.program.now.lengths a.program.now.threads a.pairs a.places p g a.m a.counts s W a.t ok _ noted)

pub returns-else-enabled : goal.returns-else-enabled
returns-else-enabled c =
    let a = c.args in
    λ p g s W. c.if-enabled.false ∙ sym (ended_over a.program.now.code a.program.now.lengths a.program.now.threads a.pairs a.places p g a.m a.counts s W a.t (sym (c.enabled.ensures ∙ enabled_by_lem W.holds a.t) ∙ c.if-enabled.false))
