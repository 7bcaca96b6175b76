use Rattle.std.proofs.Common.{refl, ◌∙◌, sym, arith}
use Rattle.spec_schedules.proofs.Lists.{all_cons}
use Rattle.spec_file.specs.Frame.{pairs}
use Rattle.spec_schedules.specs.Lists.{all}
use Rattle.spec_judge.specs.Reading.{writes_in}
use Rattle.graph_reader.proofs.LineWrites.{event_here, no_event}
use Rattle.graph_reader.proofs.refusal.all_events.Goals as goal

pub loop-k-init : goal.loop-k-init
unfolding writes_in
loop-k-init c = refl

pub returns-then-not-is_event : goal.returns-then-not-is_event
returns-then-not-is_event c =
    sym (c.loop-k.invariant ∙ rw (event_here (pairs c.args.line.now) c.loop-k.k (omega (arith, c.requires)), all_cons, ← c.field.ensures.same, ← c.field-in-loop-k.ensures.same, sym c.is_event.ensures ∙ c.if-not-is_event.true))

pub loop-k-preserved : goal.loop-k-preserved
loop-k-preserved c =
    c.loop-k.invariant ∙ rw (event_here (pairs c.args.line.now) c.loop-k.k (omega (arith, c.requires)), all_cons, ← c.field.ensures.same, ← c.field-in-loop-k.ensures.same, sym c.is_event.ensures ∙ c.if-not-is_event.false)

pub returns : goal.returns
unfolding all
returns c = sym (c.loop-k.invariant ∙ rw (no_event (pairs c.args.line.now) c.loop-k.k (omega (arith, c.requires))))
