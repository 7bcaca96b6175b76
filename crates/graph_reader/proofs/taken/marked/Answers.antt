use Rattle.std.proofs.Common.{rules, ◌*◌, ◌+◌, ◌<◌, refl, ◌∙◌, sym, true, arith, length, length-set}
use Rattle.spec_file.specs.Frame.{pairs}
use Rattle.spec_judge.specs.Reading.{writes_in}
use Rattle.graph_reader.specs.Held.{marked_by}
use Rattle.graph_reader.proofs.MarkLoop.{iteration_named, iteration_marked}
use Rattle.graph_reader.proofs.LineWrites.{no_event}
use Rattle.graph_reader.proofs.taken.marked.Goals as goal

pub loop-k-init : goal.loop-k-init
unfolding writes_in
loop-k-init c = (search rules, c.requires.2, refl)

pub bounds-s-field : goal.bounds-s-field
bounds-s-field c =
    let f = pairs c.args.line.now in
    let inside : 2 * c.loop-k.k + 1 < length f = omega (arith, c.requires) in
    let named = iteration_named f c.loop-k.k c.field.result c.field-in-loop-k.result inside c.field.ensures.same c.field-in-loop-k.ensures.same c.loop-k.invariant.1 in
    omega (arith, named.0.0, named.0.1)

pub loop-k-preserved : goal.loop-k-preserved
loop-k-preserved c =
    let f = pairs c.args.line.now in
    let l = c.loop-k in
    let t = c.field.result in
    let i = c.field-in-loop-k.result in
    let inside : 2 * c.loop-k.k + 1 < length f = omega (arith, c.requires) in (
      length-set l.s (t * 16 + i) true ∙ l.invariant.0,
      (iteration_named f l.k t i inside c.field.ensures.same c.field-in-loop-k.ensures.same l.invariant.1).1,
      l.invariant.2 ∙ iteration_marked f l.k t i inside c.field.ensures.same c.field-in-loop-k.ensures.same l.s,
    )

pub returns : goal.returns
unfolding marked_by
returns c = sym (c.loop-k.invariant.2 ∙ rw (no_event (pairs c.args.line.now) c.loop-k.k (omega (arith, c.requires.0))))
