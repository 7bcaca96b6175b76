use Rattle.std.proofs.Common.{rules, ◌*◌, ◌+◌, ◌<◌, refl, ◌∙◌, sym, true, [], ◌∷◌, arith, length, length-set}
use Rattle.spec_file.specs.Frame.{pairs}
use Rattle.spec_judge.specs.Reading.{writes_in, all_new}
use Rattle.graph_reader.proofs.Marks.{seen_more}
use Rattle.graph_reader.proofs.MarkLoop.{iteration_named, iteration_found, iteration_next}
use Rattle.graph_reader.proofs.LineWrites.{no_event}
use Rattle.graph_reader.proofs.refusal.all_new.Goals as goal

pub loop-k-init : goal.loop-k-init
unfolding writes_in
loop-k-init c = (search rules, c.requires.2, λ rows S. (rows, S, refl))

pub bounds-s-e : goal.bounds-s-e
bounds-s-e c =
    let f = pairs c.args.line.now in
    let inside : 2 * c.loop-k.k + 1 < length f = omega (arith, c.requires) in
    let named = iteration_named f c.loop-k.k c.field.result c.field-in-loop-k.result inside c.field.ensures.same c.field-in-loop-k.ensures.same c.loop-k.invariant.1 in
    omega (arith, named.0.0, named.0.1)

pub returns-then-s-e : goal.returns-then-s-e
returns-then-s-e c =
    let f = pairs c.args.line.now in
    let inside : 2 * c.loop-k.k + 1 < length f = omega (arith, c.requires) in
    let named = iteration_named f c.loop-k.k c.field.result c.field-in-loop-k.result inside c.field.ensures.same c.field-in-loop-k.ensures.same c.loop-k.invariant.1 in
    λ rows S. let v = c.loop-k.invariant.2 rows S in
    sym (v.2 ∙ iteration_found f c.loop-k.k c.field.result c.field-in-loop-k.result inside c.field.ensures.same c.field-in-loop-k.ensures.same c.loop-k.s v.0 named.0 v.1 c.if-s-e.true)

pub bounds-s-e-in-loop-k : goal.bounds-s-e-in-loop-k
bounds-s-e-in-loop-k c =
    let f = pairs c.args.line.now in
    let inside : 2 * c.loop-k.k + 1 < length f = omega (arith, c.requires) in
    let named = iteration_named f c.loop-k.k c.field.result c.field-in-loop-k.result inside c.field.ensures.same c.field-in-loop-k.ensures.same c.loop-k.invariant.1 in
    omega (arith, named.0.0, named.0.1)

pub loop-k-preserved : goal.loop-k-preserved
loop-k-preserved c =
    let f = pairs c.args.line.now in
    let l = c.loop-k in
    let t = c.field.result in
    let i = c.field-in-loop-k.result in
    let inside : 2 * c.loop-k.k + 1 < length f = omega (arith, c.requires) in
    let named = iteration_named f l.k t i inside c.field.ensures.same c.field-in-loop-k.ensures.same l.invariant.1 in (
      length-set l.s (t * 16 + i) true ∙ l.invariant.0,
      named.1,
      λ rows S. let v = l.invariant.2 rows S in (
        ((t, i) ∷ []) ∷ v.0,
        seen_more l.s v.0 l.invariant.0 v.1 (t, i) named.0,
        v.2 ∙ iteration_next f l.k t i inside c.field.ensures.same c.field-in-loop-k.ensures.same l.s v.0 named.0 v.1 c.if-s-e.false,
      ),
    )

pub returns : goal.returns
unfolding all_new
returns c = λ rows S. let v = c.loop-k.invariant.2 rows S in sym (v.2 ∙ rw (no_event (pairs c.args.line.now) c.loop-k.k (omega (arith, c.requires.0))))
