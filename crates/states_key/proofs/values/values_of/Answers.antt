use Rattle.std.proofs.Common.{refl, sym, ap, ◌∙◌, arith, length}
use Rattle.theory_sc_key.specs.Key.{padded}
use Rattle.states_key.specs.Gathered.{gathered}
use Rattle.states_key.proofs.Padding.{padded_none}
use Rattle.states_key.proofs.KeyValues.{gathered_none, gathered_on, gathered_past}
use Rattle.states_key.proofs.values.values_of.Goals.{then-k-lengths, else-k-lengths}
use Rattle.states_key.proofs.values.values_of.Goals as goal

pub loop-t-init : goal.loop-t-init
loop-t-init c =
    let a = c.args in
    let none = gathered_none a.lengths.now a.masks.now a.threads 0 refl in
    (omega arith, ap length none, padded_none (gathered a.lengths.now a.masks.now a.threads 0) none)

pub loop-t-preserved : goal.loop-t-preserved
loop-t-preserved c =
    let a = c.args in
    let now = c.loop-t in
    elim c.if-k-lengths.branch [
      | then-k-lengths w ↦
          let put = w.put_chosen-n.ensures in
          let on = gathered_on a.lengths.now a.masks.now a.threads now.t w.if-k-lengths.true in
          let q = put.stored (gathered a.lengths.now a.masks.now a.threads now.t) now.invariant.1 now.invariant.2 in
          (omega (arith, put.next, now.invariant.0, w.n-is), ap length on ∙ q.0 ∙ sym w.n-is, w.values-is ∙ q.1 ∙ ap (padded 32) (sym on))
      | else-k-lengths w ↦
          let past = gathered_past a.lengths.now a.masks.now a.threads now.t w.if-k-lengths.false in
          (omega (arith, now.invariant.0, w.n-is), ap length past ∙ now.invariant.1 ∙ sym w.n-is, w.values-is ∙ now.invariant.2 ∙ ap (padded 32) (sym past))
    ]
