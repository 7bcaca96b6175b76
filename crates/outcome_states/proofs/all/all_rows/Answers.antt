-- `all_rows` gathers with no row and with a table that says nothing.
use Rattle.std.proofs.Common.{sym, ap, subst, ◌∙◌, take}
use Rattle.file_decoder.specs.Compiled.{program_of}
use Rattle.spec_model.specs.Laws.{Admitted}
use Rattle.spec_sc.specs.Sequential.{sc}
use Rattle.spec_sc.proofs.Laws.{sc_laws}
use Rattle.spec_tso.specs.TotalStoreOrder.{tso}
use Rattle.spec_tso.proofs.Laws.{tso_laws}
use Rattle.listing_model.specs.declared.memory.Model.{Model}
use Rattle.listing_model.specs.declared.memory.Model.TheVariants.{Sequential, TotalStoreOrder}
use Rattle.spec_covers.specs.Covers.{outcome_of}
use Rattle.spec_across.specs.Under.{outcome_under}
use Rattle.listing_model.specs.ModelOf.{model_of}
use Rattle.states_outcomes.specs.declared.known.Frame.{Frame}
use Rattle.outcome_states.specs.Gathered.{Holds}
use Rattle.outcome_states.proofs.Marks.{marks_start}
use Rattle.outcome_states.proofs.AllRows.{holds, gains_of}
use Rattle.outcome_states.proofs.all.all_rows.Goals as goal

pub returns-in-Sequential : goal.returns-in-Sequential
unfolding outcome_under outcome_of
returns-in-Sequential c =
    let a = c.args in
    let p = program_of a.program in
    let f = c.fresh-frame.result in
    let e = c.fresh-frame.ensures in
    let r = c.all_rows in
    let start = c.fresh-frame.new.lent in
    let admitted = subst (λ (m : Model). Admitted (model_of m) p) c.in-Sequential.is c.requires.0 in
    subst (λ (m : Model). Holds (model_of m) p a.cut a.lent.now r.new.lent r.result) (sym c.in-Sequential.is)
    (holds sc sc_laws p admitted a.cut f.cut f.known (ap (λ (g : Frame). g.cut) e.frame) (ap (λ (g : Frame). g.known) e.frame) a.lent.now start r.new.lent
    (r.ensures.words ∙ e.kept.0) r.result r.ensures.within
    (gains_of _ r.result _ r.ensures.rows (marks_start Sequential p f (take f.cut start) start e.silent)))

pub returns-in-TotalStoreOrder : goal.returns-in-TotalStoreOrder
returns-in-TotalStoreOrder c =
    let a = c.args in
    let p = program_of a.program in
    let f = c.fresh-frame-in-TotalStoreOrder.result in
    let e = c.fresh-frame-in-TotalStoreOrder.ensures in
    let r = c.all_rows-in-TotalStoreOrder in
    let start = c.fresh-frame-in-TotalStoreOrder.new.lent in
    let admitted = subst (λ (m : Model). Admitted (model_of m) p) c.in-TotalStoreOrder.is c.requires.0 in
    subst (λ (m : Model). Holds (model_of m) p a.cut a.lent.now r.new.lent r.result) (sym c.in-TotalStoreOrder.is)
    (holds tso tso_laws p admitted a.cut f.cut f.known (ap (λ (g : Frame). g.cut) e.frame) (ap (λ (g : Frame). g.known) e.frame) a.lent.now start r.new.lent
    (r.ensures.words ∙ e.kept.0) r.result r.ensures.within
    (gains_of _ r.result _ r.ensures.rows (marks_start TotalStoreOrder p f (take f.cut start) start e.silent)))
