-- `judged` walks and compares.
use Rattle.std.proofs.Common.{rules, ◌∙◌, sym}
use Rattle.judge.proofs.Tables.{alike, unlike}
use Rattle.machine.proofs.HeldAsking.{ended_by_lem}
use Rattle.judge.proofs.JudgeTables.{answer_running, answer_pairs, answer_counts, answer_yes}
use Rattle.judge.proofs.judging.judged.Goals.{then-not-ended_all-via-then-not-ended_all, then-not-ended_all-via-else-not-ended_all+then-ne, then-not-ended_all-via-else-not-ended_all+else-ne+then-ne-2}
use Rattle.judge.proofs.judging.judged.Goals as goal

pub returns-then-not-ended_all : goal.returns-then-not-ended_all
returns-then-not-ended_all c =
    let a = c.args in
    let r = c.walked-w.result in
    λ p x g l e q T.
    let w = c.walked-w.ensures p g (record { loaded = l; text = x; read = q; sizes = a.counts; tabled = T; places = c.places-table.ensures p x a.counts g l e q T }) e in
    let ended = sym (c.ended_all.ensures ∙ ended_by_lem w.holds) in
    elim c.then-not-ended_all.branch [
      | then-not-ended_all-via-then-not-ended_all v ↦
          answer_running a.program.now.code a.program.now.lengths a.program.now.threads a.pairs a.counts p x g l q T r w (ended ∙ v.if-not-ended_all.true)
      | then-not-ended_all-via-else-not-ended_all+then-ne v ↦
          answer_pairs a.program.now.code a.program.now.lengths a.program.now.threads a.pairs a.counts p x g l q T r w (ended ∙ v.if-not-ended_all.false) (search rules) (search rules) (unlike _ _ (sym v.ne.ensures ∙ v.if-ne.true))
      | then-not-ended_all-via-else-not-ended_all+else-ne+then-ne-2 v ↦
          answer_counts a.program.now.code a.program.now.lengths a.program.now.threads a.pairs a.counts p x g l q T r w (ended ∙ v.if-not-ended_all.false) (search rules) (search rules) (unlike _ _ (sym v.ne-else-ne.ensures ∙ v.if-ne-2.true))
    ]

pub returns : goal.returns
returns c =
    let a = c.args in
    λ p x g l e q T.
    let w = c.walked-w.ensures p g (record { loaded = l; text = x; read = q; sizes = a.counts; tabled = T; places = c.places-table.ensures p x a.counts g l e q T }) e in
    answer_yes a.program.now.code a.program.now.lengths a.program.now.threads a.pairs a.counts p x g l q T c.walked-w.result w
    (sym (c.ended_all.ensures ∙ ended_by_lem w.holds) ∙ c.if-not-ended_all.false) (search rules) (alike _ _ (sym c.ne.ensures ∙ c.if-ne.false)) (alike _ _ (sym c.ne-else-ne.ensures ∙ c.if-ne-2.false))
