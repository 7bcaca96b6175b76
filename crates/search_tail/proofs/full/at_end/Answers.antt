-- `at_end` writes the schedule's row, if it is looked for.
use Rattle.std.proofs.Common.{rules, ◌≡◌, sym, ◌∙◌}
use Rattle.spec_model.specs.Model.{failing}
use Rattle.spec_sc.specs.Sequential.{sc}
use Rattle.theory_sc.proofs.Search.{behind_end, behind_passed}
use Rattle.machine.proofs.HeldAsking.{fails_by_lem}
use Rattle.spec_calls.specs.Rows.{row_of}
use Rattle.listing_cursor.proofs.AddedRows.{adds_none, adds_full, adds_one}
use Rattle.search_tail.proofs.full.at_end.Goals as goal

pub returns-then-a-rows : goal.returns-then-a-rows
returns-then-a-rows c =
    let a = c.args in
    record { within = c.requires.1; added = λ code lengths class threads groups p v at e. adds_full 24 (failing sc p) a.a.room _ a.out.now a.a.rows c.if-a-rows.true }

pub returns-then-not-is_meant : goal.returns-then-not-is_meant
returns-then-not-is_meant c =
    let a = c.args in record {
      within = c.requires.1;
      added = λ code lengths class threads groups p v at e.
          adds_none 24 (failing sc p) a.a.room _ a.out.now a.a.rows
          (behind_passed a.a.failures p a.x.now.steps v c.some_failed-f.result e (sym (c.some_failed-f.ensures ∙ fails_by_lem at.holds)) (sym c.is_meant.ensures ∙ c.if-not-is_meant.true));
    }

pub returns : goal.returns
unfolding row_of
returns c = record {
  within = search rules;
  added = λ code lengths class threads groups p v at e.
      let a = c.args in
      let some-failed = c.some_failed-f in
      let is-meant = c.is_meant in
      let f : failing sc p v ≡ some-failed.result = sym (some-failed.ensures ∙ fails_by_lem at.holds) in
      let w = at.schedule in
      adds_one 24 (failing sc p) a.a.room _ v a.out.now c.put_row.new.out a.a.rows
      (behind_end a.a.failures p a.x.now.steps v some-failed.result e f (sym is-meant.ensures ∙ c.if-not-is_meant.false))
      c.if-a-rows.false (c.put_row.ensures ∙ rw (w, f));
}
