-- `at_end` writes the schedule's row, if it is looked for.
use Rattle.std.proofs.Common.{rules, ◌≡◌, sym, ◌∙◌, arith, length, length-take, length-take-le}
use Rattle.machine.proofs.HeldAsking.{fails_by_lem}
use Rattle.spec_model.specs.Model.{failing}
use Rattle.spec_tso.specs.State.{fails}
use Rattle.spec_tso.specs.TotalStoreOrder.{tso}
use Rattle.spec_calls.specs.Rows.{row_of}
use Rattle.listing_cursor.proofs.AddedRows.{adds_none, adds_full, adds_one}
use Rattle.theory_search.proofs.Searching.{behind_end, behind_passed}
use Rattle.theory_tso.specs.Search.{given_up}
use Rattle.tso_walk.proofs.ending.at_end.Goals as goal

pub returns-then-a-rows : goal.returns-then-a-rows
returns-then-a-rows c =
    let a = c.args in
    record { within = c.requires.1; added = λ code lengths class threads groups p v at e. adds_full 48 (failing tso p) a.a.room _ a.out.now a.a.rows c.if-a-rows.true }

pub returns-then-not-is_meant : goal.returns-then-not-is_meant
unfolding fails
returns-then-not-is_meant c =
    let a = c.args in record {
      within = c.requires.1;
      added = λ code lengths class threads groups p v at e.
          let f : failing tso p v ≡ c.fails-f.result = sym (c.fails-f.ensures ∙ fails_by_lem at.holds.core) in
          adds_none 48 (failing tso p) a.a.room _ a.out.now a.a.rows
          (behind_passed tso given_up a.a.failures p a.x.now.steps v c.fails-f.result e f (sym c.is_meant.ensures ∙ c.if-not-is_meant.true));
    }

pub slice_bounds-put_row-end-2 : goal.slice_bounds-put_row-end-2
slice_bounds-put_row-end-2 c =
    let s : length c.args.x.now.schedule ≡ 32 = search rules in
    sym (length-take-le _ _ (omega (arith, s, c.requires.0)))

pub put_row-requires : goal.put_row-requires
put_row-requires c =
    let x = c.args.x.now in
    let s : length c.args.x.now.schedule ≡ 32 = search rules in
    (omega (arith, length-take x.steps x.schedule, s), omega arith, search rules)

pub returns : goal.returns
unfolding fails row_of
returns c = record {
  within = search rules;
  added = λ code lengths class threads groups p v at e.
      let a = c.args in
      let failed = c.fails-f in
      let f : failing tso p v ≡ failed.result = sym (failed.ensures ∙ fails_by_lem at.holds.core) in
      let w = at.schedule in
      adds_one 48 (failing tso p) a.a.room _ v a.out.now c.put_row.new.out a.a.rows
      (behind_end tso given_up a.a.failures p a.x.now.steps v failed.result e f (sym c.is_meant.ensures ∙ c.if-not-is_meant.false))
      c.if-a-rows.false (c.put_row.ensures ∙ rw (w, f));
}
