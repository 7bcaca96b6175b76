-- `first_new` seeks from the start.
use Rattle.std.proofs.Common.{ℕ, ◌≤◌, sym, subst, ◌∙◌, take}
use Rattle.file_decoder.specs.Compiled.{program_of}
use Rattle.theory_tso_outcomes.proofs.Passing.{passing_first}
use Rattle.states_outcomes.specs.Rows.{is_new}
use Rattle.tso_outcomes.proofs.FromStart.{from_start}
use Rattle.tso_outcomes.proofs.first.first_new.Goals as goal

pub new_behind-requires : goal.new_behind-requires
new_behind-requires c =
    let a = c.args in
    let pre = c.requires in
    (from_start a.program a.m pre.1 a.frame.width pre.2, pre.1.left, pre.1.live, subst (λ (i : ℕ). i ≤ 27) (sym pre.2) pre.1.few, pre.3, pre.4)

pub returns : goal.returns
returns c =
    let a = c.args in
    let pre = c.requires in
    let behind = c.new_behind in record {
      words = behind.ensures.words;
      first = λ marks.
          let r = behind.ensures.first (from_start a.program a.m pre.1 a.frame.width pre.2) marks in
          (r.0 ∙ passing_first (program_of a.program) pre.0 (is_new (take a.frame.cut a.lent.now) a.frame.known) a.m.spot.place.steps pre.1.stands.reached.counted, r.1);
    }
