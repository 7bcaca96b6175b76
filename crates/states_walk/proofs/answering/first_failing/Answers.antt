-- `first_failing` seeks from the start, with a table that says nothing.
use Rattle.std.proofs.Common.{ℕ, sym, ap, subst, ◌∙◌, [], arith, length, replicate}
use lib.ListN.{length-replicate}
use Rattle.file_decoder.specs.Compiled.{program_of}
use Rattle.theory_sc_key.specs.Key.{Wide}
use Rattle.states_walk.proofs.FromStart.{marked_none, start_first}
use Rattle.states_walk.proofs.answering.first_failing.Goals as goal

pub first_behind-r-requires : goal.first_behind-r-requires
first_behind-r-requires c =
    let program = c.args.program in
    let m = c.made-m.ensures in
    ((program.threads, program.groups, program_of program, [], m.stands), m.left, m.live, omega (arith, m.few, c.shape_of-shape.ensures))

pub returns : goal.returns
returns c =
    let program = c.args.program in
    let p = program_of program in
    let m = c.made-m.ensures in
    let shape = c.shape_of-shape in
    let behind = c.first_behind-r in record {
      first = (
        behind.ensures.words.1,
        (behind.ensures.first program.threads program.groups p [] m.stands (subst (λ (n : ℕ). Wide n p) (sym shape.ensures) m.wide) (marked_none p shape.result.width shape.result.slots _ c.clear.ensures.nothing)).0
            ∙ start_first p c.requires c.made-m.result.spot.place.steps m.stands.reached.counted,
      );
      zeros = c.clear-2.ensures.zeros ∙ ap (λ (n : ℕ). replicate n 0) (behind.ensures.words.0 ∙ ap length c.clear.ensures.zeros ∙ length-replicate {A = ℕ} (length c.args.table.now) 0);
    }
