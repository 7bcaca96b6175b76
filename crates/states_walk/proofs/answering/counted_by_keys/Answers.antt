-- `counted_by_keys` counts from the start, with a table that says nothing.
use Rattle.std.proofs.Common.{ℕ, sym, ap, subst, ◌∙◌, [], arith, length}
use lib.ListN.{length-replicate}
use Rattle.machine.proofs.HeldAsking.{fails_by_lem}
use Rattle.file_decoder.specs.Compiled.{program_of}
use Rattle.theory_sc_key.specs.Key.{Wide}
use Rattle.states_walk.proofs.FromStart.{numbered_none, start_count}
use Rattle.states_walk.proofs.answering.counted_by_keys.Goals as goal

pub behind-n-requires : goal.behind-n-requires
behind-n-requires c =
    let program = c.args.program in
    let m = c.made-m.ensures in
    ((program.threads, program.groups, program_of program, [], m.stands), m.left, m.live, omega (arith, m.few, c.shape_of-shape.ensures))

pub returns : goal.returns
returns c =
    let program = c.args.program in
    let p = program_of program in
    let m = c.made-m.ensures in
    let shape = c.shape_of-shape in
    let behind = c.behind-n in record {
      words = behind.ensures.words ∙ ap length c.clear.ensures.zeros ∙ length-replicate {A = ℕ} (length c.args.table.now) 0;
      numbers = start_count p c.requires c.some_failed.result (c.some_failed.ensures ∙ fails_by_lem m.stands.reached.holds) behind.result.listed behind.result.failing _ _
          (behind.ensures.numbers program.threads program.groups p [] m.stands (subst (λ (n : ℕ). Wide n p) (sym shape.ensures) m.wide) (numbered_none p shape.result.width shape.result.slots _ c.clear.ensures.nothing)).0
          c.charged.ensures.0 c.charged.ensures.1;
    }
