-- `kth` goes down from the start, with a table that says nothing.
use Rattle.std.proofs.Common.{ℕ, sym, ap, subst, ◌∙◌, [], arith, length, replicate}
use lib.ListN.{length-replicate}
use Rattle.file_decoder.specs.Compiled.{program_of}
use Rattle.theory_sc_key.specs.Key.{Wide}
use Rattle.states_walk.proofs.FromStart.{numbered_none}
use Rattle.states_member.proofs.FromStart.{start_kth}
use Rattle.states_member.proofs.numbering.kth.Goals as goal

pub kth_behind-r-requires : goal.kth_behind-r-requires
kth_behind-r-requires c =
    let program = c.args.program in
    let m = c.made-m.ensures in
    ((program.threads, program.groups, program_of program, [], m.stands), m.left, m.live, omega (arith, m.few, c.shape_of-shape.ensures))

pub returns : goal.returns
returns c =
    let a = c.args in
    let program = a.program in
    let p = program_of program in
    let made = c.made-m in
    let m = made.ensures in
    let shape = c.shape_of-shape in
    let behind = c.kth_behind-r in
    let cleared = c.clear in record {
      member = (
        behind.ensures.words.1,
        behind.ensures.member program.threads program.groups p [] m.stands (subst (λ (n : ℕ). Wide n p) (sym shape.ensures) m.wide) (numbered_none p shape.result.width shape.result.slots _ cleared.ensures.nothing)
            ∙ start_kth p c.requires made.result.spot.place.steps m.stands.reached.counted a.k,
      );
      zeros = c.clear-2.ensures.zeros ∙ ap (λ (n : ℕ). replicate n 0) (behind.ensures.words.0 ∙ ap length cleared.ensures.zeros ∙ length-replicate {A = ℕ} (length a.table.now) 0);
    }
