-- `rank` goes along the schedule from the start, with a table that says nothing.
use Rattle.std.proofs.Common.{ℕ, ◌%◌, ◌^◌, sym, ap, subst, ◌∙◌, [], arith, length, replicate}
use lib.ListN.{length-replicate}
use Rattle.file_decoder.specs.Compiled.{program_of}
use Rattle.spec_schedules.specs.System.{FullFrom}
use Rattle.spec_schedules.proofs.Runs.{run_nil}
use Rattle.spec_sc.specs.State.{State, SC, start}
use Rattle.theory_sc_key.specs.Key.{Wide}
use Rattle.states_walk.proofs.FromStart.{numbered_none}
use Rattle.states_member.proofs.FromStart.{start_rank}
use Rattle.states_member.proofs.numbering.rank.Goals as goal

pub rank_behind-n-requires : goal.rank_behind-n-requires
rank_behind-n-requires c =
    let a = c.args in
    let program = a.program in
    let p = program_of program in
    let m = c.made-m.ensures in
    let full = subst (λ (τ : State). FullFrom SC τ a.schedule.now) (sym (run_nil SC (start p))) c.requires.1 in
    ((program.threads, program.groups, p, [], m.stands, full), m.left, m.live, omega (arith, m.few, c.shape_of-shape.ensures))

pub returns : goal.returns
returns c =
    let a = c.args in
    let program = a.program in
    let p = program_of program in
    let made = c.made-m in
    let m = made.ensures in
    let shape = c.shape_of-shape in
    let behind = c.rank_behind-n in
    let cleared = c.clear in
    let full = subst (λ (τ : State). FullFrom SC τ a.schedule.now) (sym (run_nil SC (start p))) c.requires.1 in record {
      number = behind.ensures.number program.threads program.groups p [] m.stands full (subst (λ (n : ℕ). Wide n p) (sym shape.ensures) m.wide) (numbered_none p shape.result.width shape.result.slots _ cleared.ensures.nothing)
          ∙ ap (λ (n : ℕ). n % 2 ^ 64) (start_rank p c.requires.0 made.result.spot.place.steps m.stands.reached.counted a.schedule.now);
      zeros = c.clear-2.ensures.zeros ∙ ap (λ (n : ℕ). replicate n 0) (behind.ensures.words ∙ ap length cleared.ensures.zeros ∙ length-replicate {A = ℕ} (length a.table.now) 0);
    }
