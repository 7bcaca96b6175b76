-- `counted` counts from the start, with a table that says nothing.
use Rattle.std.proofs.Common.{ℕ, ap, ◌∙◌, [], length, replicate}
use lib.ListN.{length-replicate}
use Rattle.machine.proofs.HeldAsking.{fails_by_lem}
use Rattle.file_decoder.specs.Compiled.{program_of}
use Rattle.spec_tso.specs.State.{fails}
use Rattle.tso_states.proofs.FromStart.{numbered_none, start_count}
use Rattle.tso_states.proofs.answering.counted.Goals as goal

pub behind-n-requires : goal.behind-n-requires
behind-n-requires c =
    let program = c.args.program in
    let m = c.made-m.ensures in
    (record { threads = program.threads; groups = program.groups; program = program_of program; prefix = []; stands = m.stands; wide = m.wide }, m.left, m.live, m.few)

pub returns : goal.returns
unfolding fails
returns c =
    let program = c.args.program in
    let p = program_of program in
    let m = c.made-m.ensures in
    let behind = c.behind-n in
    let r = behind.ensures.numbers (record { threads = program.threads; groups = program.groups; program = p; prefix = []; stands = m.stands; wide = m.wide }) (numbered_none p c.made-m.result.width c.slots.result _ c.clear.ensures.nothing) in record { numbers = start_count p c.requires c.some_failed.result (c.some_failed.ensures ∙ fails_by_lem m.stands.reached.holds.core) behind.result.listed behind.result.failing _ _ r.0 c.charged.ensures.0 c.charged.ensures.1; zeros = c.clear-2.ensures.zeros ∙ ap (λ (n : ℕ). replicate n 0) (behind.ensures.words ∙ ap length c.clear.ensures.zeros ∙ length-replicate {A = ℕ} (length c.args.table.now) 0) }
