-- `first_failing` seeks from the start, with a table that says nothing.
use Rattle.std.proofs.Common.{ℕ, ap, ◌∙◌, [], length, replicate}
use lib.ListN.{length-replicate}
use Rattle.file_decoder.specs.Compiled.{program_of}
use Rattle.tso_states.proofs.FromStart.{marked_none, start_first}
use Rattle.tso_states.proofs.answering.first_failing.Goals as goal

pub first_behind-r-requires : goal.first_behind-r-requires
first_behind-r-requires c =
    let program = c.args.program in
    let m = c.made-m.ensures in
    (record { threads = program.threads; groups = program.groups; program = program_of program; prefix = []; stands = m.stands; wide = m.wide }, m.left, m.live, m.few)

pub returns : goal.returns
returns c =
    let program = c.args.program in
    let p = program_of program in
    let m = c.made-m.ensures in
    let behind = c.first_behind-r in
    let r = behind.ensures.first (record { threads = program.threads; groups = program.groups; program = p; prefix = []; stands = m.stands; wide = m.wide }) (marked_none p c.made-m.result.width c.slots.result _ c.clear.ensures.nothing) in record { first = (behind.ensures.words.1, r.0 ∙ start_first p c.requires c.made-m.result.spot.place.steps m.stands.reached.counted); zeros = c.clear-2.ensures.zeros ∙ ap (λ (n : ℕ). replicate n 0) (behind.ensures.words.0 ∙ ap length c.clear.ensures.zeros ∙ length-replicate {A = ℕ} (length c.args.table.now) 0) }
