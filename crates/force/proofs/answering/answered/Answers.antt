-- `answered` goes by the counts where the set is empty and they are asked, and by the list where it has all threads.
use Rattle.spec_model.specs.Answers.{count_of}
use Rattle.spec_sc.specs.Sequential.{sc}
use Rattle.file_decoder.specs.Compiled.{program_of}
use Rattle.listing_cursor.specs.Steps.{found_of}
use Rattle.theory_game.specs.OneSide.{by_failing, by_counts}
use Rattle.theory_game.proofs.NoneHostile.{answer_counted}
use Rattle.force.proofs.FirstFailing.{all_owned, first_answers}
use Rattle.force.proofs.NoneHostile.{none_owned}
use Rattle.force.proofs.answering.answered.Goals as goal

pub returns-then-asks_counts-clause-answer : goal.returns-then-asks_counts-clause-answer
returns-then-asks_counts-clause-answer c =
    let p = program_of c.args.program in
    let n = c.counted.ensures.numbers in
    (by_counts (count_of sc p), answer_counted c.args.set p c.requires (none_owned c.args.set p c.if-set-eq0.true), c.by_counts.ensures (count_of sc p) n.0 n.1)

pub returns-then-owns_all-clause-answer : goal.returns-then-owns_all-clause-answer
returns-then-owns_all-clause-answer c =
    let first = c.first_failing in
    let all = all_owned c.args.set c.args.program c.requires (c.owns_all.ensures c.if-owns_all.true) in
    (by_failing (found_of first.result), first_answers first.result c.args.set (program_of c.args.program) c.requires all first.ensures.first.1, c.by_first.ensures)
