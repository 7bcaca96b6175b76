-- `finished` answers 7 or the program.
use Rattle.std.proofs.Common.{◌∙◌, sym, ap, arith}
use Rattle.spec_file.specs.Decode.{accepted}
use Rattle.file_decoder.specs.Compiled.{answer_of}
use Rattle.file_refusals.proofs.HeldCode.{held_short}
use Rattle.file_decoder.proofs.HeldFinish.{held_threads, finish_far, finish_program}
use Rattle.file_decoder.proofs.HeldProgram.{program_held}
use Rattle.file_decoder.proofs.file.finished.Goals as goal

pub far_skip-requires : goal.far_skip-requires
far_skip-requires c = (c.requires.six, c.requires.sixteen)

pub returns-in-Some : goal.returns-in-Some
unfolding answer_of
returns-in-Some c =
    λ r held lined numbered grouped. sym (finish_far r c.in-Some.place (sym c.in-Some.is ∙ c.far_skip.ensures _ (held_threads c.args.code
    c.args.rows c.args.s r c.requires held lined numbered)))

pub returns : goal.returns
unfolding answer_of
returns c =
    λ r held lined numbered grouped. ap accepted (program_held c.args.code c.args.s r held (omega (arith, held.threads, c.requires.six))
    (held_short c.args.code c.args.s r c.requires held) grouped) ∙ sym (finish_program r (sym c.in_default.is ∙ c.far_skip.ensures _ (held_threads
    c.args.code c.args.rows c.args.s r c.requires held lined numbered)))
