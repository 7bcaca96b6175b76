-- `tarczolin_check` says what the decoder answers.
use Rattle.std.proofs.Common.{◌∙◌, ap, sym}
use Rattle.spec_calls.specs.Word.{word_of}
use Rattle.c_graph.proofs.Checked.{checked_accepted, checked_refused}
use Rattle.c_graph.proofs.check.tarczolin_check.Goals as goal

pub returns-in-Ok : goal.returns-in-Ok
returns-in-Ok c = c.answered.ensures ∙ ap word_of (sym (checked_accepted c.decode.result _ c.decode.ensures _ c.in-Ok.is))

pub returns-in-Err : goal.returns-in-Err
returns-in-Err c = c.refused.ensures ∙ ap word_of (sym (checked_refused c.decode.result _ c.decode.ensures _ c.in-Err.is))
