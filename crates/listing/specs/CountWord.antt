-- What count says, as the code answers it: how many are listed and how many of these fail, or the refusal.
use Rattle.std.specs.Prelude.{Result, Ok, Err}
use Rattle.spec_file.specs.declared.refusal.Refusal.{Refusal}
use Rattle.spec_model.specs.OnFile.{Count, counted, refused_count}
use Rattle.states_memory.specs.declared.tally.Tally.{Tally}

unfoldable pub count_answer_of : Count → Result Tally Refusal
count_answer_of (counted c) = Ok (record { listed = c.listed; failing = c.failed })
count_answer_of (refused_count n k) = Err (record { number = n; place = k })
