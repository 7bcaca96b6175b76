-- The library's any, of six threads.
use Rattle.std.proofs.Common.{rules, ◌∙◌}
use borrow.Author.Tests.{tests}
use Rattle.std.proofs.lemmas.Iterator.{YieldsList-from_slice}
use Rattle.std.proofs.lemmas.Iterator.Search.{any_from_yields_List}
use Rattle.machine_access.specs.declared.thread.ThreadState.{ThreadState}
use Rattle.machine.proofs.HeldAsking.{some_listed}
use Rattle.machine.proofs.asking.some_failed.Goals as goal

pub returns : goal.returns
returns c =
    any_from_yields_List (λ (k : ThreadState). k.failed) _ _ _ c.any.ensures.ran (YieldsList-from_slice c.args.threads cc) (λ x b q k. search (rules, tests))
    ∙ some_listed c.args.threads (search rules)
