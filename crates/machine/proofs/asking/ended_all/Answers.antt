-- The library's all, of the six numbers.
use Rattle.std.proofs.Common.{rules, ℕ, ◌∙◌, not, refl}
use borrow.Author.Tests.{tests}
use Rattle.std.proofs.lemmas.Iterator.{YieldsList-from_range}
use Rattle.std.proofs.lemmas.Iterator.Search.{all_from_yields_List}
use Rattle.machine.specs.Asked.{enabled_by}
use Rattle.machine.proofs.HeldAsking.{ended_listed}
use Rattle.machine.proofs.asking.ended_all.Goals as goal

pub returns : goal.returns
returns c =
    all_from_yields_List (λ (t : ℕ). not (enabled_by c.args.lengths.now c.args.m t)) _ _ _ c.all.ensures.ran (YieldsList-from_range 0 6 6 (cc) refl) (λ x b q k. search (rules, tests))
    ∙ ended_listed c.args.lengths.now c.args.m
