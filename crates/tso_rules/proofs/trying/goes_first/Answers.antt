-- Where it may, whether it has a smaller twin decides.
use Rattle.std.proofs.Common.{ap₂, Bool, not, ◌&&◌}
use Rattle.tso_rules.proofs.trying.goes_first.Goals as goal

pub returns-then-is_free : goal.returns-then-is_free
returns-then-is_free c = λ groups p lines. ap₂ (λ (x y : Bool). x && not y) c.if-is_free.ensures (c.has_same_word.ensures groups p lines)
