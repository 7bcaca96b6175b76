-- `has_smaller_twin` asks for a smaller thread with t's word.
use Rattle.std.proofs.Common.{ℕ, sym, ap, ◌∙◌, List}
use Rattle.spec_schedules.specs.Lists.{range, any}
use Rattle.theory_sc.specs.ThreadWords.{twin_by_word}
use Rattle.search_rules.proofs.HeldTwins.{twins_held}
use Rattle.search_rules.proofs.standing.has_smaller_twin.Goals as goal

pub returns : goal.returns
returns c =
    let a = c.args in
    λ code lengths threads groups x p v r ew.
    c.has_same_word.ensures groups p r.lines ∙ ap (λ (ws : List ℕ). any (twin_by_word p ws a.t) (range 0 a.t)) (sym ew)
    ∙ twins_held code lengths a.class.now threads groups x p v r a.t c.requires
