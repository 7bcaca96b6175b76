-- `is_tried` by the sorts of bytes.
use Rattle.std.proofs.Common.{◌+◌, ◌-◌, ◌≡◌, ap, ◌∙◌, arith}
use Rattle.spec_tso.specs.Graph.{end_of}
use Rattle.tso_rules.specs.Tried.{tried}
use Rattle.tso_rules.proofs.Tried.{not_enabled, nobody, low_nobody, high_nobody, access_free, move_free}
use Rattle.tso_rules.proofs.trying.is_tried.Goals as goal

pub returns-in-0-to-5 : goal.returns-in-0-to-5
returns-in-0-to-5 c =
    let a = c.args in
    λ code lengths threads groups x p v r ew es. c.goes_first.ensures groups p r.lines ∙ access_free code lengths a.class.now threads groups x p v r a.b (omega arith) a.s es a.words.now ew

pub returns-in-16-to-21 : goal.returns-in-16-to-21
returns-in-16-to-21 c =
    let a = c.args in
    let e : a.b - 16 + 16 ≡ a.b = omega arith in
    λ code lengths threads groups x p v r ew es. c.goes_first-in-16-to-21.ensures groups p r.lines
    ∙ move_free code lengths a.class.now threads groups x p v r (a.b - 16) (omega arith) a.s es a.words.now ew ∙ ap (tried p v) e

pub returns-in_default : goal.returns-in_default
returns-in_default c = λ code lengths threads groups x p v r ew es. not_enabled p v c.args.b (nobody (end_of p v) c.args.b (low_nobody c.args.b (omega arith) (omega arith)))

pub returns-in_default-2 : goal.returns-in_default-2
returns-in_default-2 c = λ code lengths threads groups x p v r ew es. not_enabled p v c.args.b (nobody (end_of p v) c.args.b (high_nobody c.args.b (omega arith)))
