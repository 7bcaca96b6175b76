-- `outcome_key` sets a bit of the key's first word where something failed.
use Rattle.std.proofs.Common.{ℕ, ap, ap₂, ◌∙◌, take, set}
use Rattle.theory_outcomes.specs.Outcomes.{flagged}
use Rattle.theory_outcomes.proofs.FlaggedKey.{flagged_front}
use Rattle.states_outcomes.proofs.flagging.outcome_key.Goals as goal

pub returns : goal.returns
returns c = λ code threads groups n p v at live fit most e.
    ap (λ (x : ℕ). take n (set c.key-k.result 0 x)) c.flag.ensures ∙ flagged_front _ n c.key-k.result
    ∙ ap₂ flagged e (c.key-k.ensures code threads groups n p v at live fit most)
