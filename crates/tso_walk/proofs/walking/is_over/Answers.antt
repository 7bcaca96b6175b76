-- `is_over` asks both sets.
use Rattle.std.proofs.Common.{ℕ, ◌≡◌, refl, sym, ap, ◌∙◌, Bool, true, false, eqb, eqb-true, ne_eqb}
use borrow.Author.Tests.{eqb-false}
use Rattle.spec_schedules.specs.System.{ended}
use Rattle.spec_tso.specs.State.{TSO, State, access, move, enabled}
use Rattle.spec_tso.specs.Graph.{end_of}
use Rattle.theory_tso.specs.LateBytes.{bytes_of}
use Rattle.tso_order.specs.declared.sets.Sets.{Sets}
use Rattle.tso_walk.proofs.ReachedEnd.{ended_sets, going_set}
use Rattle.tso_walk.proofs.walking.is_over.Goals as goal

-- who may move tells, where nobody may access
by-moving : (σ : State) (moving : ℕ) → moving ≡ bytes_of (enabled σ) move → bytes_of (enabled σ) access ≡ 0 → eqb moving 0 ≡ ended TSO σ
by-moving σ moving e a = go (eqb moving 0) refl
  where
    go : (b : Bool) → eqb moving 0 ≡ b → b ≡ ended TSO σ
    go true q = sym (ended_sets σ a (sym e ∙ eqb-true moving 0 q))
    go false q = sym (going_set σ move (λ z. eqb-false moving 0 q (e ∙ z)))

pub returns-then-s-eq0 : goal.returns-then-s-eq0
returns-then-s-eq0 c code lengths class threads groups x p v at es =
    let s = c.args.s in
    by-moving (end_of p v) s.moving (ap (λ (k : Sets). k.moving) (sym es) ∙ at.sets.moving) (sym at.sets.live ∙ ap (λ (k : Sets). k.live) es ∙ c.if-s-eq0.true)

pub returns-else-s-eq0 : goal.returns-else-s-eq0
returns-else-s-eq0 c code lengths class threads groups x p v at es =
    ne_eqb _ _ c.if-s-eq0.false ∙ sym (going_set (end_of p v) access (λ z. c.if-s-eq0.false (ap (λ (k : Sets). k.live) (sym es) ∙ at.sets.live ∙ z)))
