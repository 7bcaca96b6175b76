-- `is_late_behind` asks one question after the other; the next access comes last.
use Rattle.std.proofs.Common.{ℕ, ◌+◌, ◌*◌, ◌≤◌, ◌<◌, ◌≡◌, ◌||◌, false, true, sym, ap, subst, ◌∙◌, get_or, ltb, le-ltb, lt-ltb}
use Rattle.spec_schedules.specs.Sets.{has}
use Rattle.search_place.specs.Steps.{action_of}
use Rattle.search_place.proofs.LateNow.{late_own, late_ended, late_behind_lem, late_unless}
use Rattle.search_place.proofs.lateness.is_late_behind.Goals.{then-a-u-via-then-a-u, then-a-u-via-else-a-u+then-program-t, else-a-u-2-via-then-a-u-2+else-not-is_in, else-a-u-2-via-else-a-u-2}
use Rattle.search_place.proofs.lateness.is_late_behind.Goals as goal

pub returns-then-a-u : goal.returns-then-a-u
returns-then-a-u c =
    let a = c.args in
    λ m σ held ek em. elim c.then-a-u.branch [
      | then-a-u-via-then-a-u w ↦ late_own a.program.now.code a.program.now.lengths m σ held a.u c.requires.0 a.late (action_of a.a) w.if-a-u.true
      | then-a-u-via-else-a-u+then-program-t w ↦ late_ended a.program.now.code a.program.now.lengths m σ held a.u c.requires.0 a.late (action_of a.a) a.k ek
          (subst (λ (i : ℕ). get_or a.program.now.lengths i 0 ≤ a.k.at) c.wide-t.ensures.same w.if-program-t.true)
    ]

pub returns-then-not-is_in : goal.returns-then-not-is_in
returns-then-not-is_in c =
    let a = c.args in
    let apart : (ltb a.u a.a.thread || has a.late a.u) ≡ false = rw (le-ltb _ _ c.if-a-u-2.true) (sym c.is_in.ensures ∙ c.if-not-is_in.true) in
    λ m σ held ek em. late_behind_lem a.program.now.code a.program.now.lengths m σ held a.u c.requires.0 a.late (action_of a.a) apart

pub returns : goal.returns
returns c =
    let a = c.args in
    let l : a.k.at < get_or a.program.now.lengths a.u 0 = subst (λ (i : ℕ). a.k.at < get_or a.program.now.lengths i 0) c.wide-t.ensures.same c.if-program-t.false in
    let before : (ltb a.u a.a.thread || has a.late a.u) ≡ true = elim c.else-a-u-2.branch [
      | else-a-u-2-via-then-a-u-2+else-not-is_in w ↦ rw (le-ltb _ _ w.if-a-u-2.true) (sym w.is_in.ensures ∙ w.if-not-is_in.false)
      | else-a-u-2-via-else-a-u-2 w ↦ rw (lt-ltb _ _ w.if-a-u-2.false)
    ] in
    λ m σ held ek em. late_unless a.program.now.code a.program.now.lengths m σ held a.u c.requires.0 a.late (action_of a.a) a.k a.memory ek em l c.if-a-u.false
    before (c.wide-t.result * 16 + a.k.at) (ap (λ (i : ℕ). i * 16 + a.k.at) c.wide-t.ensures.same) c.conflicts_at.result c.conflicts_at.ensures
