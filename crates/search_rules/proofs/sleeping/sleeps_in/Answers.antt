use Rattle.std.proofs.Common.{rules, ℕ, ◌-◌, ◌+◌, ◌≡◌, refl, sym, ap, ◌∙◌, not, ◌||◌, arith}
use Rattle.spec_schedules.specs.Lists.{range, all}
use Rattle.spec_sc.specs.State.{thread_of, place}
use Rattle.theory_search.specs.Ahead.{may_write}
use Rattle.spec_schedules.specs.Sets.{has}
use Rattle.theory_sc.specs.Sleepers.{wakes}
use Rattle.search_rules.proofs.WhatIsLeft.{quiet_held, all_over, all_further, all_fails, sleeps_out, sleeps_by}
use Rattle.search_rules.proofs.sleeping.sleeps_in.Goals as goal

pub returns-then-not-is_in : goal.returns-then-not-is_in
returns-then-not-is_in c = let a = c.args in λ σ rests left. sleeps_out σ a.set a.t (sym c.is_in.ensures ∙ c.if-not-is_in.true)

pub access_of-a-requires : goal.access_of-a-requires
access_of-a-requires c = (omega (arith, c.wide.ensures.same, c.requires.0), c.requires.1)

pub loop-u-init : goal.loop-u-init
loop-u-init c = (search rules, λ σ rests holds. refl)

pub is_quiet-requires : goal.is_quiet-requires
is_quiet-requires c = (c.loop-u-test.true, c.requires.1)

pub returns-then-not-is_quiet : goal.returns-then-not-is_quiet
returns-then-not-is_quiet c =
    let a = c.args in
    let u = c.loop-u.u in
    λ σ rests left.
    let s = c.access_of-a.ensures σ rests in
    let q = quiet_held a.program.now.code a.program.now.lengths a.at.now σ rests a.t c.requires.0 a.set u c.access_of-a.result.location c.access_of-a.result.writer c.loop-u-test.true
    (s.0 ∙ ap (place σ) c.wide.ensures.same) (s.1 ∙ ap (λ (i : ℕ). may_write (thread_of σ i).local) c.wide.ensures.same) in
    sleeps_by σ a.set a.t _ (sym c.is_in.ensures ∙ c.if-not-is_in.false)
    (c.loop-u.invariant.1 σ rests left ∙ all_fails (λ k. has a.set k || not (wakes σ a.t k)) u (6 - u) (omega (arith, c.loop-u-test.true)) (sym q ∙ sym (c.is_quiet.ensures a.program.now.code left) ∙ c.if-not-is_quiet.true))

pub loop-u-preserved : goal.loop-u-preserved
loop-u-preserved c =
    let a = c.args in
    let u = c.loop-u.u in (
      search rules,
      λ σ rests holds.
          let s = c.access_of-a.ensures σ rests in
          let q = quiet_held a.program.now.code a.program.now.lengths a.at.now σ rests a.t c.requires.0 a.set u c.access_of-a.result.location c.access_of-a.result.writer c.loop-u-test.true
          (s.0 ∙ ap (place σ) c.wide.ensures.same) (s.1 ∙ ap (λ (i : ℕ). may_write (thread_of σ i).local) c.wide.ensures.same) in
          let n : 6 - u - 1 ≡ 6 - (u + 1) = omega arith in
          c.loop-u.invariant.1 σ rests holds ∙ all_further (λ k. has a.set k || not (wakes σ a.t k)) u (6 - u) (omega (arith, c.loop-u-test.true)) (sym q ∙ sym (c.is_quiet.ensures a.program.now.code holds) ∙ c.if-not-is_quiet.false)
          ∙ ap (λ (j : ℕ). all (λ k. has a.set k || not (wakes σ a.t k)) (range (u + 1) j)) n,
    )

pub returns : goal.returns
returns c =
    let a = c.args in
    let u = c.loop-u.u in
    λ σ rests left. sleeps_by σ a.set a.t _ (sym c.is_in.ensures ∙ c.if-not-is_in.false)
    (c.loop-u.invariant.1 σ rests left ∙ all_over (λ k. has a.set k || not (wakes σ a.t k)) u (6 - u) (omega (arith, c.loop-u-test.false)))
