-- `meets` asks the sets of what is left.
use Rattle.std.proofs.Common.{ℕ, sym, ap, ◌∙◌, get_or}
use Rattle.spec_schedules.specs.Sets.{has}
use Rattle.search_rules.proofs.WhatIsLeft.{meets_ended, meets_write, meets_not, meets_read}
use Rattle.search_rules.proofs.sleeping.meets.Goals as goal

pub returns-then-lengths-u : goal.returns-then-lengths-u
returns-then-lengths-u c = let a = c.args in λ code left. meets_ended code a.u (get_or a.lengths.now a.u 0) (get_or a.at.now a.u 0) a.l a.w c.if-lengths-u.true

pub returns-then-is_in : goal.returns-then-is_in
returns-then-is_in c =
    let a = c.args in
    λ code left. let s = c.requires.1 a.u c.requires.0 c.if-lengths-u.false in
    let w = left.writes a.u (get_or a.at.now a.u 0) c.requires.0 c.if-lengths-u.false s in
    c.if-is_in.true ∙ meets_write _ _ a.l a.w (ap (λ (k : ℕ). has k a.l) (sym w) ∙ sym c.is_in.ensures ∙ c.if-is_in.true)

pub returns-then-w : goal.returns-then-w
returns-then-w c =
    let a = c.args in
    λ code left. let s = c.requires.1 a.u c.requires.0 c.if-lengths-u.false in
    let w = left.writes a.u (get_or a.at.now a.u 0) c.requires.0 c.if-lengths-u.false s in
    let r = left.reads a.u (get_or a.at.now a.u 0) c.requires.0 c.if-lengths-u.false s in
    c.is_in-then-w.ensures ∙ ap (λ (k : ℕ). has k a.l) r ∙ meets_read _ _ a.l a.w (ap (λ (k : ℕ). has k a.l) (sym w) ∙ sym c.is_in.ensures ∙ c.if-is_in.false) c.if-w.true

pub returns-else-w : goal.returns-else-w
returns-else-w c =
    let a = c.args in
    λ code left. let s = c.requires.1 a.u c.requires.0 c.if-lengths-u.false in
    let w = left.writes a.u (get_or a.at.now a.u 0) c.requires.0 c.if-lengths-u.false s in
    c.if-w.false ∙ meets_not _ _ a.l a.w (ap (λ (k : ℕ). has k a.l) (sym w) ∙ sym c.is_in.ensures ∙ c.if-is_in.false) c.if-w.false
