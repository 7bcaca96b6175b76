use Rattle.std.proofs.Common.{rules, eq-eqb, ne_eqb, ℕ, ◌≡◌, sym, ap, ◌∙◌, false, ◌&&◌, arith, eqb, get_or}
use Rattle.machine.proofs.HeldAsking.{one_more}
use Rattle.search_rules.proofs.HeldTwins.{alone_held, words_none, words_some}
use Rattle.search_rules.proofs.standing.has_same_word.Goals.{else-class-u-via-then-class-u+else-words-u, else-class-u-via-else-class-u}
use Rattle.search_rules.proofs.standing.has_same_word.Goals as goal

pub returns-then-g-eq0 : goal.returns-then-g-eq0
returns-then-g-eq0 c =
    let a = c.args in
    λ groups p lines. sym (alone_held a.class.now a.words.now groups p lines a.t c.requires.0 a.end c.requires.1
    (ap (λ (i : ℕ). get_or a.class.now i 0) (sym c.wide-own.ensures.same) ∙ c.if-g-eq0.true))

pub loop-u-init : goal.loop-u-init
loop-u-init c = (search rules, λ k h. absurd (omega arith))

pub returns-then-words-u : goal.returns-then-words-u
returns-then-words-u c =
    let a = c.args in
    let wide = c.wide-own in
    let wide2 = c.wide-last in
    λ groups p lines. words_some a.class.now a.words.now groups p lines a.t c.requires.0 a.end c.requires.1 wide.result wide2.result wide.ensures.same wide2.ensures.same
    c.if-g-eq0.false c.loop-u.u c.loop-u-test.true
    (rw (eq-eqb _ _ c.if-class-u.true) (eq-eqb _ _ c.if-words-u.true))

pub loop-u-preserved : goal.loop-u-preserved
loop-u-preserved c = (
  search rules,
  let a = c.args in
      let own = c.wide-own.result in
      let loop = c.loop-u in
      one_more (λ (k : ℕ). (eqb (get_or a.class.now k 0) (get_or a.class.now own 0) && eqb (get_or a.words.now k 0) (get_or a.words.now own 0)) ≡ false)
      loop.u loop.invariant.1 (elim c.else-class-u.branch [
        | else-class-u-via-then-class-u+else-words-u w ↦ rw (eq-eqb _ _ w.if-class-u.true) (ne_eqb _ _ w.if-words-u.false)
        | else-class-u-via-else-class-u w ↦ rw (ne_eqb _ _ w.if-class-u.false)
      ]),
)

pub returns : goal.returns
returns c =
    let a = c.args in
    let wide = c.wide-own in
    let wide2 = c.wide-last in
    λ groups p lines. words_none a.class.now a.words.now groups p lines a.t c.requires.0 a.end c.requires.1 wide.result wide2.result wide.ensures.same wide2.ensures.same
    c.if-g-eq0.false
    (λ k h. c.loop-u.invariant.1 k (omega (arith, h, c.loop-u-test.false)))
