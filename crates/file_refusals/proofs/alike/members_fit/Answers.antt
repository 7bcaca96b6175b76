use Rattle.std.proofs.Common.{rules, ◌∙◌, sym, arith, le-ltb, lt-ltb}
use Rattle.spec_file.specs.Frame.{pairs}
use Rattle.file_refusals.proofs.HeldMembers.{free_below, members_start, followers_more, followers_none}
use Rattle.file_refusals.proofs.alike.members_fit.Goals.{then-not-is_free-2-via-then-not-is_free-2, then-not-is_free-2-via-else-not-is_free-2+then-u-t, then-not-is_free-2-via-else-not-is_free-2+else-u-t+then-not-same_code}
use Rattle.file_refusals.proofs.alike.members_fit.Goals as goal

pub returns-then-not-is_free : goal.returns-then-not-is_free
returns-then-not-is_free c =
    λ r held. sym (members_start c.args.code.now c.args.s r c.requires.0 held (pairs c.args.line.now) c.field-t.result (omega arith) c.field-t.ensures.same ∙ rw (sym c.is_free.ensures ∙ c.if-not-is_free.true))

pub loop-j-init : goal.loop-j-init
loop-j-init c = (
  free_below c.args.s _ (sym c.is_free.ensures ∙ c.if-not-is_free.false),
  search rules,
  search rules,
  λ r held. members_start
      c.args.code.now c.args.s r c.requires.0 held (pairs c.args.line.now) c.field-t.result (omega arith) c.field-t.ensures.same ∙ rw (sym c.is_free.ensures ∙ c.if-not-is_free.false),
)

pub returns-then-not-is_free-2 : goal.returns-then-not-is_free-2
returns-then-not-is_free-2 c =
    λ r held. sym (c.loop-j.invariant.3 r held ∙ followers_more c.args.code.now c.args.s r c.requires.0 held (pairs c.args.line.now)
    c.loop-j.t c.loop-j.j c.field-u.result (omega arith) c.field-u.ensures.same ∙ rw (sym c.is_free-in-loop-j.ensures) (elim c.then-not-is_free-2.branch [
      | then-not-is_free-2-via-then-not-is_free-2 w ↦ rw w.if-not-is_free-2.true
      | then-not-is_free-2-via-else-not-is_free-2+then-u-t w ↦ rw (w.if-not-is_free-2.false, le-ltb _ _ w.if-u-t.true)
      | then-not-is_free-2-via-else-not-is_free-2+else-u-t+then-not-same_code w ↦
          rw (w.if-not-is_free-2.false, lt-ltb _ _ w.if-u-t.false, sym w.same_code.ensures ∙ w.if-not-same_code.true)
    ]))

pub loop-j-preserved : goal.loop-j-preserved
loop-j-preserved c = (
  free_below c.args.s _ (sym c.is_free-in-loop-j.ensures ∙ c.if-not-is_free-2.false),
  search rules,
  search rules,
  λ r held. c.loop-j.invariant.3 r held ∙ followers_more c.args.code.now c.args.s r c.requires.0 held (pairs c.args.line.now)
      c.loop-j.t c.loop-j.j c.field-u.result (omega arith) c.field-u.ensures.same ∙ rw (
        sym c.is_free-in-loop-j.ensures ∙ c.if-not-is_free-2.false,
        lt-ltb _ _ c.if-u-t.false,
        sym c.same_code.ensures ∙ c.if-not-same_code.false,
      ),
)

pub returns : goal.returns
returns c =
    λ r held. sym (c.loop-j.invariant.3 r held ∙ followers_none c.args.code.now c.args.s r c.requires.0 held (pairs c.args.line.now) c.loop-j.t c.loop-j.j (omega arith))
