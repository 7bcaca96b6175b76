-- `refusal` asks for 31, 32 and 33 in this order.
use Rattle.std.proofs.Common.{◌∙◌, sym, ap, arith}
use Rattle.file_lines.specs.Numbers.{unless_zero}
use Rattle.spec_file.specs.Frame.{pairs}
use Rattle.graph_reader.proofs.HeldRefusal.{refused_kind, refused_range, refused_early, passes_read, by_writes}
use Rattle.graph_reader.proofs.Ranks.{is_read_lem, not_read, events_six}
use Rattle.spec_judge.proofs.LineRanges.{write_shape, write_range}
use Rattle.graph_reader.proofs.refusal.refusal.Goals.{then-b-eq64-via-then-b-eq64, then-b-eq64-via-else-b-eq64+then-all_new}
use Rattle.graph_reader.proofs.refusal.refusal.Goals as goal

pub returns-then-not-known : goal.returns-then-not-known
returns-then-not-known c =
    λ r held. ap unless_zero (sym (refused_kind c.args.n (pairs c.args.line.now) c.args.s r held (sym c.known.ensures ∙ c.if-not-known.true)))

pub returns-then-not-in_range : goal.returns-then-not-in_range
returns-then-not-in_range c =
    let known = sym c.known.ensures ∙ c.if-not-known.false in
    λ r held. ap unless_zero (sym (refused_range c.args.n (pairs c.args.line.now) c.args.s r held known (sym c.in_range.ensures ∙ c.if-not-in_range.true)))

pub returns-then-k-s : goal.returns-then-k-s
returns-then-k-s c =
    let known = sym c.known.ensures ∙ c.if-not-known.false in
    let range = sym c.in_range.ensures ∙ c.if-not-in_range.false in
    λ r held. ap unless_zero (sym (refused_early c.args.n (pairs c.args.line.now) c.args.s r held known range c.rank-k.result c.rank-k.ensures c.if-k-s.true))

pub all_new-requires : goal.all_new-requires
all_new-requires c =
    let f = pairs c.args.line.now in
    let known = sym c.known.ensures ∙ c.if-not-known.false in
    let kind = not_read f c.field-b.result c.field-b.ensures.same c.if-b-eq64.false in
    let range = write_range c.args.n c.requires.1 f known (sym c.in_range.ensures ∙ c.if-not-in_range.false) kind in
    (c.requires.0, omega (arith, c.requires.0, (write_shape f known kind).2), events_six c.args.n c.requires.1 _ range.2)

pub returns-then-b-eq64 : goal.returns-then-b-eq64
returns-then-b-eq64 c =
    let f = pairs c.args.line.now in
    let known = sym c.known.ensures ∙ c.if-not-known.false in
    let range = sym c.in_range.ensures ∙ c.if-not-in_range.false in
    λ r held. ap unless_zero {x = 0} (sym (elim c.then-b-eq64.branch [
      | then-b-eq64-via-then-b-eq64 w ↦
          passes_read c.args.n f c.args.s r held known range c.rank-k.result c.rank-k.ensures c.if-k-s.false (is_read_lem f c.field-b.result c.field-b.ensures.same w.if-b-eq64.true)
      | then-b-eq64-via-else-b-eq64+then-all_new w ↦
          by_writes c.args.n f c.args.s r held known range c.rank-k.result c.rank-k.ensures c.if-k-s.false
          (not_read f c.field-b.result c.field-b.ensures.same w.if-b-eq64.false) w.all_new.result (w.all_new.ensures _ held.seen) ∙ rw w.if-all_new.true
    ]))

pub returns : goal.returns
returns c =
    let f = pairs c.args.line.now in
    let known = sym c.known.ensures ∙ c.if-not-known.false in
    let range = sym c.in_range.ensures ∙ c.if-not-in_range.false in
    let kind = not_read f c.field-b.result c.field-b.ensures.same c.if-b-eq64.false in
    λ r held. ap unless_zero {x = 33} (sym (by_writes c.args.n f c.args.s r held known range c.rank-k.result c.rank-k.ensures c.if-k-s.false kind
    c.all_new.result (c.all_new.ensures _ held.seen) ∙ rw c.if-all_new.false))
