-- `allowed` asks for the read, then for the write.
use Rattle.std.proofs.Common.{◌∙◌, sym, eq-eqb, ne_eqb}
use Rattle.judge_next.proofs.AllowedSteps.{fits_by}
use Rattle.judge_next.proofs.allowing.allowed.Goals as goal

pub returns-then-note-eq0 : goal.returns-then-note-eq0
returns-then-note-eq0 c =
    let a = c.args in
    let zero = eq-eqb _ _ c.if-note-eq0.true in
    λ g place σ t D Q ok h b mark. zero ∙ sym (fits_by a.pairs a.places a.threads a.m a.made g place σ t a.note D Q ok h b c.requires.1 c.requires.2 mark
    ∙ rw (sym c.read_allowed.ensures ∙ c.if-read_allowed.true, zero))

pub returns-then-write_allowed : goal.returns-then-write_allowed
returns-then-write_allowed c =
    let a = c.args in
    λ g place σ t D Q ok h b mark. c.none_waits.ensures g place σ D mark ∙ sym (fits_by a.pairs a.places a.threads a.m a.made g place σ t a.note D Q ok h b c.requires.1 c.requires.2 mark
    ∙ rw (sym c.read_allowed.ensures ∙ c.if-read_allowed.true, ne_eqb _ _ c.if-note-eq0.false, sym c.write_allowed.ensures ∙ c.if-write_allowed.true))

pub returns-else-write_allowed : goal.returns-else-write_allowed
returns-else-write_allowed c =
    let a = c.args in
    λ g place σ t D Q ok h b mark. c.if-write_allowed.false ∙ sym (fits_by a.pairs a.places a.threads a.m a.made g place σ t a.note D Q ok h b c.requires.1 c.requires.2 mark
    ∙ rw (sym c.read_allowed.ensures ∙ c.if-read_allowed.true, ne_eqb _ _ c.if-note-eq0.false, sym c.write_allowed.ensures ∙ c.if-write_allowed.false))

pub returns-else-read_allowed : goal.returns-else-read_allowed
returns-else-read_allowed c =
    let a = c.args in
    λ g place σ t D Q ok h b mark. c.if-read_allowed.false ∙ sym (fits_by a.pairs a.places a.threads a.m a.made g place σ t a.note D Q ok h b c.requires.1 c.requires.2 mark
    ∙ rw (sym c.read_allowed.ensures ∙ c.if-read_allowed.false))
