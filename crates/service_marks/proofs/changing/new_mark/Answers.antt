-- `new_mark` goes by whether a full schedule was handed.
use Rattle.std.proofs.Common.{ℕ, ◌≡◌, ap, sym, refl, ◌∙◌, List, le_refl, length, take, replicate, take_all}
use Rattle.spec_file.specs.Over.{over}
use Rattle.file_decoder.specs.Compiled.{program_of}
use Rattle.spec_service.specs.Marks.{last_handed}
use Rattle.service_marks.proofs.Changed.{new_behind, new_first}
use Rattle.service_marks.proofs.changing.new_mark.Goals as goal

-- the whole name, over zeros
whole : (n : List ℕ) → over (take (length n) n) (replicate 8 0) ≡ over n (replicate 8 0)
whole n = ap (λ (t : List ℕ). over t (replicate 8 0)) (take_all (length n) n (le_refl (length n)))

pub returns-then-was_handed : goal.returns-then-was_handed
returns-then-was_handed c =
    let x = c.args in
    let n = x.name.now in
    new_behind n x.c.now _ _ (c.put_front.ensures ∙ whole n) refl (last_handed (program_of x.p.now) x.c.now) (sym c.was_handed.ensures ∙ c.if-was_handed.true)

pub returns : goal.returns
returns c =
    let x = c.args in
    let n = x.name.now in
    new_first n x.c.now _ _ (c.put_front.ensures ∙ whole n) refl (last_handed (program_of x.p.now) x.c.now) (sym c.was_handed.ensures ∙ c.if-was_handed.false) _ c.no_mark.ensures
