-- `is_farther` makes one test after the other; the last is a smaller thread with the same word.
use Rattle.std.proofs.Common.{◌+◌, ◌≡◌, sym, ◌∙◌, Bool, true, false, not, ◌&&◌, ◌||◌, eqb, ltb}
use Rattle.std.proofs.lemmas.Bool.{false≢true}
use Rattle.spec_schedules.specs.Sets.{has}
use Rattle.theory_sc.specs.ThreadWords.{twin_by_word}
use Rattle.tso_order.proofs.Choices.{any_cut}
use Rattle.tso_place.proofs.choosing.is_farther.Goals.{then-is_in, else-is_in}
use Rattle.tso_place.proofs.choosing.is_farther.Goals as goal

last : (m n w h r : Bool) → m ≡ true → n ≡ true → h ≡ false → r ≡ w → r ≡ (m && (n && (w || h)))
last m n true h r em en eh e = e ∙ sym (rw (em, en))
last m n false h r em en eh e = e ∙ sym (rw (em, en, eh))

pub returns-else-is_in-2 : goal.returns-else-is_in-2
returns-else-is_in-2 c =
    let a = c.args in
    let k = c.moves_below in
    elim c.if-is_in.branch [
      | then-is_in w ↦ record {
        says = λ groups p lines. last (has a.may a.t) (not (eqb a.b (a.t + 16))) _ (has a.before a.t) _ (sym w.if-is_in.ensures) (sym w.value-is ∙ c.if-b-t.true) (sym c.if-is_in-2.ensures)
            (c.has_same_word.ensures groups p lines ∙ sym (any_cut (twin_by_word p a.words.now a.t) (λ u. ltb (u + 16) a.b) k.result a.t k.ensures.0 k.ensures.1 k.ensures.2));
      }
      | else-is_in w ↦ absurd (false≢true (sym w.if-is_in.false ∙ sym w.value-is ∙ c.if-b-t.true))
    ]
