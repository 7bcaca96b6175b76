-- Every two bytes, two files and room have exactly one answer: what is found in the second's list is one, and every one is what is found.
use Prim.Native.Nat.{ℕ, zero, suc, ◌<◌, ◌≤◌}
use mathlib.Core.Path.{◌≡◌, refl, sym, ap, ap₂, subst, ◌∙◌}
use mathlib.Core.Logic.{◌↔◌}
use mathlib.Core.Bool.{cond}
use mathlib.Core.Option.{Option, none, some}
use mathlib.Core.List.{List}
use native.Mathlib.Omega.{arith}
use native.Mathlib.Decide.{dec_lt}
use lib.Dec.{ltb}
use borrow.Author.Tests.{lt-ltb, le-ltb}
use Rattle.spec_file.specs.Program.{Program}
use Rattle.spec_file.specs.Decode.{Decoded, accepted, refused, decode}
use Rattle.spec_schedules.specs.Order.{Schedule}
use Rattle.spec_model.specs.Laws.{Admitted, Laws}
use Rattle.spec_model.specs.OnFile.{admit}
use Rattle.spec_model.proofs.Admitted.{listed_program}
use Rattle.spec_sc.proofs.Laws.{sc_laws}
use Rattle.spec_tso.proofs.Laws.{tso_laws}
use Rattle.spec_covers.specs.Answer.{Answer, covered, lacking, first_refused, second_refused, output_refused}
use Rattle.spec_across.specs.Under.{CoversUnder}
use Rattle.spec_across.specs.ModelsCall.{model_named, Admits, ModelsCompared, by_model, by_other_model, by_first, by_second, by_output, covering, exceeding}
use Rattle.spec_across.proofs.AnswerBy.{answer_by, answer_against, answer_on, on_refused, on_accepted, against_refused, against_short, against_long}
use Rattle.spec_across.proofs.Attained.{first_lacking, none_covers, some_first, covers_none, first_some}

pub named_laws : (m : ℕ) → Laws (model_named m)
named_laws zero = sc_laws
named_laws (suc m) = tso_laws

module _ (m : ℕ) (first : List ℕ) (n : ℕ) (second : List ℕ) (room : ℕ) where
  abbrev C : Answer → Type 0
  C = ModelsCompared m first n second room

  unfoldable pub answer_of : Answer
  answer_of =
      cond (ltb m 2) (cond (ltb n 2) (answer_on 48 (model_named m) (model_named n) (admit (model_named m) (decode first)) (admit (model_named n) (decode second)) room) (output_refused 49 1))
      (output_refused 49 0)

  pub not_named : 2 ≤ m → answer_of ≡ output_refused 49 0
  unfolding answer_of
  not_named h = rw (le-ltb m 2 h)

  pub other_not_named : m < 2 → 2 ≤ n → answer_of ≡ output_refused 49 1
  unfolding answer_of
  other_not_named h k = rw (lt-ltb m 2 h, le-ltb n 2 k)

  abbrev D : Decoded
  D = admit (model_named m) (decode first)

  abbrev E : Decoded
  E = admit (model_named n) (decode second)

  pub both_named : m < 2 → n < 2 → answer_of ≡ answer_on 48 (model_named m) (model_named n) D E room
  unfolding answer_of
  both_named h k = rw (lt-ltb m 2 h, lt-ltb n 2 k)

  module _ (h : m < 2) (k : n < 2) where
    answer_first : (i j : ℕ) → D ≡ refused i j → answer_of ≡ first_refused i j
    answer_first i j e = both_named h k ∙ ap (λ (d : Decoded). answer_on 48 (model_named m) (model_named n) d E room) e ∙ on_refused 48 (model_named m) (model_named n) i j E room

    module _ (p : Program) (e : D ≡ accepted p) (d : Decoded) (f : E ≡ d) where
      read : answer_of ≡ answer_against 48 (model_named m) (model_named n) p d room
      read =
          both_named h k ∙ ap₂ (λ (x y : Decoded). answer_on 48 (model_named m) (model_named n) x y room) e f
          ∙ on_accepted 48 (model_named m) (model_named n) p room d

    answer_second : (p : Program) → D ≡ accepted p → (i j : ℕ) → E ≡ refused i j → answer_of ≡ second_refused i j
    answer_second p e i j f = read p e (refused i j) f ∙ against_refused 48 (model_named m) (model_named n) p room i j

  module _ (p q : Program) (a : Admits m first n second p q) where
    answer_short : room < 48 → answer_of ≡ output_refused 22 0
    answer_short h = read a.named a.named_too p a.one (accepted q) a.other ∙ against_short 48 (model_named m) (model_named n) p room q h

    answer_long : 48 ≤ room → answer_of ≡ answer_by (first_lacking (model_named m) p (model_named n) q)
    answer_long h = read a.named a.named_too p a.one (accepted q) a.other ∙ against_long 48 (model_named m) (model_named n) p room q h

    lists : Admitted (model_named m) p
    lists = listed_program (model_named m) (named_laws m) first p a.one

    lists_too : Admitted (model_named n) q
    lists_too = listed_program (model_named n) (named_laws n) second q a.other

    -- what is found is right
    pub found_right : 48 ≤ room → (o : Option Schedule) → first_lacking (model_named m) p (model_named n) q ≡ o → C (answer_by o)
    unfolding answer_by
    found_right h none e = covering p q a h (none_covers (model_named m) (named_laws m) p lists (model_named n) (named_laws n) q lists_too e)
    found_right h (some s) e = exceeding p q s a h (some_first (model_named m) (named_laws m) p lists (model_named n) (named_laws n) q lists_too s e)

    found_none : CoversUnder (model_named m) p (model_named n) q → first_lacking (model_named m) p (model_named n) q ≡ none
    found_none = covers_none (model_named m) (named_laws m) p lists (model_named n) (named_laws n) q lists_too

    right : Dec (room < 48) → C answer_of
    right (yes h) = subst C (sym (answer_short h)) (by_output p q a h)
    right (no h) =
        let enough : 48 ≤ room = omega (arith, h) in
        subst C (sym (answer_long enough)) (found_right enough (first_lacking (model_named m) p (model_named n) q) refl)

  right_second : (h : m < 2) (k : n < 2) (p : Program) → admit (model_named m) (decode first) ≡ accepted p → (d : Decoded) → admit (model_named n) (decode second) ≡ d → C answer_of
  right_second h k p e (accepted q) f = right p q (record { named = h; named_too = k; one = e; other = f }) (dec_lt room 48)
  right_second h k p e (refused i j) f = subst C (sym (answer_second h k p e i j f)) (by_second p i j h k e f)

  right_first : m < 2 → n < 2 → (d : Decoded) → admit (model_named m) (decode first) ≡ d → C answer_of
  right_first h k (accepted p) e = right_second h k p e (admit (model_named n) (decode second)) refl
  right_first h k (refused i j) e = subst C (sym (answer_first h k i j e)) (by_first i j h k e)

  pub models_right : C answer_of
  models_right = go (dec_lt m 2) (dec_lt n 2)
    where
      go : Dec (m < 2) → Dec (n < 2) → C answer_of
      go (no h) k = let e : 2 ≤ m = omega (arith, h) in subst C (sym (not_named e)) (by_model e)
      go (yes h) (no k) = let e : 2 ≤ n = omega (arith, k) in subst C (sym (other_not_named h e)) (by_other_model h e)
      go (yes h) (yes k) = right_first h k (admit (model_named m) (decode first)) refl

  -- every right answer is the one worked out
  answer_is : {a : Answer} → C a → answer_of ≡ a
  unfolding answer_by
  answer_is (by_model h) = not_named h
  answer_is (by_other_model h k) = other_not_named h k
  answer_is (by_first i j h k e) = answer_first h k i j e
  answer_is (by_second p i j h k e f) = answer_second h k p e i j f
  answer_is (by_output p q a h) = answer_short p q a h
  answer_is (covering p q a h c) = answer_long p q a h ∙ ap answer_by (found_none p q a c)
  answer_is (exceeding p q s a h f) =
      answer_long p q a h
      ∙ ap answer_by (first_some (model_named m) (named_laws m) p (lists p q a) (model_named n) (named_laws n) q (lists_too p q a) s f)

  -- THERE IS AN ANSWER
  pub models_exists : (a : Answer) × C a
  models_exists = (answer_of, models_right)

  -- THERE IS ONE ANSWER ONLY
  pub models_unique : (a b : Answer) → C a → C b → a ≡ b
  models_unique a b i j = sym (answer_is i) ∙ answer_is j

  -- COVERED EXACTLY WHEN IT IS, on two files that their models list, with an output that is not too short
  pub models_exactly : (p q : Program) → Admits m first n second p q → 48 ≤ room → C covered ↔ CoversUnder (model_named m) p (model_named n) q
  unfolding answer_by
  models_exactly p q a h = ((λ c. go c (first_lacking (model_named m) p (model_named n) q) refl), covering p q a h)
    where
      go : C covered → (o : Option Schedule) → first_lacking (model_named m) p (model_named n) q ≡ o → CoversUnder (model_named m) p (model_named n) q
      go c none e = none_covers (model_named m) (named_laws m) p (lists p q a) (model_named n) (named_laws n) q (lists_too p q a) e
      go c (some s) e = absurd (
          let z : covered ≡ lacking s = models_unique covered (lacking s) c (found_right p q a h (some s) e) in
          let y : ◌≡◌ {A = ℕ} 0 1 = cc in
          omega arith)
