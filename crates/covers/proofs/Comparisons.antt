-- Every two files and room have exactly one answer under sequential consistency twice: what is found in the second's list is one, and every
-- one is what is found.
use Prim.Native.Nat.{ℕ, ◌<◌, ◌≤◌}
use mathlib.Core.Path.{◌≡◌, refl, sym, ap, ap₂, subst, ◌∙◌}
use mathlib.Core.Logic.{◌↔◌}
use mathlib.Core.Option.{Option, none, some}
use mathlib.Core.List.{List}
use native.Mathlib.Omega.{arith}
use native.Mathlib.Decide.{dec_lt}
use Rattle.spec_file.specs.Program.{Program}
use Rattle.spec_file.specs.Decode.{Decoded, accepted, refused, decode}
use Rattle.spec_file.proofs.AcceptedWellFormed.{accepted_well_formed}
use Rattle.spec_schedules.specs.Order.{Schedule}
use Rattle.spec_model.specs.Laws.{Admitted}
use Rattle.spec_model.specs.OnFile.{admit}
use Rattle.spec_sc.specs.Sequential.{sc}
use Rattle.spec_sc.proofs.Laws.{sc_laws}
use Rattle.spec_sc.proofs.Admits.{sc_admits}
use Rattle.spec_covers.specs.Covers.{Covers}
use Rattle.spec_covers.specs.Answer.{Answer, covered, lacking, first_refused, second_refused, output_refused, Accepted, Comparison, by_first, by_second, by_output, covering, exceeding}
use Rattle.spec_across.proofs.Covering.{covers_sc, first_lacking_sc}
use Rattle.spec_across.proofs.Attained.{first_lacking, none_covers, some_first, covers_none, first_some}
use Rattle.spec_across.proofs.AnswerBy.{answer_by, answer_against, answer_on, on_refused, on_accepted, against_refused, against_short, against_long}

module _ (first second : List ℕ) (room : ℕ) where
  abbrev C : Answer → Type 0
  C = Comparison first second room

  -- the answer worked out
  unfoldable pub answer : Answer
  answer = answer_on 24 sc sc (admit sc (decode first)) (admit sc (decode second)) room

  read : (d e : Decoded) → decode first ≡ d → decode second ≡ e → answer ≡ answer_on 24 sc sc d e room
  unfolding answer
  read d e i j = ap₂ (λ (x y : Decoded). answer_on 24 sc sc x y room) (sc_admits (decode first) ∙ i) (sc_admits (decode second) ∙ j)

  answer_first : (n k : ℕ) → decode first ≡ refused n k → answer ≡ first_refused n k
  answer_first n k e = read (refused n k) (decode second) e refl ∙ on_refused 24 sc sc n k (decode second) room

  against : (p : Program) (d : Decoded) → decode first ≡ accepted p → decode second ≡ d → answer ≡ answer_against 24 sc sc p d room
  against p d e i = read (accepted p) d e i ∙ on_accepted 24 sc sc p room d

  answer_second : (p : Program) (n k : ℕ) → decode first ≡ accepted p → decode second ≡ refused n k → answer ≡ second_refused n k
  answer_second p n k e i = against p (refused n k) e i ∙ against_refused 24 sc sc p room n k

  module _ (p q : Program) (a : Accepted first second p q) where
    answer_short : room < 24 → answer ≡ output_refused 22 0
    answer_short h = against p (accepted q) a.one a.other ∙ against_short 24 sc sc p room q h

    answer_long : 24 ≤ room → answer ≡ answer_by (first_lacking sc p sc q)
    answer_long h = against p (accepted q) a.one a.other ∙ against_long 24 sc sc p room q h

    lists : Admitted sc p
    lists = (accepted_well_formed first p a.one, refl)

    lists_too : Admitted sc q
    lists_too = (accepted_well_formed second q a.other, refl)

    -- what is found is right
    found_right : 24 ≤ room → (o : Option Schedule) → first_lacking sc p sc q ≡ o → C (answer_by o)
    unfolding answer_by
    found_right h none e = covering p q a h ((covers_sc p q).0 (none_covers sc sc_laws p lists sc sc_laws q lists_too e))
    found_right h (some s) e = exceeding p q s a h ((first_lacking_sc p q s).0 (some_first sc sc_laws p lists sc sc_laws q lists_too s e))

    right : Dec (room < 24) → C answer
    right (yes h) = subst C (sym (answer_short h)) (by_output p q a h)
    right (no h) =
        let enough : 24 ≤ room = omega (arith, h) in
        subst C (sym (answer_long enough)) (found_right enough (first_lacking sc p sc q) refl)

  right_second : (p : Program) → decode first ≡ accepted p → (d : Decoded) → decode second ≡ d → C answer
  right_second p e (accepted q) i = right p q (record { one = e; other = i }) (dec_lt room 24)
  right_second p e (refused n k) i = subst C (sym (answer_second p n k e i)) (by_second p n k e i)

  right_first : (d : Decoded) → decode first ≡ d → C answer
  right_first (accepted p) e = right_second p e (decode second) refl
  right_first (refused n k) e = subst C (sym (answer_first n k e)) (by_first n k e)

  pub comparison_right : C answer
  comparison_right = right_first (decode first) refl

  -- THERE IS AN ANSWER
  pub comparison_exists : (a : Answer) × C a
  comparison_exists = (answer, comparison_right)

  -- every right answer is the one worked out
  comparison_is : {a : Answer} → C a → answer ≡ a
  unfolding answer_by
  comparison_is (by_first n k e) = answer_first n k e
  comparison_is (by_second p n k e i) = answer_second p n k e i
  comparison_is (by_output p q a h) = answer_short p q a h
  comparison_is (covering p q a h c) =
      answer_long p q a h ∙ ap answer_by (covers_none sc sc_laws p (lists p q a) sc sc_laws q (lists_too p q a) ((covers_sc p q).1 c))
  comparison_is (exceeding p q s a h f) =
      answer_long p q a h ∙ ap answer_by (first_some sc sc_laws p (lists p q a) sc sc_laws q (lists_too p q a) s ((first_lacking_sc p q s).1 f))

  -- THERE IS ONE ANSWER ONLY
  pub comparison_unique : (a b : Answer) → C a → C b → a ≡ b
  comparison_unique a b i j = sym (comparison_is i) ∙ comparison_is j

  -- COVERED EXACTLY WHEN IT IS, on two accepted files with an output that is not too short
  pub covered_exactly : (p q : Program) → Accepted first second p q → 24 ≤ room → C covered ↔ Covers p q
  unfolding answer_by
  covered_exactly p q a h = ((λ c. go c (first_lacking sc p sc q) refl), covering p q a h)
    where
      go : C covered → (o : Option Schedule) → first_lacking sc p sc q ≡ o → Covers p q
      go c none e = (covers_sc p q).0 (none_covers sc sc_laws p (lists p q a) sc sc_laws q (lists_too p q a) e)
      go c (some s) e = absurd (
          let z : covered ≡ lacking s = comparison_unique covered (lacking s) c (found_right p q a h (some s) e) in
          let y : ◌≡◌ {A = ℕ} 0 1 = cc in
          omega arith)
