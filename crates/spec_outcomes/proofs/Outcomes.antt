-- ALL THAT IS PROMISED OF THE OUTCOMES, of every lawful memory model.
use Prim.Native.Nat.{ℕ, zero, suc, ◌+◌, ◌-◌, ◌≤◌, ◌<◌, ◌/◌, min}
use mathlib.Core.Path.{◌≡◌, refl, sym, ap, subst, ◌∙◌}
use mathlib.Core.Logic.{◌↔◌}
use mathlib.Core.Bool.{Bool, cond}
use mathlib.Core.List.{List, [], ◌∷◌, ◌++◌}
use native.Mathlib.Omega.{arith}
use native.Mathlib.Nat.{le-div_iff_mul-le}
use lib.ListN.{length, take, drop, length-take, length-drop}
use lib.Seq.{drop-drop}
use borrow.Author.Tests.{le-ltb}
use Rattle.spec_file.specs.Over.{over}
use Rattle.spec_file.specs.Program.{Program}
use Rattle.spec_file.specs.Decode.{Decoded, accepted, decode}
use Rattle.spec_schedules.specs.Order.{Schedule}
use Rattle.spec_model.specs.Model.{Model}
use Rattle.spec_model.specs.Laws.{Laws, Admitted}
use Rattle.spec_model.specs.OnFile.{admit}
use Rattle.spec_model.proofs.Admitted.{listed_program}
use Rattle.spec_model.proofs.TheList.{list_exact}
use Rattle.spec_sc.specs.Sequential.{sc}
use Rattle.spec_sc.proofs.Laws.{sc_laws}
use Rattle.spec_tso.specs.TotalStoreOrder.{tso}
use Rattle.spec_tso.proofs.Laws.{tso_laws}
use Rattle.spec_file.specs.declared.refusal.Refusal.{Refusal}
use Rattle.std.specs.Prelude.{Result, Ok, Err}
use Rattle.spec_outcomes.specs.Firsts.{firsts_of}
use Rattle.spec_outcomes.specs.OutcomesCall.{outcome_size, outcome_rows, page_of, outcomes_on, output_on, outcomes_file, outcomes_output}
use Rattle.spec_outcomes.specs.Outcomes.{Outcomes}
use Rattle.spec_outcomes.proofs.Firsts.{first_in, firsts_ascend, first_least, attained_once}

-- the first so many, and those behind them
taken_rest : {A : Type 0} (n : ℕ) (l : List A) → take n l ++ drop (length (take n l)) l ≡ l
taken_rest zero [] = refl
taken_rest (suc n) [] = refl
taken_rest zero (x ∷ l) = refl
taken_rest {A} (suc n) (x ∷ l) = ap (λ (t : List A). x ∷ t) (taken_rest n l)

module _ (M : Model) (L : Laws M) (file : List ℕ) (p : Program) (e : admit M (decode file) ≡ accepted p) where
  a : Admitted M p
  a = listed_program M L file p e

  how_many : (from : ℕ) (out : List ℕ) → length (page_of M p from out) ≡ min (length out / outcome_size M) (length (firsts_of M p) - from)
  unfolding page_of
  how_many from out = length-take (length out / outcome_size M) (drop from (firsts_of M p)) ∙ ap (λ (n : ℕ). min (length out / outcome_size M) n) (length-drop from (firsts_of M p))

  answered : (from : ℕ) (out : List ℕ) → outcome_size M ≤ length out → outcomes_file M file from out ≡ Ok (length (page_of M p from out))
  unfolding outcomes_on
  answered from out h =
      ap (λ (d : Decoded). outcomes_on M d from out) e
      ∙ ap (λ (b : Bool). cond b (Err (record { number = 22; place = 0 })) (Ok (length (page_of M p from out)))) (le-ltb (length out) (outcome_size M) h)

  in_front : (from : ℕ) (out : List ℕ) → outcomes_output M file from out ≡ over (outcome_rows M p (page_of M p from out)) out
  unfolding output_on
  in_front from out = ap (λ (d : Decoded). output_on M d from out) e

  onward : (from : ℕ) (out : List ℕ) → page_of M p from out ++ drop (from + length (page_of M p from out)) (firsts_of M p) ≡ drop from (firsts_of M p)
  unfolding page_of
  onward from out =
      let F = firsts_of M p in
      let n = length out / outcome_size M in
      ap (λ (t : List Schedule). take n (drop from F) ++ t) (sym (drop-drop (length (take n (drop from F))) from F)) ∙ taken_rest n (drop from F)

  over_when : (from : ℕ) (out : List ℕ) → outcome_size M ≤ length out → (outcomes_file M file from out ≡ Ok 0) ↔ (length (firsts_of M p) ≤ from)
  over_when from out h =
      let one : 1 ≤ length out / outcome_size M = (le-div_iff_mul-le {k = outcome_size M} {x = 1} {y = length out} (omega arith)).1 (omega (arith, h)) in (
        (λ q. let z = sym (answered from out h) ∙ q in let y : length (page_of M p from out) ≡ 0 = cc in omega (arith, y, how_many from out, one)),
        λ q. answered from out h ∙ ap {B = Result ℕ Refusal} (λ n. Ok n) (how_many from out ∙ omega (arith, q, one)),
      )

  pub outcomes : Outcomes M file p
  outcomes = record {
    listed = λ s m. (list_exact M L p s).0 (first_in M p s m).0;
    first = first_least M L p a;
    once = attained_once M L p a;
    ascends = firsts_ascend M L p;
    written = λ from out h. answered from out h ∙ ap {B = Result ℕ Refusal} (λ n. Ok n) (how_many from out);
    output = in_front;
    pages = onward;
    ends = over_when;
  }

-- UNDER SEQUENTIAL CONSISTENCY, and under total store order
pub sc_outcomes : (file : List ℕ) (p : Program) → admit sc (decode file) ≡ accepted p → Outcomes sc file p
sc_outcomes = outcomes sc sc_laws

pub tso_outcomes : (file : List ℕ) (p : Program) → admit tso (decode file) ≡ accepted p → Outcomes tso file p
tso_outcomes = outcomes tso tso_laws
