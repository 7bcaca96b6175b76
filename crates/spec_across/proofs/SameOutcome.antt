-- The test whether two outcomes are the same is exact.
use Prim.Native.Nat.{ℕ, ◌<◌}
use mathlib.Core.Path.{◌≡◌, refl, sym, ap, ap₂, subst, ◌∙◌}
use mathlib.Core.Logic.{◌≢◌}
use mathlib.Core.Bool.{Bool, true, false, not, ◌&&◌, cond, false≢true}
use mathlib.Core.List.{List}
use native.Mathlib.Omega.{arith}
use lib.Dec.{eqb}
use lib.ListN.{length, get_or}
use lib.Seq.{ext_get_or}
use borrow.Author.Tests.{eqb-true, eq-eqb}
use Rattle.spec_file.specs.Lists.{same_list}
use Rattle.spec_file.proofs.DigitValues.{both}
use Rattle.spec_file.proofs.Lists.{same_list_lem, same_list_is}
use Rattle.spec_sc.proofs.Same.{both_and}
use Rattle.spec_covers.specs.declared.outcome.Outcome.{Outcome}
pub use Rattle.spec_across.specs.Same.{same_outcome}

flags_is : (a b : Bool) → cond a b (not b) ≡ true → a ≡ b
flags_is true b e = sym e
flags_is false true e = absurd (false≢true e)
flags_is false false e = refl

flags_same : (a : Bool) → cond a a (not a) ≡ true
flags_same true = refl
flags_same false = refl

abbrev outcome : List ℕ → Bool → Outcome
outcome m f = record { memory = m; fails = f }

pub same_is : (a b : Outcome) → same_outcome a b ≡ true → a ≡ b
unfolding same_outcome
same_is a b e =
    let k = both (same_list eqb a.memory b.memory) (cond a.fails b.fails (not b.fails)) e in
    let r : outcome a.memory a.fails ≡ outcome b.memory b.fails =
    ap₂ outcome (same_list_is eqb eqb-true a.memory b.memory k.0) (flags_is a.fails b.fails k.1) in
    r

pub is_same : (a b : Outcome) → a ≡ b → same_outcome a b ≡ true
unfolding same_outcome
is_same a b e =
    subst (λ (c : Outcome). same_outcome a c ≡ true) e (both_and (same_list_lem eqb (λ x. eq-eqb x x refl) a.memory) (flags_same a.fails))

-- a value that differs
pub differs : (a b : Outcome) (k : ℕ) → get_or a.memory k 0 ≢ get_or b.memory k 0 → same_outcome a b ≡ false
differs a b k n = go (same_outcome a b) refl
  where
    go : (t : Bool) → same_outcome a b ≡ t → same_outcome a b ≡ false
    go true e = absurd (n (ap (λ (o : Outcome). get_or o.memory k 0) (same_is a b e)))
    go false e = e

-- all eight agree: then it goes by what failed
module _ (a b : Outcome) (na : length a.memory ≡ 8) (nb : length b.memory ≡ 8)
    (agree : (i : ℕ) → i < 8 → get_or a.memory i 0 ≡ get_or b.memory i 0) where
  all_agree : a.memory ≡ b.memory
  all_agree = ext_get_or 0 a.memory b.memory (na ∙ sym nb) (λ i h. agree i (omega (arith, h, na)))

  by_flag : same_outcome a b ≡ cond a.fails b.fails (not b.fails)
  unfolding same_outcome
  by_flag =
      let e : same_list eqb a.memory b.memory ≡ true =
      subst (λ (m : List ℕ). same_list eqb a.memory m ≡ true) all_agree (same_list_lem eqb (λ x. eq-eqb x x refl) a.memory) in
      ap (λ (t : Bool). t && cond a.fails b.fails (not b.fails)) e

  pub same_fails : a.fails ≡ true → same_outcome a b ≡ b.fails
  same_fails e = by_flag ∙ ap (λ (t : Bool). cond t b.fails (not b.fails)) e

  pub same_holds : a.fails ≡ false → same_outcome a b ≡ not b.fails
  same_holds e = by_flag ∙ ap (λ (t : Bool). cond t b.fails (not b.fails)) e
