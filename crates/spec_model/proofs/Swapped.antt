-- Exchanging two threads of one `02` line.
use Prim.Native.Nat.{ℕ, ◌<◌, ◌≤◌}
use mathlib.Core.Path.{◌≡◌, refl, sym, subst}
use mathlib.Core.Logic.{◌≢◌, ◌⊎◌, inl, inr}
use mathlib.Core.Bool.{true, false}
use native.Mathlib.Omega.{arith}
use native.Mathlib.Decide.{ℕ_discrete}
use lib.Dec.{eqb}
use borrow.Author.Tests.{eq-eqb, ne_eqb}
use Rattle.spec_file.specs.Program.{Program}
use Rattle.spec_model.specs.Exchange.{Permutation, Together, Exchange}

unfoldable pub swapped : ℕ → ℕ → ℕ → ℕ
swapped u t x = elim (eqb x u) [ true ↦ t | false ↦ elim (eqb x t) [ true ↦ u | false ↦ x ] ]

module _ (u t : ℕ) (ne : u ≢ t) where
  pub swapped_low : swapped u t u ≡ t
  unfolding swapped
  swapped_low = rw (eq-eqb u u refl, swapped)

  pub swapped_high : swapped u t t ≡ u
  unfolding swapped
  swapped_high = rw (ne_eqb t u (λ e. ne (sym e)), eq-eqb t t refl, swapped)

  pub swapped_else : (x : ℕ) → x ≢ u → x ≢ t → swapped u t x ≡ x
  unfolding swapped
  swapped_else x a b = rw (ne_eqb x u a, ne_eqb x t b, swapped)

  -- a property of what a number is swapped to
  pub swapped_cases : (P : ℕ → ℕ → Type 0) → P u t → P t u → ((x : ℕ) → x ≢ u → x ≢ t → P x x) → (x : ℕ) → P x (swapped u t x)
  swapped_cases P a b c x = go (ℕ_discrete x u) (ℕ_discrete x t)
    where
      go : Dec (x ≡ u) → Dec (x ≡ t) → P x (swapped u t x)
      go (yes e) d = subst (λ (y : ℕ). P y (swapped u t y)) (sym e) (subst (P u) (sym swapped_low) a)
      go (no e) (yes f) = subst (λ (y : ℕ). P y (swapped u t y)) (sym f) (subst (P t) (sym swapped_high) b)
      go (no e) (no f) = subst (P x) (sym (swapped_else x e f)) (c x e f)

  pub swapped_twice : (x : ℕ) → swapped u t (swapped u t x) ≡ x
  swapped_twice = swapped_cases (λ x y. swapped u t y ≡ x) swapped_high swapped_low swapped_else

  pub swapped_permutation : u < 6 → t < 6 → Permutation (swapped u t)
  swapped_permutation hu ht = record {
    inverse = swapped u t;
    inverse_after = swapped_twice;
    after_inverse = swapped_twice;
    below = swapped_cases (λ x y. x < 6 → y < 6) (λ h. ht) (λ h. hu) (λ x a b h. h);
    stays = swapped_cases (λ x y. 6 ≤ x → y ≡ x) (λ h. absurd (omega arith)) (λ h. absurd (omega arith)) (λ x a b h. refl);
  }

pub swapped_exchange : (p : Program) (u t : ℕ) → u ≢ t → u < 6 → t < 6 → Together p u t → Exchange p (swapped u t)
swapped_exchange p u t ne hu ht k = (
  swapped_permutation u t ne hu ht,
  swapped_cases u t ne (λ x y. (y ≡ x) ⊎ Together p x y) (inr k) (inr (k.0, k.1, k.3, k.2)) (λ x a b. inl refl),
)
