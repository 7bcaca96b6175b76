-- What refuses a schedule, in any step system, case by case: it is full, it stops at a byte that may not step, or it is short.
use Prim.Native.Nat.{ℕ, zero, suc, ◌+◌, ◌<◌}
use mathlib.Core.Path.{◌≡◌, refl, sym, ap, subst, ◌∙◌}
use mathlib.Core.Logic.{◌↔◌, ◌⊎◌, inl, inr}
use mathlib.Core.Bool.{Bool, true, false}
use mathlib.Core.Option.{Option, none, some}
use mathlib.Core.List.{[], ◌∷◌}
use native.Mathlib.Omega.{arith}
use lib.ListN.{length, get_or, take}
use Rattle.spec_schedules.specs.Order.{Schedule}
use Rattle.spec_schedules.specs.System.{System, run, ended, Allowed, FullFrom}
use Rattle.spec_model.specs.Answers.{refuses_from}
use Rattle.spec_model.specs.Refusing.{RefusesExactly}

-- what two refusals that are one have in common; a refusal is not none
parts : (n m k j : ℕ) → ◌≡◌ {A = Option (ℕ × ℕ)} (some (n, k)) (some (m, j)) → (n ≡ m) × (k ≡ j)
parts n m k j e = let i : ◌≡◌ {A = ℕ × ℕ} (n, k) (m, j) = cc in (ap (λ (r : ℕ × ℕ). r.0) i, ap (λ (r : ℕ × ℕ). r.1) i)

from_zero : (n k j : ℕ) → k ≡ j → ◌≡◌ {A = Option (ℕ × ℕ)} (some (n, 0 + k)) (some (n, j))
from_zero n k j h = let e : 0 + k ≡ j = omega (arith, h) in ap {B = Option (ℕ × ℕ)} (λ (i : ℕ). some (n, i)) e

none_some : (n k : ℕ) → ◌≡◌ {A = Option (ℕ × ℕ)} none (some (n, k)) → ⊥
none_some n k e = let z : ◌≡◌ {A = ℕ} 0 1 = cc in omega arith

module _ (M : System) where
  -- each turn
  nil_full : (k : ℕ) (σ : M.State) → ended M σ ≡ true → refuses_from M k σ [] ≡ none
  unfolding refuses_from
  nil_full k σ e = rw (e, refuses_from)

  nil_short : (k : ℕ) (σ : M.State) → ended M σ ≡ false → refuses_from M k σ [] ≡ some (21, k)
  unfolding refuses_from
  nil_short k σ e = rw (e, refuses_from)

  pub cons_goes : (k : ℕ) (σ : M.State) (b : ℕ) (s : Schedule) → M.enabled σ b ≡ true → refuses_from M k σ (b ∷ s) ≡ refuses_from M (suc k) (M.step σ b) s
  unfolding refuses_from
  cons_goes k σ b s e = rw (e, refuses_from)

  cons_stops : (k : ℕ) (σ : M.State) (b : ℕ) (s : Schedule) → M.enabled σ b ≡ false → refuses_from M k σ (b ∷ s) ≡ some (20, k)
  unfolding refuses_from
  cons_stops k σ b s e = rw (e, refuses_from)

  -- byte j is the first that may not step
  abbrev StopsAt : M.State → Schedule → ℕ → Type 0
  StopsAt σ s j = (j < length s) × Allowed M σ (take j s) × (M.enabled (run M σ (take j s)) (get_or s j 0) ≡ false)

  data Case (k : ℕ) (σ : M.State) (s : Schedule) : Type 0 where
    full : FullFrom M σ s → refuses_from M k σ s ≡ none → Case k σ s
    stops : (j : ℕ) → StopsAt σ s j → refuses_from M k σ s ≡ some (20, k + j) → Case k σ s
    short : Allowed M σ s → ended M (run M σ s) ≡ false → refuses_from M k σ s ≡ some (21, k + length s) → Case k σ s

  place_here : (n k : ℕ) → ◌≡◌ {A = Option (ℕ × ℕ)} (some (n, k)) (some (n, k + 0))
  place_here n k = let e : k ≡ k + 0 = omega arith in ap {B = Option (ℕ × ℕ)} (λ (j : ℕ). some (n, j)) e

  place_more : (n k j : ℕ) → ◌≡◌ {A = Option (ℕ × ℕ)} (some (n, suc k + j)) (some (n, k + suc j))
  place_more n k j = let e : suc k + j ≡ k + suc j = omega arith in ap {B = Option (ℕ × ℕ)} (λ (i : ℕ). some (n, i)) e

  case : (s : Schedule) (k : ℕ) (σ : M.State) → Case k σ s
  unfolding run
  case [] k σ = go (ended M σ) refl
    where
      go : (b : Bool) → ended M σ ≡ b → Case k σ []
      go true e = full e (nil_full k σ e)
      go false e = short tt e (nil_short k σ e ∙ place_here 21 k)
  case (t ∷ s) k σ = go (M.enabled σ t) refl (case s (suc k) (M.step σ t))
    where
      go : (b : Bool) → M.enabled σ t ≡ b → Case (suc k) (M.step σ t) s → Case k σ (t ∷ s)
      go false e o = stops 0 (omega arith, tt, e) (cons_stops k σ t s e ∙ place_here 20 k)
      go true e (full f q) = full (e, f) (cons_goes k σ t s e ∙ q)
      go true e (stops j h q) = stops (suc j) (omega (arith, h.0), (e, h.1), h.2) (cons_goes k σ t s e ∙ q ∙ place_more 20 k j)
      go true e (short a d q) = short (e, a) d (cons_goes k σ t s e ∙ q ∙ place_more 21 k (length s))

  -- A FULL SCHEDULE IS NOT REFUSED
  pub full_goes : (s : Schedule) (k : ℕ) (σ : M.State) → FullFrom M σ s → refuses_from M k σ s ≡ none
  full_goes [] k σ f = nil_full k σ f
  full_goes (b ∷ s) k σ f = cons_goes k σ b s f.0 ∙ full_goes s (suc k) (M.step σ b) f.1

  stops_at : (j : ℕ) (s : Schedule) (k : ℕ) (σ : M.State) → StopsAt σ s j → refuses_from M k σ s ≡ some (20, k + j)
  unfolding run
  stops_at j [] k σ h = absurd (omega (arith, h.0))
  stops_at zero (b ∷ s) k σ h = cons_stops k σ b s h.2 ∙ place_here 20 k
  stops_at (suc j) (b ∷ s) k σ h = cons_goes k σ b s h.1.0 ∙ stops_at j s (suc k) (M.step σ b) (omega (arith, h.0), h.1.1, h.2) ∙ place_more 20 k j

  short_at : (s : Schedule) (k : ℕ) (σ : M.State) → Allowed M σ s → ended M (run M σ s) ≡ false → refuses_from M k σ s ≡ some (21, k + length s)
  unfolding run
  short_at [] k σ a e = nil_short k σ e ∙ place_here 21 k
  short_at (b ∷ s) k σ a e = cons_goes k σ b s a.0 ∙ short_at s (suc k) (M.step σ b) a.1 e ∙ place_more 21 k (length s)

  -- WHAT NOTHING REFUSES IS FULL
  pub goes_full : (s : Schedule) (k : ℕ) (σ : M.State) → refuses_from M k σ s ≡ none → FullFrom M σ s
  goes_full s k σ e = go (case s k σ)
    where
      go : Case k σ s → FullFrom M σ s
      go (full f q) = f
      go (stops j h q) = absurd (none_some 20 (k + j) (sym e ∙ q))
      go (short a d q) = absurd (none_some 21 (k + length s) (sym e ∙ q))

  -- EXACTLY SO
  pub refuses_exactly : (σ : M.State) (s : Schedule) → RefusesExactly M σ s
  refuses_exactly σ s = record {
    full = (goes_full s 0 σ, full_goes s 0 σ);
    stops = λ k. ((λ e. stopped k e (case s 0 σ)), λ h. stops_at k s 0 σ h ∙ from_zero 20 k k refl);
    short = λ k. ((λ e. shortened k e (case s 0 σ)), λ h. short_at s 0 σ h.1 h.2 ∙ from_zero 21 (length s) k (sym h.0));
    only = λ n k e. number n k e (case s 0 σ);
  }
    where
      stopped : (k : ℕ) → refuses_from M 0 σ s ≡ some (20, k) → Case 0 σ s → StopsAt σ s k
      stopped k e (full f q) = absurd (none_some 20 k (sym q ∙ e))
      stopped k e (stops j h q) = let z = parts 20 20 (0 + j) k (sym q ∙ e) in let y : j ≡ k = omega (arith, z.1) in subst (StopsAt σ s) y h
      stopped k e (short a d q) = absurd (omega (arith, (parts 21 20 (0 + length s) k (sym q ∙ e)).0))

      shortened : (k : ℕ) → refuses_from M 0 σ s ≡ some (21, k) → Case 0 σ s → (k ≡ length s) × Allowed M σ s × (ended M (run M σ s) ≡ false)
      shortened k e (full f q) = absurd (none_some 21 k (sym q ∙ e))
      shortened k e (stops j h q) = absurd (omega (arith, (parts 20 21 (0 + j) k (sym q ∙ e)).0))
      shortened k e (short a d q) = (omega (arith, (parts 21 21 (0 + length s) k (sym q ∙ e)).1), a, d)

      number : (n k : ℕ) → refuses_from M 0 σ s ≡ some (n, k) → Case 0 σ s → (n ≡ 20) ⊎ (n ≡ 21)
      number n k e (full f q) = absurd (none_some n k (sym q ∙ e))
      number n k e (stops j h q) = inl (sym (parts 20 n (0 + j) k (sym q ∙ e)).0)
      number n k e (short a d q) = inr (sym (parts 21 n (0 + length s) k (sym q ∙ e)).0)
