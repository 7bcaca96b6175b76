-- RELATED POSITIONS HAVE THE SAME NUMBERS, and so have positions of the search with one key.
use Prim.Native.Nat.{ℕ, zero, suc, ◌+◌, ◌≤◌}
use mathlib.Core.Path.{◌≡◌, refl, sym, ap, ap₂, ◌∙◌}
use mathlib.Core.Bool.{Bool, true, false}
use mathlib.Core.List.{List, [], ◌∷◌, ◌++◌}
use native.Mathlib.Omega.{arith}
use Rattle.spec_schedules.specs.Order.{Schedule}
use Rattle.spec_schedules.specs.System.{System, Lawful, none_enabled, ended}
use Rattle.theory_states.specs.Numbers.{Numbers, charged, numbers_by, numbers_from, numbers}
use Rattle.theory_states.specs.SameKey.{Bisimulation, Decides}
use Rattle.theory_states.proofs.Numbers.{sum_same, by_not, by_cut, by_live, from_ended, from_stuck, from_branches, enough}

-- where the same bytes may step, both have ended or neither has
pub ended_agree : (M : System) (σ τ : M.State) → ((t : ℕ) → M.enabled σ t ≡ M.enabled τ t) → ended M σ ≡ ended M τ
unfolding ended none_enabled
ended_agree M σ τ h = go M.names
  where
    go : (ts : List ℕ) → none_enabled M σ ts ≡ none_enabled M τ ts
    go [] = refl
    go (t ∷ ts) = ap₂ (λ (a b : Bool). elim a [ true ↦ false | false ↦ b ]) (h t) (go ts)

module _ (M : System) (top : ℕ) (cut : Schedule → M.State → ℕ → Bool) (breaks : M.State → ℕ → Bool) where
  abbrev N : ℕ → Schedule → M.State → Numbers
  N k = λ w τ. numbers_from M top cut breaks k w τ

  module _ (R : Schedule → M.State → Schedule → M.State → Type 0) (B : Bisimulation M cut breaks R) where
    by_related : (f : Schedule → M.State → Numbers) (v : Schedule) (σ : M.State) (w : Schedule) (τ : M.State) → R v σ w τ → (t : ℕ) →
        (M.enabled σ t ≡ true → cut v σ t ≡ false → f (v ++ (t ∷ [])) (M.step σ t) ≡ f (w ++ (t ∷ [])) (M.step τ t)) →
        numbers_by M top cut breaks f v σ t ≡ numbers_by M top cut breaks f w τ t
    by_related f v σ w τ r t h = go (M.enabled σ t) refl (cut v σ t) refl
      where
        there : (a : Bool) → M.enabled σ t ≡ a → M.enabled τ t ≡ a
        there a e = sym (B.enabled v σ w τ r t) ∙ e

        too : (b : Bool) → M.enabled σ t ≡ true → cut v σ t ≡ b → cut w τ t ≡ b
        too b e c = sym (B.cuts v σ w τ r t e) ∙ c

        go : (a : Bool) → M.enabled σ t ≡ a → (b : Bool) → cut v σ t ≡ b → numbers_by M top cut breaks f v σ t ≡ numbers_by M top cut breaks f w τ t
        go false e b c = by_not M top cut breaks f v σ t e ∙ sym (by_not M top cut breaks f w τ t (there false e))
        go true e true c = by_cut M top cut breaks f v σ t e c ∙ sym (by_cut M top cut breaks f w τ t (there true e) (too true e c))
        go true e false c =
            by_live M top cut breaks f v σ t e c ∙ ap₂ charged (B.fails v σ w τ r t e c) (h e c)
            ∙ sym (by_live M top cut breaks f w τ t (there true e) (too false e c))

    from_same : (k : ℕ) (v : Schedule) (σ : M.State) (w : Schedule) (τ : M.State) → R v σ w τ → N k v σ ≡ N k w τ
    from_same zero v σ w τ r = go (ended M σ) refl
      where
        there : (b : Bool) → ended M σ ≡ b → ended M τ ≡ b
        there b e = sym (ended_agree M σ τ (B.enabled v σ w τ r)) ∙ e

        go : (b : Bool) → ended M σ ≡ b → N 0 v σ ≡ N 0 w τ
        go true e = from_ended M top cut breaks 0 v σ e ∙ sym (from_ended M top cut breaks 0 w τ (there true e))
        go false e = from_stuck M top cut breaks v σ e ∙ sym (from_stuck M top cut breaks w τ (there false e))
    from_same (suc k) v σ w τ r = go (ended M σ) refl (λ t e c. from_same k (v ++ (t ∷ [])) (M.step σ t) (w ++ (t ∷ [])) (M.step τ t) (B.steps v σ w τ r t e c))
      where
        there : (b : Bool) → ended M σ ≡ b → ended M τ ≡ b
        there b e = sym (ended_agree M σ τ (B.enabled v σ w τ r)) ∙ e

        go : (b : Bool) → ended M σ ≡ b → ((t : ℕ) → M.enabled σ t ≡ true → cut v σ t ≡ false → N k (v ++ (t ∷ [])) (M.step σ t) ≡ N k (w ++ (t ∷ [])) (M.step τ t)) → N (suc k) v σ ≡ N (suc k) w τ
        go true e ih = from_ended M top cut breaks (suc k) v σ e ∙ sym (from_ended M top cut breaks (suc k) w τ (there true e))
        go false e ih =
            from_branches M top cut breaks k v σ e
            ∙ sum_same (numbers_by M top cut breaks (N k) v σ) (numbers_by M top cut breaks (N k) w τ) (λ t. by_related (N k) v σ w τ r t (ih t)) top 0
            ∙ sym (from_branches M top cut breaks k w τ (there false e))

    pub same_numbers_lem : Lawful M → (v : Schedule) (σ : M.State) (w : Schedule) (τ : M.State) → R v σ w τ → numbers M top cut breaks v σ ≡ numbers M top cut breaks w τ
    same_numbers_lem lawful v σ w τ r =
        let n : ℕ = M.size σ + M.size τ in
        enough M top cut breaks lawful (M.size σ) n v σ (omega arith) (omega arith) ∙ from_same n v σ w τ r ∙ enough M top cut breaks lawful n (M.size τ) w τ (omega arith) (omega arith)

  -- ONE KEY, ONE PAIR OF NUMBERS
  pub same_key : {K : Type 0} (Met : Schedule → M.State → Type 0) (key : Schedule → M.State → K) → Lawful M → Decides M cut breaks Met key →
      (v : Schedule) (σ : M.State) (w : Schedule) (τ : M.State) → Met v σ → Met w τ → key v σ ≡ key w τ → numbers M top cut breaks v σ ≡ numbers M top cut breaks w τ
  same_key Met key lawful D v σ w τ a b e = same_numbers_lem D.R D.bisimulation lawful v σ w τ (D.related v σ w τ a b e)
