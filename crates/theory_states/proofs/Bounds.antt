-- HOW LARGE THE NUMBERS CAN BE: no more fail than are listed, and of at most k steps no more are listed than there are words of k bytes.
use Prim.Native.Nat.{ℕ, zero, suc, ◌+◌, ◌*◌, ◌^◌, ◌<◌, ◌≤◌}
use mathlib.Core.Path.{◌≡◌, refl, sym, ap, subst, ◌∙◌}
use mathlib.Core.Bool.{Bool, true, false, cond}
use mathlib.Core.List.{[], ◌∷◌, ◌++◌}
use native.Mathlib.Omega.{arith}
use native.Mathlib.Nat.{pow-succ', one-le-pow}
use Rattle.spec_schedules.specs.Order.{Schedule}
use Rattle.spec_schedules.specs.System.{System, ended}
use Rattle.theory_states.specs.Numbers.{Numbers, nothing, one, plus, charged, sum_range, numbers_by, numbers_from}
use Rattle.theory_states.proofs.Numbers.{by_not, by_cut, by_live, from_ended, from_stuck, from_branches}

-- at most b are listed, and no more fail
abbrev Within : ℕ → Numbers → Type 0
Within b n = (n.listed ≤ b) × (n.failing ≤ n.listed)

charged_within : (b : ℕ) (c : Bool) (n : Numbers) → Within b n → Within b (charged c n)
charged_within b true n h = (h.0, omega arith)
charged_within b false n h = h

sum_within : (b : ℕ) (f : ℕ → Numbers) → ((d : ℕ) → Within b (f d)) → (j d : ℕ) → Within (j * b) (sum_range f j d)
unfolding sum_range
sum_within b f h zero d = (omega arith, omega arith)
sum_within b f h (suc j) d =
    let a = h d in
    let r = sum_within b f h j (d + 1) in
    let m : suc j * b ≡ j * b + b = omega arith in
    (omega (arith, a.0, r.0, m), omega (arith, a.1, r.1))

module _ (M : System) (top : ℕ) (some_byte : 0 < top) (cut : Schedule → M.State → ℕ → Bool) (breaks : M.State → ℕ → Bool) where
  by_within : (b : ℕ) (f : Schedule → M.State → Numbers) (v : Schedule) (σ : M.State) (t : ℕ) → Within b (f (v ++ (t ∷ [])) (M.step σ t)) → Within b (numbers_by M top cut breaks f v σ t)
  by_within b f v σ t h = go (M.enabled σ t) refl (cut v σ t) refl
    where
      go : (a : Bool) → M.enabled σ t ≡ a → (c : Bool) → cut v σ t ≡ c → Within b (numbers_by M top cut breaks f v σ t)
      go false e c q = subst (Within b) (sym (by_not M top cut breaks f v σ t e)) (omega arith, omega arith)
      go true e true q = subst (Within b) (sym (by_cut M top cut breaks f v σ t e q)) (omega arith, omega arith)
      go true e false q = subst (Within b) (sym (by_live M top cut breaks f v σ t e q)) (charged_within b (breaks σ t) (f (v ++ (t ∷ [])) (M.step σ t)) h)

  pub from_within : (k : ℕ) (v : Schedule) (σ : M.State) → ((numbers_from M top cut breaks k v σ).listed ≤ top ^ k) × ((numbers_from M top cut breaks k v σ).failing ≤ (numbers_from M top cut breaks k v σ).listed)
  from_within zero v σ = go (ended M σ) refl
    where
      go : (b : Bool) → ended M σ ≡ b → Within (top ^ 0) (numbers_from M top cut breaks 0 v σ)
      go true e = subst (Within (top ^ 0)) (sym (from_ended M top cut breaks 0 v σ e)) (one-le-pow 0 top some_byte, omega arith)
      go false e = subst (Within (top ^ 0)) (sym (from_stuck M top cut breaks v σ e)) (omega arith, omega arith)
  from_within (suc k) v σ = go (ended M σ) refl (λ t. from_within k (v ++ (t ∷ [])) (M.step σ t))
    where
      f : Schedule → M.State → Numbers
      f = λ w τ. numbers_from M top cut breaks k w τ

      go : (b : Bool) → ended M σ ≡ b → ((t : ℕ) → Within (top ^ k) (f (v ++ (t ∷ [])) (M.step σ t))) → Within (top ^ suc k) (numbers_from M top cut breaks (suc k) v σ)
      go true e ih = subst (Within (top ^ suc k)) (sym (from_ended M top cut breaks (suc k) v σ e)) (one-le-pow (suc k) top some_byte, omega arith)
      go false e ih =
          let s = sum_within (top ^ k) (numbers_by M top cut breaks f v σ) (λ t. by_within (top ^ k) f v σ t (ih t)) top 0 in
          let q : top ^ suc k ≡ top * top ^ k = pow-succ' top k in
          subst (Within (top ^ suc k)) (sym (from_branches M top cut breaks k v σ e)) (omega (arith, s.0, q), s.1)

  -- with one next byte
  pub with_within : (k : ℕ) (v : Schedule) (σ : M.State) (t : ℕ) → (numbers_by M top cut breaks (λ w τ. numbers_from M top cut breaks k w τ) v σ t).listed ≤ top ^ k
  with_within k v σ t = (by_within (top ^ k) (λ w τ. numbers_from M top cut breaks k w τ) v σ t (from_within k (v ++ (t ∷ [])) (M.step σ t))).0
