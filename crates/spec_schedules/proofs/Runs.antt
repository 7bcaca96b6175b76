-- Runs and full schedules: what joins and splits over `++`, what has ended, and how many steps there can be.
use mathlib.Core.Path.{◌≡◌, refl, sym, ap, ◌∙◌}
use mathlib.Core.Logic.{◌⊎◌, inl, inr}
use mathlib.Core.Bool.{Bool, true, false, true≢false, false≢true}
use mathlib.Core.List.Memᴰ
use mathlib.Core.List.{List, [], ◌∷◌, ◌++◌, Memᴰ}
use Prim.Native.Nat.{ℕ, ◌≤◌}
use native.Mathlib.Omega.{arith}
use lib.ListN.{length}
use Rattle.spec_schedules.specs.Order.{Schedule}
use Rattle.spec_schedules.specs.System.{System, Lawful, run, none_enabled, ended, Allowed, FullFrom}

module _ (M : System) where
  -- none of these bytes may step: a test, and what it says
  none_enabled_at : (σ : M.State) (ts : List ℕ) (t : ℕ) → none_enabled M σ ts ≡ true → Memᴰ t ts → M.enabled σ t ≡ false
  unfolding none_enabled
  none_enabled_at σ [] t e m = absurd (Memᴰ.not-nil m)
  none_enabled_at σ (u ∷ ts) t e m = go (M.enabled σ u) refl (Memᴰ.cases_cons m) (λ q k. none_enabled_at σ ts t q k)
    where
      go : (b : Bool) → M.enabled σ u ≡ b → (t ≡ u) ⊎ Memᴰ t ts → (none_enabled M σ ts ≡ true → Memᴰ t ts → M.enabled σ t ≡ false) → M.enabled σ t ≡ false
      go true q d ih = absurd (false≢true (rw (q, none_enabled) at e))
      go false q (inl i) ih = ap (M.enabled σ) i ∙ q
      go false q (inr k) ih = ih (rw (q, none_enabled) at e) k

  none_enabled_of : (σ : M.State) (ts : List ℕ) → ((t : ℕ) → Memᴰ t ts → M.enabled σ t ≡ false) → none_enabled M σ ts ≡ true
  unfolding none_enabled
  none_enabled_of σ [] h = refl
  none_enabled_of σ (t ∷ ts) h = rw (h t (Memᴰ.head refl), none_enabled) (none_enabled_of σ ts (λ u m. h u (Memᴰ.tail m)))

  pub ended_of : (σ : M.State) → ((t : ℕ) → M.enabled σ t ≡ false) → ended M σ ≡ true
  unfolding ended
  ended_of σ h = none_enabled_of σ M.names (λ t m. h t)

  -- runs
  pub run_append : (σ : M.State) (u s : Schedule) → run M σ (u ++ s) ≡ run M (run M σ u) s
  unfolding run
  run_append σ [] s = refl
  run_append σ (t ∷ u) s = run_append (M.step σ t) u s

  pub run_nil : (σ : M.State) → run M σ [] ≡ σ
  unfolding run
  run_nil σ = refl

  pub run_cons : (σ : M.State) (t : ℕ) (s : Schedule) → run M σ (t ∷ s) ≡ run M (M.step σ t) s
  unfolding run
  run_cons σ t s = refl

  pub run_snoc : (σ : M.State) (u : Schedule) (t : ℕ) → run M σ (u ++ (t ∷ [])) ≡ M.step (run M σ u) t
  unfolding run
  run_snoc σ [] t = refl
  run_snoc σ (a ∷ u) t = run_snoc (M.step σ a) u t

  -- allowed beginnings and full schedules
  pub allowed_join : (σ : M.State) (u s : Schedule) → Allowed M σ u → Allowed M (run M σ u) s → Allowed M σ (u ++ s)
  unfolding run
  allowed_join σ [] s a b = b
  allowed_join σ (t ∷ u) s a b = (a.0, allowed_join (M.step σ t) u s a.1 b)

  pub full_join : (σ : M.State) (u s : Schedule) → Allowed M σ u → FullFrom M (run M σ u) s → FullFrom M σ (u ++ s)
  unfolding run
  full_join σ [] s a f = f
  full_join σ (t ∷ u) s a f = (a.0, full_join (M.step σ t) u s a.1 f)

  pub full_split : (σ : M.State) (u s : Schedule) → FullFrom M σ (u ++ s) → Allowed M σ u × FullFrom M (run M σ u) s
  unfolding run
  full_split σ [] s f = (tt, f)
  full_split σ (t ∷ u) s f = let r = full_split (M.step σ t) u s f.1 in ((f.0, r.0), r.1)

  pub full_allowed : (σ : M.State) (s : Schedule) → FullFrom M σ s → Allowed M σ s × (ended M (run M σ s) ≡ true)
  unfolding run
  full_allowed σ [] f = (tt, f)
  full_allowed σ (t ∷ s) f = let r = full_allowed (M.step σ t) s f.1 in ((f.0, r.0), r.1)

  pub allowed_full : (σ : M.State) (s : Schedule) → Allowed M σ s → ended M (run M σ s) ≡ true → FullFrom M σ s
  unfolding run
  allowed_full σ [] a e = e
  allowed_full σ (t ∷ s) a e = (a.0, allowed_full (M.step σ t) s a.1 e)

  module _ (L : Lawful M) where
    -- where a byte may step the run has not ended
    pub ended_none : (σ : M.State) (t : ℕ) → ended M σ ≡ true → M.enabled σ t ≡ false
    unfolding ended
    ended_none σ t e = go (M.enabled σ t) refl
      where
        go : (b : Bool) → M.enabled σ t ≡ b → M.enabled σ t ≡ false
        go true q = none_enabled_at σ M.names t e (L.named σ t q)
        go false q = q

    pub not_ended : (σ : M.State) (t : ℕ) → M.enabled σ t ≡ true → ended M σ ≡ false
    not_ended σ t e = go (ended M σ) refl
      where
        go : (b : Bool) → ended M σ ≡ b → ended M σ ≡ false
        go true q = absurd (true≢false (sym e ∙ ended_none σ t q))
        go false q = q

    -- a run has at most as many steps as the size says
    pub allowed_length : (σ : M.State) (s : Schedule) → Allowed M σ s → length s ≤ M.size σ
    allowed_length σ [] a = omega arith
    allowed_length σ (t ∷ s) a = omega (arith, L.falls σ t a.0, allowed_length (M.step σ t) s a.1)

    pub full_length : (σ : M.State) (s : Schedule) → FullFrom M σ s → length s ≤ M.size σ
    full_length σ s f = allowed_length σ s (full_allowed σ s f).0
