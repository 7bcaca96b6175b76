-- A search asks its test only where it comes: two tests that agree on every full schedule none of whose steps is cut find the same. So
-- where such schedules are all listed the search needs no test.
use Prim.Native.Nat.{ℕ, zero, suc, ◌+◌, ◌-◌}
use mathlib.Core.Path.{◌≡◌, refl, sym, ap, ap₂, subst, ◌∙◌}
use mathlib.Core.Logic.{◌⊎◌, inl, inr}
use mathlib.Core.Bool.{Bool, true, false}
use mathlib.Core.Option.{Option, none, some}
use mathlib.Core.List.{List, [], ◌∷◌, ◌++◌}
use native.Mathlib.Omega.{arith}
use lib.ListN.{length, length-append}
use Rattle.spec_schedules.specs.Order.{Schedule}
use Rattle.spec_schedules.specs.System.{System, run, ended, Allowed, FullFrom}
use Rattle.theory_search.specs.Search.{low, past, Uncut}
use Rattle.theory_search.specs.Found.{concat_range, found_at, found_by, found_from}
use Rattle.spec_schedules.proofs.Runs.{run_nil, run_snoc, allowed_join, allowed_full}

concat_range_same : {A : Type 0} (f g : ℕ → List A) → ((d : ℕ) → f d ≡ g d) → (j d : ℕ) → concat_range f j d ≡ concat_range g j d
unfolding concat_range
concat_range_same f g h zero d = refl
concat_range_same {A} f g h (suc j) d = ap₂ {C = List A} (λ a b. a ++ b) (h d) (concat_range_same f g h j (d + 1))

-- where a list with one more at the end is split: behind all, or before
pub split_last : {A : Type 0} (v : List A) (d : A) (u : List A) (e : A) (z : List A) → v ++ (d ∷ []) ≡ u ++ (e ∷ z) → ((v ≡ u) × (d ≡ e)) ⊎ ((y : List A) × (v ≡ u ++ (e ∷ y)))
split_last [] d [] e z q = inl (refl, cc)
split_last [] d (x ∷ u) e z q = absurd (omega (arith, ap length q, length-append u (e ∷ z)))
split_last {A} (a ∷ v) d [] e z q = inr (v, (let i : a ≡ e = cc in ap (λ (x : A). x ∷ v) i))
split_last {A} (a ∷ v) d (x ∷ u) e z q = go (split_last v d u e z cc)
  where
    i : a ≡ x
    i = cc

    go : ((v ≡ u) × (d ≡ e)) ⊎ ((y : List A) × (v ≡ u ++ (e ∷ y))) → ((a ∷ v ≡ x ∷ u) × (d ≡ e)) ⊎ ((y : List A) × (a ∷ v ≡ x ∷ (u ++ (e ∷ y))))
    go (inl r) = inl (ap₂ {C = List A} (λ b bs. b ∷ bs) i r.0, r.1)
    go (inr r) = inr (r.0, ap₂ {C = List A} (λ b bs. b ∷ bs) i r.1)

module _ (M : System) (top : ℕ) (cut : Schedule → M.State → ℕ → Bool) (ρ : M.State) where
  nothing_cut : Uncut M ρ cut []
  nothing_cut u b z e = absurd (omega (arith, ap length e, length-append u (b ∷ z)))

  uncut_more : (v : Schedule) (t : ℕ) → Uncut M ρ cut v → cut v (run M ρ v) t ≡ false → Uncut M ρ cut (v ++ (t ∷ []))
  uncut_more v t h c u b z e = go (split_last v t u b z e)
    where
      go : ((v ≡ u) × (t ≡ b)) ⊎ ((y : Schedule) × (v ≡ u ++ (b ∷ y))) → cut u (run M ρ u) b ≡ false
      go (inl r) = ap₂ (λ (k : Schedule) (j : ℕ). cut k (run M ρ k) j) (sym r.0) (sym r.1) ∙ c
      go (inr r) = h u b r.0 r.1

  module _ (f g : Schedule → Bool) (agree : (w : Schedule) → FullFrom M ρ w → Uncut M ρ cut w → f w ≡ g w) where
    at_same : (o : Option Schedule) (v : Schedule) → f v ≡ g v → found_at M top cut f o v ≡ found_at M top cut g o v
    unfolding found_at
    at_same none v e = ap (λ (b : Bool). elim b [ true ↦ v ∷ [] | false ↦ [] ]) e
    at_same (some b) v e = refl

    by_same : (F G : Option Schedule → Schedule → M.State → List Schedule) (o : Option Schedule) (v : Schedule) (σ : M.State) (t : ℕ) →
        (M.enabled σ t ≡ true → cut v σ t ≡ false → F (past o t) (v ++ (t ∷ [])) (M.step σ t) ≡ G (past o t) (v ++ (t ∷ [])) (M.step σ t)) →
        found_by M top cut f F o v σ t ≡ found_by M top cut g G o v σ t
    unfolding found_by
    by_same F G o v σ t h = go (M.enabled σ t) refl (cut v σ t) refl
      where
        go : (a : Bool) → M.enabled σ t ≡ a → (b : Bool) → cut v σ t ≡ b → found_by M top cut f F o v σ t ≡ found_by M top cut g G o v σ t
        go false p b q = rw (p, found_by)
        go true p true q = rw (p, q, found_by)
        go true p false q = rw (p, q, found_by) (h p q)

    same_from : (k : ℕ) (o : Option Schedule) (v : Schedule) (σ : M.State) → σ ≡ run M ρ v → Allowed M ρ v → Uncut M ρ cut v → found_from M top cut f k o v σ ≡ found_from M top cut g k o v σ
    unfolding found_from
    same_from zero o v σ s a u = go (ended M σ) refl
      where
        go : (b : Bool) → ended M σ ≡ b → found_from M top cut f zero o v σ ≡ found_from M top cut g zero o v σ
        go true e = rw (e, found_from) (at_same o v (agree v (allowed_full M ρ v a (ap (λ (τ : M.State). ended M τ) (sym s) ∙ e)) u))
        go false e = rw (e, found_from)
    same_from (suc k) o v σ s a u = go (ended M σ) refl (λ t m c. same_from k (past o t) (v ++ (t ∷ [])) (M.step σ t)
        (ap (λ (τ : M.State). M.step τ t) s ∙ sym (run_snoc M ρ v t)) (allowed_join M ρ v (t ∷ []) a (subst (λ (τ : M.State). M.enabled τ t ≡ true) s m, tt))
        (uncut_more v t u (subst (λ (τ : M.State). cut v τ t ≡ false) s c)))
      where
        F : Option Schedule → Schedule → M.State → List Schedule
        F = λ a b c. found_from M top cut f k a b c

        G : Option Schedule → Schedule → M.State → List Schedule
        G = λ a b c. found_from M top cut g k a b c

        go : (b : Bool) → ended M σ ≡ b → ((t : ℕ) → M.enabled σ t ≡ true → cut v σ t ≡ false → found_from M top cut f k (past o t) (v ++ (t ∷ [])) (M.step σ t) ≡ found_from M top cut g k (past o t) (v ++ (t ∷ [])) (M.step σ t)) →
            found_from M top cut f (suc k) o v σ ≡ found_from M top cut g (suc k) o v σ
        go true e ih = rw (e, found_from) (at_same o v (agree v (allowed_full M ρ v a (ap (λ (τ : M.State). ended M τ) (sym s) ∙ e)) u))
        go false e ih = rw (e, found_from) (concat_range_same (found_by M top cut f F o v σ) (found_by M top cut g G o v σ) (λ t. by_same F G o v σ t (ih t)) (top - low o) (low o))

    -- THE SAME IS FOUND
    pub found_same : (k : ℕ) (o : Option Schedule) → found_from M top cut f k o [] ρ ≡ found_from M top cut g k o [] ρ
    found_same k o = same_from k o [] ρ (sym (run_nil M ρ)) tt nothing_cut
