-- The numbers behind a prefix, one turn at a time, for code that loops over the next bytes. More steps than are left change nothing.
use Prim.Native.Nat.{ℕ, zero, suc, ◌+◌, ◌-◌, ◌<◌, ◌≤◌}
use mathlib.Core.Path.{◌≡◌, refl, sym, ap, ap₂, ◌∙◌}
use mathlib.Core.Bool.{Bool, true, false, cond}
use mathlib.Core.List.{[], ◌∷◌, ◌++◌}
use native.Mathlib.Omega.{arith}
use Rattle.spec_schedules.specs.Order.{Schedule}
use Rattle.spec_schedules.specs.System.{System, Lawful, ended}
use Rattle.spec_schedules.proofs.Runs.{ended_of}
use Rattle.theory_states.specs.Numbers.{Numbers, nothing, one, plus, charged, sum_range, numbers_by, numbers_from, numbers, numbers_with}

-- sums of equal numbers
pub sum_same : (f g : ℕ → Numbers) → ((d : ℕ) → f d ≡ g d) → (j d : ℕ) → sum_range f j d ≡ sum_range g j d
unfolding sum_range
sum_same f g h zero d = refl
sum_same f g h (suc j) d = ap₂ plus (h d) (sum_same f g h j (d + 1))

-- a sum, one number at a time
sum_next : (f : ℕ → Numbers) (j i d : ℕ) → j ≡ suc i → sum_range f j d ≡ plus (f d) (sum_range f i (d + 1))
unfolding sum_range
sum_next f j i d e = rw e

pub sum_more : (f : ℕ → Numbers) (top t : ℕ) → t < top → sum_range f (top - t) t ≡ plus (f t) (sum_range f (top - (t + 1)) (t + 1))
sum_more f top t h = sum_next f (top - t) (top - (t + 1)) t (omega arith)

sum_none : (f : ℕ → Numbers) (j d : ℕ) → j ≡ 0 → sum_range f j d ≡ nothing
unfolding sum_range
sum_none f j d e = rw e

pub sum_over : (f : ℕ → Numbers) (top t : ℕ) → top ≤ t → sum_range f (top - t) t ≡ nothing
sum_over f top t h = sum_none f (top - t) t (omega arith)

-- where nothing is left nobody may step
pub at_last : (M : System) → Lawful M → (σ : M.State) → M.size σ ≡ 0 → ended M σ ≡ true
at_last M lawful σ z = ended_of M σ (λ t. go t (M.enabled σ t) refl)
  where
    go : (t : ℕ) (b : Bool) → M.enabled σ t ≡ b → M.enabled σ t ≡ false
    go t true e = absurd (omega (arith, lawful.falls σ t e, z))
    go t false e = e

module _ (M : System) (top : ℕ) (cut : Schedule → M.State → ℕ → Bool) (breaks : M.State → ℕ → Bool) where
  -- ---- with one next byte
  module _ (f : Schedule → M.State → Numbers) (v : Schedule) (σ : M.State) (t : ℕ) where
    pub by_not : M.enabled σ t ≡ false → numbers_by M top cut breaks f v σ t ≡ nothing
    unfolding numbers_by
    by_not e = rw e

    pub by_cut : M.enabled σ t ≡ true → cut v σ t ≡ true → numbers_by M top cut breaks f v σ t ≡ nothing
    unfolding numbers_by
    by_cut e c = rw (e, c)

    pub by_live : M.enabled σ t ≡ true → cut v σ t ≡ false → numbers_by M top cut breaks f v σ t ≡ charged (breaks σ t) (f (v ++ (t ∷ [])) (M.step σ t))
    unfolding numbers_by
    by_live e c = rw (e, c)

  -- the numbers with one next byte are the same where those behind its step are
  pub by_agree : (f g : Schedule → M.State → Numbers) (v : Schedule) (σ : M.State) (t : ℕ) →
      (M.enabled σ t ≡ true → f (v ++ (t ∷ [])) (M.step σ t) ≡ g (v ++ (t ∷ [])) (M.step σ t)) → numbers_by M top cut breaks f v σ t ≡ numbers_by M top cut breaks g v σ t
  by_agree f g v σ t h = go (M.enabled σ t) refl (cut v σ t) refl
    where
      go : (a : Bool) → M.enabled σ t ≡ a → (b : Bool) → cut v σ t ≡ b → numbers_by M top cut breaks f v σ t ≡ numbers_by M top cut breaks g v σ t
      go false e b c = by_not f v σ t e ∙ sym (by_not g v σ t e)
      go true e true c = by_cut f v σ t e c ∙ sym (by_cut g v σ t e c)
      go true e false c = by_live f v σ t e c ∙ ap (charged (breaks σ t)) (h e) ∙ sym (by_live g v σ t e c)

  -- ---- behind a prefix
  pub from_ended : (k : ℕ) (v : Schedule) (σ : M.State) → ended M σ ≡ true → numbers_from M top cut breaks k v σ ≡ one
  unfolding numbers_from
  from_ended zero v σ e = rw e
  from_ended (suc k) v σ e = rw e

  pub from_stuck : (v : Schedule) (σ : M.State) → ended M σ ≡ false → numbers_from M top cut breaks 0 v σ ≡ nothing
  unfolding numbers_from
  from_stuck v σ e = rw e

  pub from_branches : (k : ℕ) (v : Schedule) (σ : M.State) → ended M σ ≡ false →
      numbers_from M top cut breaks (suc k) v σ ≡ sum_range (numbers_by M top cut breaks (λ w τ. numbers_from M top cut breaks k w τ) v σ) top 0
  unfolding numbers_from
  from_branches k v σ e = rw e

  module _ (lawful : Lawful M) where
    -- MORE STEPS THAN ARE LEFT CHANGE NOTHING
    pub enough : (k j : ℕ) (v : Schedule) (σ : M.State) → M.size σ ≤ k → M.size σ ≤ j → numbers_from M top cut breaks k v σ ≡ numbers_from M top cut breaks j v σ
    enough zero j v σ a b = let e = at_last M lawful σ (omega arith) in from_ended 0 v σ e ∙ sym (from_ended j v σ e)
    enough (suc k) zero v σ a b = let e = at_last M lawful σ (omega arith) in from_ended (suc k) v σ e ∙ sym (from_ended 0 v σ e)
    enough (suc k) (suc j) v σ a b = go (ended M σ) refl (λ t e. let h = lawful.falls σ t e in enough k j (v ++ (t ∷ [])) (M.step σ t) (omega (arith, h, a)) (omega (arith, h, b)))
      where
        f : ℕ → Schedule → M.State → Numbers
        f i = λ w τ. numbers_from M top cut breaks i w τ

        go : (c : Bool) → ended M σ ≡ c → ((t : ℕ) → M.enabled σ t ≡ true → f k (v ++ (t ∷ [])) (M.step σ t) ≡ f j (v ++ (t ∷ [])) (M.step σ t)) →
            numbers_from M top cut breaks (suc k) v σ ≡ numbers_from M top cut breaks (suc j) v σ
        go true e ih = from_ended (suc k) v σ e ∙ sym (from_ended (suc j) v σ e)
        go false e ih =
            from_branches k v σ e
            ∙ sum_same (numbers_by M top cut breaks (f k) v σ) (numbers_by M top cut breaks (f j) v σ) (λ t. by_agree (f k) (f j) v σ t (ih t)) top 0
            ∙ sym (from_branches j v σ e)

    -- with one next byte
    pub with_enough : (k : ℕ) (v : Schedule) (σ : M.State) (t : ℕ) → M.size σ ≤ suc k → numbers_by M top cut breaks (λ w τ. numbers_from M top cut breaks k w τ) v σ t ≡ numbers_with M top cut breaks v σ t
    with_enough k v σ t a = by_agree (λ w τ. numbers_from M top cut breaks k w τ) (λ w τ. numbers M top cut breaks w τ) v σ t
        (λ q. let h = lawful.falls σ t q in enough k (M.size (M.step σ t)) (v ++ (t ∷ [])) (M.step σ t) (omega (arith, h, a)) (omega arith))

    -- ---- the numbers: nobody may step; somebody may
    pub numbers_ended : (v : Schedule) (σ : M.State) → ended M σ ≡ true → numbers M top cut breaks v σ ≡ one
    numbers_ended v σ e = from_ended (M.size σ) v σ e

    pub numbers_branches : (v : Schedule) (σ : M.State) → ended M σ ≡ false → numbers M top cut breaks v σ ≡ sum_range (numbers_with M top cut breaks v σ) top 0
    numbers_branches v σ e =
        let n : ℕ = M.size σ in
        enough n (suc n) v σ (omega arith) (omega arith)
        ∙ from_branches n v σ e
        ∙ sum_same (numbers_by M top cut breaks (λ w τ. numbers_from M top cut breaks n w τ) v σ) (numbers_with M top cut breaks v σ)
        (λ t. with_enough n v σ t (omega arith)) top 0
