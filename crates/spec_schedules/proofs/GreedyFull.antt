-- Greedy is least among full schedules: from F1, F2 and F3 the walk is the least full schedule that ends in the goal, whenever there is one,
-- and all full schedules that end in the goal end in the same state.
use mathlib.Core.Path.{◌≡◌, refl, sym, ap, subst, ◌∙◌}
use mathlib.Core.Logic.{◌≢◌, ◌⊎◌, inl, inr, ⊎_elim}
use mathlib.Core.Bool.{Bool, true, false, true≢false}
use mathlib.Core.List.Memᴰ
use mathlib.Core.List.{[], ◌∷◌, ◌++◌, Memᴰ}
use Prim.Native.Nat.{ℕ, suc, ◌+◌, ◌≤◌}
use native.Mathlib.Omega.{arith}
use native.Mathlib.Decide.{ℕ_discrete}
use lib.Dec.{ltb}
use lib.ListN.{length, length-append}
use Rattle.spec_file.specs.Lists.{Ascends}
use Rattle.spec_schedules.specs.Order.{Schedule}
use Rattle.spec_schedules.specs.System.{System, Lawful, run, ended, FullFrom}
use Rattle.spec_schedules.specs.Greedy.{greedy, Fitting}
use Rattle.spec_schedules.proofs.GreedyTerms.{Reaches}
use Rattle.spec_schedules.proofs.Order.{AtMost}
use Rattle.spec_schedules.proofs.Runs.{run_cons, ended_none, full_length}
use Rattle.spec_schedules.proofs.Greedy.{GreedyLaws, greedy_least, one_end}

-- what `fits` must satisfy for the goal, in states that satisfy `Inv`
pub record FitsLaws (M : System) (fits : M.State → ℕ → Bool) (Goal Inv : M.State → Type 0) : Type 0 where
  pub allowed : (σ : M.State) (t : ℕ) → Inv σ → fits σ t ≡ true → M.enabled σ t ≡ true
  pub kept : (σ : M.State) (t : ℕ) → Inv σ → M.enabled σ t ≡ true → Inv (M.step σ t)
  -- F1: the first byte of a full schedule that ends in the goal fits
  pub first_fits : (σ : M.State) (t : ℕ) (s : Schedule) → Inv σ → Reaches M Goal σ (t ∷ s) → fits σ t ≡ true
  -- F2: a byte that fits can be moved to the front from its first place, with the same end
  pub moves : (σ : M.State) (t : ℕ) (u s : Schedule) → Inv σ → fits σ t ≡ true → (Memᴰ t u → ⊥) → Reaches M Goal σ (u ++ (t ∷ s)) →
      FullFrom M σ (t ∷ (u ++ s)) × (run M σ (t ∷ (u ++ s)) ≡ run M σ (u ++ (t ∷ s)))
  -- F3: it has a place in every such schedule
  pub occurs : (σ : M.State) (t : ℕ) (s : Schedule) → Inv σ → fits σ t ≡ true → Reaches M Goal σ s → Memᴰ t s

-- the first place of a member
pub first_place_lem : (t : ℕ) (s : Schedule) → Memᴰ t s → (u : Schedule) × (v : Schedule) × (s ≡ u ++ (t ∷ v)) × (Memᴰ t u → ⊥)
first_place_lem t [] m = absurd (Memᴰ.not-nil m)
first_place_lem t (a ∷ s) m = go (ℕ_discrete t a) (Memᴰ.cases_cons m) (λ k. first_place_lem t s k)
  where
    go : Dec (t ≡ a) → (t ≡ a) ⊎ Memᴰ t s → (Memᴰ t s → (u : Schedule) × (v : Schedule) × (s ≡ u ++ (t ∷ v)) × (Memᴰ t u → ⊥)) →
        (u : Schedule) × (v : Schedule) × (a ∷ s ≡ u ++ (t ∷ v)) × (Memᴰ t u → ⊥)
    go (yes q) d ih = ([], s, ap (λ (x : ℕ). x ∷ s) (sym q), λ n. Memᴰ.not-nil n)
    go (no ne) (inl q) ih = absurd (ne q)
    go (no ne) (inr k) ih =
        let r = ih k in
        (a ∷ r.0, r.1, ap (λ (l : Schedule). a ∷ l) r.2, λ n. ⊎_elim (λ (i : t ≡ a). ne i) (λ (j : Memᴰ t r.0). r.3 j) (Memᴰ.cases_cons n))

module _ (M : System) (L : Lawful M) where
  -- F3 where a byte that may step stays so until it is taken
  pub stays_occurs : ((σ : M.State) (a b : ℕ) → a ≢ b → M.enabled σ a ≡ true → M.enabled σ b ≡ true → M.enabled (M.step σ a) b ≡ true) →
      (σ : M.State) (t : ℕ) (s : Schedule) → M.enabled σ t ≡ true → FullFrom M σ s → Memᴰ t s
  stays_occurs stays σ t [] e f = absurd (true≢false (sym e ∙ ended_none M L σ t f))
  stays_occurs stays σ t (a ∷ s) e f = go (ℕ_discrete a t) (λ ne. stays_occurs stays (M.step σ a) t s (stays σ a t ne f.0 e) f.1)
    where
      go : Dec (a ≡ t) → ((a ≢ t) → Memᴰ t s) → Memᴰ t (a ∷ s)
      go (yes q) ih = Memᴰ.head (sym q)
      go (no ne) ih = Memᴰ.tail (ih ne)

  module _ (asc : Ascends ltb M.names) (fits : M.State → ℕ → Bool) (Goal Inv : M.State → Type 0) (F : FitsLaws M fits Goal Inv) where
    -- the goal, where the run has ended
    abbrev End : M.State → Type 0
    End σ = (ended M σ ≡ true) × Goal σ

    pub reaches_fitting : (σ : M.State) (s : Schedule) → Inv σ → Reaches M Goal σ s → Fitting M fits End σ s
    unfolding run
    reaches_fitting σ [] i h = h
    reaches_fitting σ (t ∷ s) i h = (F.first_fits σ t s i h, reaches_fitting (M.step σ t) s (F.kept σ t i h.0.0) (h.0.1, h.1))

    pub fitting_reaches : (σ : M.State) (s : Schedule) → Inv σ → Fitting M fits End σ s → Reaches M Goal σ s
    unfolding run
    fitting_reaches σ [] i h = h
    fitting_reaches σ (t ∷ s) i h =
        let a = F.allowed σ t i h.0 in
        let r = fitting_reaches (M.step σ t) s (F.kept σ t i a) h.1 in
        ((a, r.0), r.1)

    front : (σ : M.State) (t : ℕ) (s : Schedule) → Inv σ → fits σ t ≡ true → Fitting M fits End σ s →
        (r : Schedule) × (length s ≡ suc (length r)) × Fitting M fits End (M.step σ t) r × (run M (M.step σ t) r ≡ run M σ s)
    front σ t s i e f =
        let h = fitting_reaches σ s i f in
        let p = first_place_lem t s (F.occurs σ t s i e h) in
        let k = subst (Reaches M Goal σ) p.2 h in
        let m = F.moves σ t p.0 p.1 i e p.3 k in (
          p.0 ++ p.1,
          ap length p.2 ∙ simp length-append (omega arith),
          reaches_fitting (M.step σ t) (p.0 ++ p.1) (F.kept σ t i m.0.0) (m.0.1, subst Goal (sym m.1 ∙ run_cons M σ t (p.0 ++ p.1)) k.1),
          sym (run_cons M σ t (p.0 ++ p.1)) ∙ m.1 ∙ ap (run M σ) (sym p.2),
        )

    laws : GreedyLaws M fits End Inv
    laws = record {
      ascending = asc;
      named = λ σ t i e. L.named σ t (F.allowed σ t i e);
      kept = λ σ t i e. F.kept σ t i (F.allowed σ t i e);
      final = λ σ t i o. final σ t i o.0 (fits σ t) refl;
      front = front;
    }
      where
        final : (σ : M.State) (t : ℕ) → Inv σ → ended M σ ≡ true → (b : Bool) → fits σ t ≡ b → fits σ t ≡ false
        final σ t i o true e = absurd (true≢false (sym (F.allowed σ t i e) ∙ ended_none M L σ t o))
        final σ t i o false e = e

    -- THE WALK IS THE LEAST full schedule that ends in the goal, whenever there is one
    pub greedy_least_full : (k : ℕ) (σ : M.State) (s : Schedule) → M.size σ ≤ k → Inv σ → Reaches M Goal σ s →
        Reaches M Goal σ (greedy M fits k σ) × (run M σ (greedy M fits k σ) ≡ run M σ s) × ((r : Schedule) → Reaches M Goal σ r → AtMost (greedy M fits k σ) r)
    greedy_least_full k σ s h i f =
        let b = greedy_least M fits End Inv laws k σ s (omega (arith, full_length M L σ s f.0)) i (reaches_fitting σ s i f) in
        (fitting_reaches σ (greedy M fits k σ) i b.0, b.1, λ r g. b.2 r (reaches_fitting σ r i g))

    -- ONE GOAL, ONE END
    pub one_end_full : (σ : M.State) (s r : Schedule) → Inv σ → Reaches M Goal σ s → Reaches M Goal σ r → run M σ s ≡ run M σ r
    one_end_full σ s r i f g = one_end M fits End Inv laws σ s r i (reaches_fitting σ s i f) (reaches_fitting σ r i g)
