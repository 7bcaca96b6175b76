-- The list of a step system: exactly the listed schedules, ascending, finite; every full schedule is alike to exactly one of them; and the search
-- finds those of it that are above a bound, for every sound cut and every exact test.
use mathlib.Core.Path.{◌≡◌, refl}
use mathlib.Core.Logic.{◌↔◌}
use mathlib.Core.Bool.{Bool, true, false}
use mathlib.Core.List.{Memᴰ}
use Prim.Native.Nat.{ℕ, ◌^◌, ◌<◌, ◌≤◌}
use native.Mathlib.Nat.{le_trans}
use lib.Dec.{ltb}
use lib.ListN.{length}
use Rattle.spec_schedules.specs.Lists.{filter}
use Rattle.spec_file.specs.Lists.{Ascends}
use Rattle.spec_schedules.specs.Order.{Schedule, less}
use Rattle.spec_schedules.specs.System.{System, Lawful, FullFrom}
use Rattle.spec_schedules.specs.Fulls.{fulls}
use Rattle.spec_schedules.proofs.ListedTerms.{Listed, Smaller}
use Rattle.spec_schedules.specs.Listed.{list_of}
use Rattle.spec_schedules.proofs.Fulls.{fulls_exact, fulls_ascend, fulls_length}
use Rattle.spec_schedules.proofs.Classes.{of_firsts, in_firsts, firsts_ascend, firsts_length, firsts_filter, covered, covered_once}

module _ (M : System) (L : Lawful M) (asc : Ascends ltb M.names) (ρ : M.State) (like : Schedule → Schedule → Bool) where
  abbrev all_full : Ascends less (fulls M ρ)
  all_full = fulls_ascend M L asc ρ

  abbrev member : (s : Schedule) → FullFrom M ρ s → Memᴰ s (fulls M ρ)
  member s f = (fulls_exact M L ρ s).1 f

  -- THE LIST is exact
  pub listed_exact : (s : Schedule) → Memᴰ s (list_of M ρ like) ↔ Listed M ρ like s
  unfolding list_of
  listed_exact s = (
    (λ m. let r = of_firsts like (fulls M ρ) all_full s m in ((fulls_exact M L ρ s).0 r.0, λ z f e. r.1 z (member z f) e)),
    λ h. in_firsts like (fulls M ρ) all_full s (member s h.0) (λ z m e. h.1 z ((fulls_exact M L ρ z).0 m) e),
  )

  -- the list ascends
  pub listed_ascend : Ascends less (list_of M ρ like)
  unfolding list_of
  listed_ascend = firsts_ascend like (fulls M ρ) all_full

  -- the list is finite: at most n ^ k members, for at most n names and k steps
  pub listed_length : (n k : ℕ) → length M.names ≤ n → 0 < n → M.size ρ ≤ k → length (list_of M ρ like) ≤ n ^ k
  unfolding list_of
  listed_length n k h p b = le_trans (firsts_length like (fulls M ρ)) (fulls_length M L ρ n k h p b)

  -- every full schedule is alike to a listed one, where alike is reflexive and transitive
  module _ (reflexive : (s : Schedule) → FullFrom M ρ s → like s s ≡ true)
      (transitive : (a b c : Schedule) → FullFrom M ρ a → FullFrom M ρ b → FullFrom M ρ c → like a b ≡ true → like b c ≡ true → like a c ≡ true) where
    full : (s : Schedule) → Memᴰ s (fulls M ρ) → FullFrom M ρ s
    full s m = (fulls_exact M L ρ s).0 m

    pub some_listed : (s : Schedule) → FullFrom M ρ s → (r : Schedule) × Memᴰ r (list_of M ρ like) × (like r s ≡ true)
    unfolding list_of
    some_listed s f = covered like (fulls M ρ) all_full (λ x m. reflexive x (full x m)) (λ x y z m n k. transitive x y z (full x m) (full y n) (full z k)) s (member s f)

    -- where alike is symmetric, a full schedule is alike to one listed schedule only
    pub one_listed : ((a b : Schedule) → FullFrom M ρ a → FullFrom M ρ b → like a b ≡ true → like b a ≡ true) →
        (s a b : Schedule) → FullFrom M ρ s → Memᴰ a (list_of M ρ like) → Memᴰ b (list_of M ρ like) → like a s ≡ true → like b s ≡ true → a ≡ b
    unfolding list_of
    one_listed symmetric s a b f m n e q =
        covered_once like (fulls M ρ) all_full (λ x m. reflexive x (full x m)) (λ x y z m n k. transitive x y z (full x m) (full y n) (full z k))
        (λ x y m n. symmetric x y (full x m) (full y n)) s a b (member s f) m n e q

  -- a test that is exact keeps exactly the listed ones, and every sound cut leaves the search exact
  module _ (listed : Schedule → Bool) (good : (s : Schedule) → FullFrom M ρ s → listed s ≡ true → Smaller M ρ like s → ⊥)
      (bad : (s : Schedule) → FullFrom M ρ s → listed s ≡ false → Smaller M ρ like s) where
    pub list_filter : list_of M ρ like ≡ filter listed (fulls M ρ)
    unfolding list_of
    list_filter = firsts_filter like (fulls M ρ) all_full listed unmatched beaten
      where
        unmatched : (s : Schedule) → Memᴰ s (fulls M ρ) → listed s ≡ true → (r : Schedule) → Memᴰ r (fulls M ρ) → less r s ≡ true → like r s ≡ false
        unmatched s m e r n q = go (like r s) refl
          where
            go : (b : Bool) → like r s ≡ b → like r s ≡ false
            go true k = absurd (good s ((fulls_exact M L ρ s).0 m) e (r, (fulls_exact M L ρ r).0 n, q, k))
            go false k = k

        beaten : (s : Schedule) → Memᴰ s (fulls M ρ) → listed s ≡ false → (r : Schedule) × Memᴰ r (fulls M ρ) × (less r s ≡ true) × (like r s ≡ true)
        beaten s m e = let b = bad s ((fulls_exact M L ρ s).0 m) e in (b.0, member b.0 b.1, b.2, b.3)
