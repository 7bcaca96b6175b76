-- A search with a sound cut finds exactly the listed schedules.
use mathlib.Core.Path.{◌≡◌, refl, sym, ap, ◌∙◌}
use mathlib.Core.Bool.{Bool, true, false}
use mathlib.Core.Option.{Option}
use mathlib.Core.List.{[], ◌∷◌, ◌++◌}
use Prim.Native.Nat.{ℕ, ◌<◌, ◌≤◌}
use lib.Dec.{ltb}
use Rattle.spec_file.specs.Lists.{Ascends}
use Rattle.spec_schedules.specs.Order.{Schedule}
use Rattle.spec_schedules.specs.System.{System, Lawful, run, FullFrom}
use Rattle.theory_search.specs.Search.{SoundCut}
use Rattle.spec_schedules.specs.Found.{after}
use Rattle.theory_search.specs.Found.{found_from}
use Rattle.spec_schedules.specs.Listed.{list_of}
use Rattle.spec_schedules.proofs.ListedTerms.{Smaller}
use Rattle.theory_search.proofs.Search.{found_above}
use Rattle.spec_schedules.proofs.Listed.{list_filter}

module _ (M : System) (L : Lawful M) (asc : Ascends ltb M.names) (ρ : M.State) (like : Schedule → Schedule → Bool) where
  -- a test that is exact keeps exactly the listed ones, and every sound cut leaves the search exact
  module _ (listed : Schedule → Bool) (good : (s : Schedule) → FullFrom M ρ s → listed s ≡ true → Smaller M ρ like s → ⊥)
      (bad : (s : Schedule) → FullFrom M ρ s → listed s ≡ false → Smaller M ρ like s) where
    -- a cut that gives up only what is alike to a smaller one is sound for the test
    pub cut_sound : (cut : Schedule → M.State → ℕ → Bool) →
        ((v : Schedule) (t : ℕ) (z : Schedule) → cut v (run M ρ v) t ≡ true → FullFrom M ρ (v ++ (t ∷ z)) → Smaller M ρ like (v ++ (t ∷ z))) → SoundCut M ρ cut listed
    cut_sound cut sound v t z c f = unlisted (v ++ (t ∷ z)) f (sound v t z c f) (listed (v ++ (t ∷ z))) refl
      where
        unlisted : (s : Schedule) → FullFrom M ρ s → Smaller M ρ like s → (b : Bool) → listed s ≡ b → listed s ≡ false
        unlisted s f w true e = absurd (good s f e w)
        unlisted s f w false e = e

    -- THE SEARCH FINDS what the list has above the bound
    pub found_listed : (top : ℕ) → ((σ : M.State) (t : ℕ) → M.enabled σ t ≡ true → t < top) → (cut : Schedule → M.State → ℕ → Bool) →
        ((v : Schedule) (t : ℕ) (z : Schedule) → cut v (run M ρ v) t ≡ true → FullFrom M ρ (v ++ (t ∷ z)) → Smaller M ρ like (v ++ (t ∷ z))) →
        (k : ℕ) (o : Option Schedule) → M.size ρ ≤ k → found_from M top cut listed k o [] ρ ≡ after o (list_of M ρ like)
    found_listed top bound cut sound k o h = found_above M top cut listed L asc bound ρ (cut_sound cut sound) k o h ∙ ap (after o) (sym (list_filter M L asc ρ like listed good bad))
