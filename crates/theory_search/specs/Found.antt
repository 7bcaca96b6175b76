-- All that the search finds above a bound, in order: depth first, bytes ascending, along the bound's own path no smaller byte than its.
-- `cut` gives up a prefix and a next byte; `listed` is the test at a full schedule; `top` is above every byte that may step. The law says
-- that for every sound cut these are exactly the listed full schedules above the bound.
use Rattle.std.specs.Prelude.{ℕ, zero, suc, ◌+◌, ◌-◌, Bool, true, false, List, [], ◌∷◌, ◌++◌}
use Rattle.std.proofs.Math.Option.{Option, none, some}
use Rattle.spec_schedules.specs.Order.{Schedule}
use Rattle.spec_schedules.specs.System.{System, ended}
use Rattle.theory_search.specs.Search.{low, past}

-- f d, f (d + 1), .., so many, one behind the other
unfoldable pub concat_range : {A : Type 0} → (ℕ → List A) → ℕ → ℕ → List A
concat_range f zero d = []
concat_range f (suc j) d = f d ++ concat_range f j (d + 1)

module _ (M : System) (top : ℕ) (cut : Schedule → M.State → ℕ → Bool) (listed : Schedule → Bool) where
  -- what is found at a full schedule: itself, if it is above the bound and listed
  unfoldable pub found_at : Option Schedule → Schedule → List Schedule
  found_at none v = elim (listed v) [ true ↦ v ∷ [] | false ↦ [] ]
  found_at (some b) v = []

  -- what is found behind the prefix v with the step t: what f finds there, if t may step and is not cut
  unfoldable pub found_by : (Option Schedule → Schedule → M.State → List Schedule) → Option Schedule → Schedule → M.State → ℕ
      → List Schedule
  found_by f o v σ t = elim (M.enabled σ t) [
    | true ↦ elim (cut v σ t) [ true ↦ [] | false ↦ f (past o t) (v ++ (t ∷ [])) (M.step σ t) ]
    | false ↦ []
  ]

  -- what is found above the bound o behind the prefix v that leads to σ, within as many steps as the first argument says
  unfoldable pub found_from : ℕ → Option Schedule → Schedule → M.State → List Schedule
  found_from zero o v σ = elim (ended M σ) [ true ↦ found_at o v | false ↦ [] ]
  found_from (suc k) o v σ = elim (ended M σ) [
    | true ↦ found_at o v
    | false ↦ concat_range (found_by (λ a b c. found_from k a b c) o v σ) (top - low o) (low o)
  ]
