-- THE FIRST FAILING SCHEDULE WITH A TABLE of keys behind which no step fails. Where nothing has failed yet such a key is passed over, and a key
-- behind which nothing failing was found is marked. The table is whatever `clean` and `mark` make of it, and may forget any mark.
use Rattle.std.specs.Prelude.{ℕ, zero, suc, ◌+◌, ◌≡◌, Bool, true, false, cond, not, ◌&&◌, [], ◌∷◌, ◌++◌}
use Rattle.std.proofs.Math.Option.{Option, none, some}
use Rattle.spec_schedules.specs.Order.{Schedule}
use Rattle.spec_schedules.specs.System.{System, ended}
use Rattle.theory_states.specs.Numbers.{numbers}
use Rattle.theory_states.specs.Memory.{True}

module _ (M : System) (top : ℕ) (cut : Schedule → M.State → ℕ → Bool) (fails : M.State → Bool) {K Entries : Type 0} (key : Schedule → M.State → K)
    (clean : Entries → K → Bool) (mark : Entries → K → Entries) where
  -- where nobody may step: the prefix, if it has failed
  unfoldable pub first_at : Schedule → M.State → Option Schedule
  first_at v σ = cond (fails σ) (some v) none

  -- with one next byte, by f; every search hands the table on
  unfoldable pub first_by : (Entries → Schedule → M.State → Option Schedule × Entries) → Schedule → M.State → Entries → ℕ → Option Schedule × Entries
  first_by f v σ m t = cond (M.enabled σ t) (cond (cut v σ t) (none, m) (f m (v ++ (t ∷ [])) (M.step σ t))) (none, m)

  -- what was found, or else what is found next
  unfoldable pub or_else : Option Schedule → Entries → (Entries → Option Schedule × Entries) → Option Schedule × Entries
  or_else (some s) m next = (some s, m)
  or_else none m next = next m

  -- with so many next bytes from d on, until one is found
  unfoldable pub first_over : (Entries → ℕ → Option Schedule × Entries) → ℕ → ℕ → Entries → Option Schedule × Entries
  first_over f zero d m = (none, m)
  first_over f (suc j) d m = let r : Option Schedule × Entries = f m d in or_else r.0 r.1 (λ e. first_over f j (d + 1) e)

  -- none was found and nothing had failed: marked
  unfoldable pub marked : Bool → K → Option Schedule → Entries → Option Schedule × Entries
  marked failed k (some s) m = (some s, m)
  marked failed k none m = (none, cond failed m (mark m k))

  -- the first failing one of at most so many steps, behind the prefix v that led to σ, and the table behind
  unfoldable pub first_from : ℕ → Entries → Schedule → M.State → Option Schedule × Entries
  first_from zero m v σ = (cond (ended M σ) (first_at v σ) none, m)
  first_from (suc k) m v σ =
      cond (ended M σ) (first_at v σ, m)
      (cond (not (fails σ) && clean m (key v σ)) (none, m)
      (let r : Option Schedule × Entries = first_over (λ e t. first_by (λ d w τ. first_from k d w τ) v σ e t) top 0 m in marked (fails σ) (key v σ) r.0 r.1))

  -- behind every position that the search meets with a clean key no step fails
  abbrev pub TrueMarks : (M.State → ℕ → Bool) → (Schedule → M.State → Type 0) → Entries → Type 0
  TrueMarks breaks Met m = True {P = Schedule × M.State} {E = Unit {0}} (λ x. Met x.0 x.1) (λ x. key x.0 x.1) (λ x n. (numbers M top cut breaks x.0 x.1).failing ≡ 0)
      (λ k n. clean m k ≡ true)
