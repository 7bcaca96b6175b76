-- COUNTING WITH A TABLE: a state is known by its key. It is looked up before the search goes on behind it, and put into the table after. The
-- table is whatever `look` and `put` make of it, and may drop any entry at any time.
use Rattle.std.specs.Prelude.{ℕ, zero, suc, ◌+◌, ◌≡◌, Bool, true, false, cond, [], ◌∷◌, ◌++◌}
use Rattle.std.proofs.Math.Option.{Option, none, some}
use Rattle.spec_schedules.specs.Order.{Schedule}
use Rattle.spec_schedules.specs.System.{System, ended}
use Rattle.theory_states.specs.Numbers.{Numbers, nothing, one, plus, charged, numbers}
use Rattle.theory_states.specs.Memory.{True}

module _ (M : System) (top : ℕ) (cut : Schedule → M.State → ℕ → Bool) (breaks : M.State → ℕ → Bool) {K Entries : Type 0} (key : Schedule → M.State → K)
    (look : Entries → K → Option Numbers) (put : Entries → K → Numbers → Entries) where
  -- behind a step that fails or not
  abbrev pub charged_with : Bool → Numbers × Entries → Numbers × Entries
  charged_with b r = (charged b r.0, r.1)

  -- with one next byte, by f; every search hands the table on
  unfoldable pub counted_by : (Entries → Schedule → M.State → Numbers × Entries) → Schedule → M.State → Entries → ℕ → Numbers × Entries
  counted_by f v σ m t = cond (M.enabled σ t) (cond (cut v σ t) (nothing, m) (charged_with (breaks σ t) (f m (v ++ (t ∷ [])) (M.step σ t)))) (nothing, m)

  -- with so many next bytes from d on, in turn
  unfoldable pub counted_over : (Entries → ℕ → Numbers × Entries) → ℕ → ℕ → Entries → Numbers × Entries
  counted_over f zero d m = (nothing, m)
  counted_over f (suc j) d m =
      let r : Numbers × Entries = f m d in
      let s : Numbers × Entries = counted_over f j (d + 1) r.1 in
      (plus r.0 s.0, s.1)

  -- what the table says, or what is counted and then put into it
  unfoldable pub recalled : Entries → K → Option Numbers → Numbers × Entries → Numbers × Entries
  recalled m k (some n) r = (n, m)
  recalled m k none r = (r.0, put r.1 k r.0)

  -- the numbers behind the prefix v that led to σ, of at most so many steps, and the table behind
  unfoldable pub counted_from : ℕ → Entries → Schedule → M.State → Numbers × Entries
  counted_from zero m v σ = (cond (ended M σ) one nothing, m)
  counted_from (suc k) m v σ =
      cond (ended M σ) (one, m) (recalled m (key v σ) (look m (key v σ)) (counted_over (λ e t. counted_by (λ d w τ. counted_from k d w τ) v σ e t) top 0 m))

  -- what it says of a key are the numbers behind every position that the search meets with this key
  abbrev pub TrueNumbers : (Schedule → M.State → Type 0) → Entries → Type 0
  TrueNumbers Met m =
      True {P = Schedule × M.State} {E = Numbers} (λ x. Met x.0 x.1) (λ x. key x.0 x.1) (λ x n. n ≡ numbers M top cut breaks x.0 x.1) (λ k n. look m k ≡ some n)
