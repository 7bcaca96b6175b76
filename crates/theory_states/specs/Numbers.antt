-- HOW MANY full schedules the search finds behind a prefix, and in how many of them a step behind it fails. `cut` gives up a prefix and a next
-- byte; `breaks` says of a state and a byte whether that step fails; `top` is above every byte that may step. What failed before counts
-- for neither number, so they go by what is to come alone.
use Rattle.std.specs.Prelude.{ℕ, zero, suc, ◌+◌, Bool, cond, [], ◌∷◌, ◌++◌}
use Rattle.spec_schedules.specs.Order.{Schedule}
use Rattle.spec_schedules.specs.System.{System, ended}

pub record Numbers : Type 0 where
  pub listed : ℕ
  pub failing : ℕ

abbrev pub nothing : Numbers
nothing = record { listed = 0; failing = 0 }

-- nobody may step: one, and nothing fails any more
abbrev pub one : Numbers
one = record { listed = 1; failing = 0 }

abbrev pub plus : Numbers → Numbers → Numbers
plus a b = record { listed = a.listed + b.listed; failing = a.failing + b.failing }

-- behind a step that fails all fail
abbrev pub charged : Bool → Numbers → Numbers
charged b n = record { listed = n.listed; failing = cond b n.listed n.failing }

-- f d, f (d + 1), .., so many, together
unfoldable pub sum_range : (ℕ → Numbers) → ℕ → ℕ → Numbers
sum_range f zero d = nothing
sum_range f (suc j) d = plus (f d) (sum_range f j (d + 1))

module _ (M : System) (top : ℕ) (cut : Schedule → M.State → ℕ → Bool) (breaks : M.State → ℕ → Bool) where
  -- with t as the next step, by f behind it
  unfoldable pub numbers_by : (Schedule → M.State → Numbers) → Schedule → M.State → ℕ → Numbers
  numbers_by f v σ t = cond (M.enabled σ t) (cond (cut v σ t) nothing (charged (breaks σ t) (f (v ++ (t ∷ [])) (M.step σ t)))) nothing

  -- of at most so many steps, behind the prefix v that led to σ
  unfoldable pub numbers_from : ℕ → Schedule → M.State → Numbers
  numbers_from zero v σ = cond (ended M σ) one nothing
  numbers_from (suc k) v σ = cond (ended M σ) one (sum_range (numbers_by (λ w τ. numbers_from k w τ) v σ) top 0)

  -- of any number
  abbrev pub numbers : Schedule → M.State → Numbers
  numbers v σ = numbers_from (M.size σ) v σ

  abbrev pub numbers_with : Schedule → M.State → ℕ → Numbers
  numbers_with v σ t = numbers_by (λ w τ. numbers w τ) v σ t
