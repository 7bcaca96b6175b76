-- WHO IS NEAR WHOM. R2 and R2 far compare two threads of one `02` line of which nothing is in memory. All that their future answers need beside the
-- view is whether one could still become the other's twin by its next accesses, from memory and its queue as they are.
use Rattle.std.specs.Prelude.{ℕ, zero, suc, ◌≡◌, Bool, true, not, ◌&&◌, ◌||◌, eqb}
use Rattle.spec_file.specs.Program.{Program}
use Rattle.spec_tso.specs.State.{State, step, enabled, size}
use Rattle.theory_tso.specs.Rules.{twin}

-- by n accesses t comes to have u as its twin
abbrev pub NearBy : Program → ℕ → State → ℕ → ℕ → Type 0
NearBy p zero σ t u = twin p σ t u ≡ true
NearBy p (suc n) σ t u = (enabled σ t ≡ true) × NearBy p n (step σ t) t u

abbrev pub Near : Program → State → ℕ → ℕ → Type 0
Near p σ t u = (n : ℕ) × NearBy p n σ t u

-- as a test, by at most so many
unfoldable pub near_in : Program → ℕ → State → ℕ → ℕ → Bool
near_in p zero σ t u = twin p σ t u
near_in p (suc n) σ t u = twin p σ t u || (enabled σ t && near_in p n (step σ t) t u)

-- no run has more steps than its size
unfoldable pub near : Program → State → ℕ → ℕ → Bool
near p σ t u = not (eqb t u) && near_in p (size σ) σ t u
