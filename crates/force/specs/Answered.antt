-- The answer of the call as the code gives it: for the hostile side 0 where it has no step before the first one, else its least first step
-- that keeps the win, plus 1.
use Rattle.std.specs.Prelude.{ℕ, ◌+◌, ◌<◌, ◌≤◌, ◌≡◌, true, Option, Some, None, Result, Ok, Err}
use Rattle.std.proofs.Math.Option as Math
use Rattle.spec_file.specs.declared.refusal.Refusal.{Refusal}
use Rattle.spec_schedules.specs.Sets.{has}
use Rattle.spec_force.specs.Forced.{Answer, hostile_can, friendly_can, refusing}
use Rattle.force.specs.declared.answering.Winner.{Winner}
use Rattle.force.specs.declared.answering.Winner.TheVariants.{Hostile, Friendly}

unfoldable pub answer_of : Answer → Result Winner Refusal
answer_of (hostile_can Math.none) = Ok (Hostile 0)
answer_of (hostile_can (Math.some t)) = Ok (Hostile (t + 1))
answer_of friendly_can = Ok Friendly
answer_of (refusing n k) = Err (record { number = n; place = k })

-- the number is in the set and names none of so many threads; for the crate's own functions
abbrev pub Missing : ℕ → ℕ → ℕ → Type 0
Missing set threads k = (has set k ≡ true) × (threads ≤ k)

-- it is the lowest such number of eight, or there is none
abbrev pub FirstMissing : ℕ → ℕ → Option ℕ → Type 0
FirstMissing set threads (Some r) = (r < 8) × Missing set threads r × ((k : ℕ) → k < r → has set k ≡ true → k < threads)
FirstMissing set threads None = (k : ℕ) → k < 8 → has set k ≡ true → k < threads
