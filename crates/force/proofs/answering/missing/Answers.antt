-- `missing` is the library's search over the eight numbers.
use Rattle.std.proofs.Common.{ℕ, ◌<◌, ◌≤◌, ◌≡◌, true, Option, Some, None, MatchOption, arith, rules, tests}
use Rattle.std.proofs.lemmas.Iterator.{first_from_Range}
use Rattle.spec_schedules.specs.Sets.{has}
use Rattle.force.specs.Answered.{Missing, FirstMissing}
use Rattle.force.proofs.answering.missing.Goals as goal

-- the number names a thread, if it is in the set
abbrev Named : ℕ → ℕ → ℕ → Type 0
Named set threads k = has set k ≡ true → k < threads

first_missing : (set threads : ℕ) (r : Option ℕ) → MatchOption r ((k : ℕ) → 0 ≤ k → k < 8 → Named set threads k)
    (λ i. (0 ≤ i) × (i < 8) × Missing set threads i × ((k : ℕ) → 0 ≤ k → k < i → Named set threads k)) → FirstMissing set threads r
first_missing set threads None h = λ k b m. h k (omega arith) b m
first_missing set threads (Some i) h = (h.1, h.2, λ k b m. h.3 k (omega arith) b m)

pub returns : goal.returns
returns c =
    let x = c.args in
    first_missing x.set x.threads c.find.result
    (first_from_Range _ _ _ c.find.result (Missing x.set x.threads) (Named x.set x.threads) c.find.ensures.ran (λ k q e. search (rules, tests)) (λ k q e. search (rules, tests)))
