-- `owns_all` is the library's question of the eight numbers.
use Rattle.std.proofs.Common.{ℕ, ◌<◌, ◌≤◌, ◌≡◌, Bool, true, false, MatchBool, get_or, refl, subst, arith, rules, tests}
use Rattle.std.proofs.lemmas.Bool.{false≢true}
use Rattle.std.specs.List.{AllWithin, HoldsAt, range_with_len}
use Rattle.std.proofs.lemmas.Iterator.{cases_from_all, YieldsList-from_range}
use Rattle.std.proofs.lemmas.List.FromFn.{get_or-range_with_len}
use Rattle.spec_schedules.specs.Sets.{has}
use Rattle.force.proofs.answering.owns_all.Goals as goal

-- the number is in the set, if it names a thread
abbrev Owned : ℕ → ℕ → ℕ → Type 0
Owned set threads k = k < threads → has set k ≡ true

all_owned : (set threads : ℕ) → threads ≤ 8 → (r : Bool)
    → MatchBool r (AllWithin (Owned set threads) (range_with_len 0 8) 0 8) ((k : ℕ) × (k < 8) × HoldsAt (λ k. Unit {0}) (range_with_len 0 8) k)
    → r ≡ true → (t : ℕ) → t < threads → has set t ≡ true
all_owned set threads e false h q t b = absurd (false≢true q)
all_owned set threads e true h q t b =
    let at : get_or (range_with_len 0 8) t 0 ≡ t = omega (arith, get_or-range_with_len 0 8 t 0 (omega arith)) in
    subst (Owned set threads) at (h t 0 (omega arith) (omega arith)) b

pub returns-then-threads-le8 : goal.returns-then-threads-le8
returns-then-threads-le8 c =
    let x = c.args in
    all_owned x.set x.threads c.if-threads-le8.true c.all.result
    (cases_from_all _ _ _ (Owned x.set x.threads) (λ k. Unit {0}) c.all.ensures.ran (YieldsList-from_range 0 8 8 refl refl) (λ k q e. search (rules, tests)) (λ k q e. tt))
