-- `goes` asks of each of the six whether it goes where it may.
use Rattle.std.proofs.Common.{ℕ, ◌+◌, ◌*◌, ◌<◌, ◌≡◌, Bool, true, false, List, length, get_or, MatchBool, refl, subst, arith, rules, tests}
use Rattle.std.specs.List.{AllWithin, HoldsAt, range_with_len}
use Rattle.std.proofs.lemmas.Iterator.{cases_from_all, YieldsList-from_range}
use Rattle.std.proofs.lemmas.List.FromFn.{get_or-range_with_len}
use Rattle.class_size.specs.Moves.{goes_by}
use Rattle.class_size.proofs.Goes.{goes_not, goes_all}
use Rattle.class_size.proofs.counting.goes.Goals as goal

abbrev place : List Bool → List ℕ → ℕ → Bool
place may row t = get_or may (t * 6 + get_or row t 0) false

at : (t : ℕ) → t < 6 → get_or (range_with_len 0 6) t 0 ≡ t
at t b = omega (arith, get_or-range_with_len 0 6 t 0 b)

goes_if : (may : List Bool) (row : List ℕ) → length row ≡ 6 → (r : Bool)
    → MatchBool r (AllWithin (λ t. place may row t ≡ true) (range_with_len 0 6) 0 6) ((k : ℕ) × (k < 6) × HoldsAt (λ t. place may row t ≡ false) (range_with_len 0 6) k)
    → r ≡ goes_by may row
goes_if may row six true h = goes_all may row six (λ t b. subst (λ (u : ℕ). place may row u ≡ true) (at t b) (h t 0 (omega arith) b))
goes_if may row six false h = goes_not may row six h.0 h.1 (subst (λ (u : ℕ). place may row u ≡ false) (at h.0 h.1) (h.2 0))

pub returns : goal.returns
returns c =
    let args = c.args in
    goes_if args.may args.row (search rules) _ (cases_from_all _ _ _ (λ t. place args.may args.row t ≡ true) (λ t. place args.may args.row t ≡ false) c.all.ensures.ran (YieldsList-from_range 0 6 6 refl (omega arith))
    (λ x q k. search (rules, tests)) (λ x q k. search (rules, tests)))
