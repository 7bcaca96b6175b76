use Rattle.std.proofs.Common.{◌≡◌, ℕ, ◌+◌, ◌*◌, ◌<◌, ◌≤◌, Bool, true, false, List, [], ◌∷◌, sym, ap, ◌∙◌, arith, rules}
use Rattle.spec_file.specs.WellFormed.{accesses}
use Rattle.file_rows.specs.Rows.{instruction_at, thread_code}
use Rattle.spec_sc.specs.Local.{begins_with_access}
use Rattle.machine_access.proofs.HeldCounting.{one, counted_none, counted_next}
use Rattle.machine_access.proofs.counting.accesses_in.Invariants.{Counted}
use Rattle.machine_access.proofs.counting.accesses_in.Goals.{else-is_access, then-is_access}
use Rattle.machine_access.proofs.counting.accesses_in.Goals as goal

more : (code : List ℕ) (t n count i : ℕ) → Counted code t n count i → i < n → (b : Bool) → b ≡ begins_with_access (instruction_at code (t * 16 + i) ∷ [])
    → (later : ℕ) → later ≡ count + one b → later ≤ count + 1 → Counted code t n later (i + 1)
more code t n count i C h b e later q few = (
  omega (arith, few, C.0),
  omega (arith, h),
  let next = counted_next code t i in
      omega (arith, q, next, C.2, ap one e),
)

pub loop-i-init : goal.loop-i-init
loop-i-init c = (omega arith, omega arith, sym (counted_none c.args.code.now c.args.t))

pub loop-i-preserved : goal.loop-i-preserved
loop-i-preserved c =
    let args = c.args in
    let loop = c.loop-i in
    let below = c.loop-i-test.true in
    let is-access = c.is_access in
    elim c.if-is_access.branch [
      | then-is_access w ↦ more args.code.now args.t args.n loop.count loop.i loop.invariant below true (sym w.if-is_access.true ∙ is-access.ensures) _ w.count-is (omega (arith, w.count-is))
      | else-is_access w ↦ more args.code.now args.t args.n loop.count loop.i loop.invariant below false (sym w.if-is_access.false ∙ is-access.ensures) _ (let q = w.count-is in omega (arith, q)) (omega (arith, w.count-is))
    ]

pub returns : goal.returns
returns c =
    let args = c.args in
    let loop = c.loop-i in
    let e : loop.i ≡ args.n = omega (arith, loop.invariant.1, c.loop-i-test.false) in
    record { count = loop.invariant.2 ∙ ap (λ (k : ℕ). accesses (thread_code args.code.now args.t k)) e; few = search rules }
