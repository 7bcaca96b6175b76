use Rattle.std.proofs.Common.{rules, ℕ, ◌+◌, ◌*◌, ◌<◌, ◌≡◌, ◌∙◌, ◌≢◌, List, [], arith, get_or}
use Rattle.spec_schedules.proofs.Kept.{filter_length}
use Rattle.listing_cursor.proofs.CountedRows.{place_small, place_within, fails_more, fails_same, fails_all}
use Rattle.listing_cursor.proofs.reading.failing_in.Invariants.{Fails}
use Rattle.listing_cursor.proofs.reading.failing_in.Goals.{else-rows-k-eq1, then-rows-k-eq1}
use Rattle.listing_cursor.proofs.reading.failing_in.Goals as goal

more : (rows : List ℕ) (w n f f' k : ℕ) → Fails rows w n f k → k < n → get_or rows (k * (w + 2) + 1) 0 ≡ 1 → f' ≡ f + 1 → Fails rows w n f' (k + 1)
more rows w n f f' k v h e q = (omega (arith, q, v.0), omega (arith, h), λ fails ss held s. q ∙ fails_more w fails ss held rows n s k f h e (v.2 fails ss held s))

same : (rows : List ℕ) (w n f f' k : ℕ) → Fails rows w n f k → k < n → get_or rows (k * (w + 2) + 1) 0 ≢ 1 → f' ≡ f → Fails rows w n f' (k + 1)
same rows w n f f' k v h e q = (omega (arith, q, v.0), omega (arith, h), λ fails ss held s. q ∙ fails_same w fails ss held rows n s k f h e (v.2 fails ss held s))

pub loop-k-init : goal.loop-k-init
loop-k-init c = (omega arith, omega arith, λ fails ss held s. omega (arith, filter_length fails []))

pub overflow_mul-k : goal.overflow_mul-k
overflow_mul-k c =
    let a = c.args in
    let pre = c.requires in
    let h = place_small a.width c.loop-k.k a.n pre.0 pre.1 c.loop-k-test.true in
    search rules

pub overflow_add-k : goal.overflow_add-k
overflow_add-k c =
    let a = c.args in
    let pre = c.requires in
    let h = place_small a.width c.loop-k.k a.n pre.0 pre.1 c.loop-k-test.true in
    search rules

pub bounds-rows-k : goal.bounds-rows-k
bounds-rows-k c =
    let a = c.args in
    place_within a.width c.loop-k.k a.n a.rows.now c.requires.2 c.loop-k-test.true

pub overflow_add-failing : goal.overflow_add-failing
overflow_add-failing c = record { fits = omega (arith, c.loop-k.invariant.0, c.loop-k-test.true, c.requires.1) }

pub loop-k-preserved : goal.loop-k-preserved
loop-k-preserved c =
    let a = c.args in
    let l = c.loop-k in
    elim c.if-rows-k-eq1.branch [
      | then-rows-k-eq1 w ↦ more a.rows.now a.width a.n l.failing _ l.k l.invariant c.loop-k-test.true w.if-rows-k-eq1.true w.failing-is
      | else-rows-k-eq1 w ↦ same a.rows.now a.width a.n l.failing _ l.k l.invariant c.loop-k-test.true w.if-rows-k-eq1.false w.failing-is
    ]

pub returns : goal.returns
returns c =
    let a = c.args in
    let l = c.loop-k in
    λ fails ss held s. fails_all a.width fails ss held a.rows.now a.n s l.k l.failing c.loop-k-test.false (l.invariant.2 fails ss held s)
