-- R3 behind a prefix: the counters of its threads, and the rounds of the search for sleepers.
use Prim.Native.Nat.{ℕ, ◌<◌}
use mathlib.Core.Path.{◌≡◌, sym, ap, ◌∙◌}
use mathlib.Core.Logic.{◌≢◌}
use mathlib.Core.Bool.{true, false, not}
use mathlib.Core.List.{List}
use native.Mathlib.Omega.{arith}
use lib.Dec.{eqb}
use lib.ListN.{get_or, drop}
use borrow.Author.Tests.{ne_eqb}
use Rattle.spec_file.specs.Program.{Program}
use Rattle.file_rows.specs.Rows.{thread_code}
use Rattle.spec_schedules.specs.Order.{Schedule}
use Rattle.spec_sc.specs.State.{State}
use Rattle.spec_sc.specs.Graph.{end_of}
use Rattle.machine_access.specs.declared.thread.ThreadState.{ThreadState}
use Rattle.machine.specs.Held.{idle}
use Rattle.theory_sc.specs.LateSet.{late_set}
use Rattle.theory_sc.specs.Sleepers.{unwoken, sleepers}
use Rattle.theory_sc.proofs.LateSet.{late_below}
use Rattle.theory_sc.proofs.Sleepers.{unwoken_below, unwoken_falls, sleepers_none, sleepers_still, sleepers_on}
use Rattle.search_place.specs.Reached.{Reached}
use Rattle.search_rules.specs.Left.{ShortAt, Rests}
use Rattle.search_place.specs.declared.place.Place.{Place}
use Rattle.search_place.proofs.ReachedStep.{reached_short}

-- the six counters
abbrev pub Counters : List ThreadState → List ℕ → Type 0
Counters ts at = (k : ℕ) → k < 6 → get_or at k 0 ≡ (get_or ts k idle).at

-- where the threads stand as at a place, and as many are late
module _ (code lengths class : List ℕ) (threads groups : ℕ) (x : Place) (p : Program) (v : Schedule) (r : Reached code lengths class threads groups x p v)
    (ts : List ThreadState) (et : x.threads ≡ ts) (s : ℕ) (es : x.late ≡ s) where
  abbrev σ : State
  σ = end_of p v

  module _ (at : List ℕ) (counted : Counters ts at) where
    counter : (k : ℕ) → k < 6 → get_or at k 0 ≡ (get_or x.threads k idle).at
    counter k h = counted k h ∙ ap (λ (l : List ThreadState). (get_or l k idle).at) (sym et)

    pub counters_short : ShortAt lengths at
    counters_short k h l = reached_short code lengths class threads groups x p v r k h (omega (arith, counter k h, l))

    pub counters_rest : Rests code lengths at (end_of p v)
    counters_rest t h = (r.holds.threads t h).rest ∙ ap (λ (i : ℕ). drop i (thread_code code t (get_or lengths t 0))) (sym (counter t h))

  pub late_small : s < 64
  late_small = omega (arith, r.late, late_below p v, es)

  pub asleep_first : sleepers (end_of p v) (late_set p v) ≡ sleepers (end_of p v) s
  asleep_first = ap (sleepers σ) (sym r.late ∙ es)

-- ---- a round, from the set s to n
module _ (σ : State) (s n : ℕ) (small : s < 64) (e : n ≡ unwoken σ s) where
  pub round_below : n < 64
  round_below = omega (arith, e, unwoken_below σ s)

  pub round_falls : n ≢ s → n < s
  round_falls ne = omega (arith, ne, e, unwoken_falls σ s small)

  pub round_on : n ≢ s → (whole : ℕ) → whole ≡ sleepers σ s → whole ≡ sleepers σ n
  round_on ne whole w = w ∙ sleepers_on σ s small (λ q. ne (e ∙ q)) ∙ ap (sleepers σ) (sym e)

  pub round_still : n ≡ s → s ≢ 0 → (whole : ℕ) → whole ≡ sleepers σ s → true ≡ not (eqb whole 0)
  round_still q nz whole w = sym (ap (λ (k : ℕ). not (eqb k 0)) (w ∙ sleepers_still σ s (sym e ∙ q)) ∙ ap not (ne_eqb s 0 nz))

pub round_none : (σ : State) (s : ℕ) → s ≡ 0 → (whole : ℕ) → whole ≡ sleepers σ s → false ≡ not (eqb whole 0)
round_none σ s z whole w = sym (ap (λ (k : ℕ). not (eqb k 0)) (w ∙ ap (sleepers σ) z ∙ sleepers_none σ))
