-- THE TESTS: `near` passes exactly where t is near u by some number of accesses, and R2's `twin` where it is by none.
use Prim.Native.Nat.{ℕ, suc}
use mathlib.Core.Path.{◌≡◌, sym, ap}
use mathlib.Core.Logic.{◌≢◌, ◌↔◌}
use mathlib.Core.Bool.{Bool, true, not, ◌&&◌}
use mathlib.Core.List.{List}
use native.Mathlib.Omega.{arith}
use lib.Dec.{eqb}
use lib.ListN.{get_or}
use borrow.Author.Tests.{eqb-false, ne_eqb, not-true}
use Rattle.spec_file.specs.Program.{Program}
use Rattle.spec_file.specs.WellFormed.{WellFormed, accesses}
use Rattle.spec_file.proofs.DigitValues.{both}
use Rattle.spec_schedules.specs.Lists.{any, all, range}
use Rattle.spec_schedules.proofs.Lists.{in_range_lem, of_range, any_yes, any_of, all_at, all_of}
use Rattle.spec_model.specs.Exchange.{together, Together}
use Rattle.spec_model.proofs.Permitted.{together_true, true_together}
use Rattle.spec_sc.specs.Local.{Local}
use Rattle.spec_sc.specs.State.{Event, Thread, Cell, State, fresh_cell, thread_of, cell_of, latest, start}
use Rattle.spec_sc.proofs.Same.{both_and}
use Rattle.theory_search.specs.Standing.{same_local, silent}
use Rattle.theory_sc.specs.Rules.{same_history, twin}
use Rattle.theory_sc.proofs.Preferring.{history_same, quiet_silent, silent_quiet, twin_of}
use Rattle.theory_sc.proofs.Twins.{same_history_lem}
use Rattle.theory_sc_key.specs.Nearness.{looks, gone_on, comes_to, near}
use Rattle.theory_sc_key.proofs.GoingOn.{Looks, Comes, comes_within, Led, led_once, led_gone}
use Rattle.theory_sc_key.proofs.Traced.{Traced, led_both}
use Rattle.theory_sc_key.proofs.Nearness.{Near}

pub line_sym : (p : Program) (t u : ℕ) → Together p t u → Together p u t
line_sym p t u k = (k.0, k.1, k.3, k.2)

-- a test of five parts
pub five : (a b c d e : Bool) → ((a && (b && (c && (d && e)))) ≡ true) ↔ ((a ≡ true) × (b ≡ true) × (c ≡ true) × (d ≡ true) × (e ≡ true))
five a b c d e = (
  λ q. let x = both a _ q in let y = both b _ x.1 in let z = both c _ y.1 in let w = both d e z.1 in (x.0, y.0, z.0, w.0, w.1),
  λ q. both_and q.0 (both_and q.1 (both_and q.2 (both_and q.3 q.4))),
)

-- ---- THE TEST FOR ONE NUMBER OF ACCESSES
comes_true : (cs : List Cell) (n : ℕ) (h k : Thread) → Comes cs n h k → comes_to cs h k n ≡ true
unfolding comes_to
comes_true cs n h k c =
    both_and (all_of (λ i. looks cs (gone_on cs i h)) (range 0 n) (λ i m. let s = of_range 0 n i m in c.0 i (omega (arith, s.1)))) (history_same (gone_on cs n h) k c.1)

-- for two threads that were led from one start
true_comes : (val : ℕ → Event → ℕ) (begun : Local) (cs : List Cell) → ((l : ℕ) → (get_or cs l (fresh_cell 0)).value ≡ val l (latest (get_or cs l (fresh_cell 0)).writes)) →
    (n : ℕ) (h k : Thread) → Led val begun h → Led val begun k → comes_to cs h k n ≡ true → Comes cs n h k
unfolding comes_to
true_comes val begun cs valued n h k a b e =
    let x = both (all (λ i. looks cs (gone_on cs i h)) (range 0 n)) _ e in
    let l : Looks cs n h = λ i s. all_at (λ i. looks cs (gone_on cs i h)) (range 0 n) i x.0 (in_range_lem 0 n i (omega arith) (omega arith)) in
    (l, led_once val begun (gone_on cs n h) k (led_gone val begun cs valued n h a l) b (same_history_lem (gone_on cs n h).history k.history x.1))

module _ (p : Program) (w : WellFormed p) (σ : State) (T : Traced p σ) (t u : ℕ) where
  -- ---- NEAR
  abbrev Steps : ℕ → Bool
  Steps = comes_to σ.cells (thread_of σ t) (thread_of σ u)

  abbrev tried : List ℕ
  tried = range 0 (suc (accesses (thread_of σ t).local.rest))

  parts : (near p σ t u ≡ true) ↔ ((not (eqb t u) ≡ true) × (together p.groups t u ≡ true) × (silent σ t ≡ true) × (silent σ u ≡ true) × (any Steps tried ≡ true))
  unfolding near
  parts = five (not (eqb t u)) (together p.groups t u) (silent σ t) (silent σ u) (any Steps tried)

  pub near_true : near p σ t u ≡ true → (t ≢ u) × Together p t u × ((n : ℕ) × Near n σ t u)
  unfolding cell_of
  near_true e =
      let k = parts.0 e in
      let line = together_true p t u k.1 in
      let qt = silent_quiet σ t k.2 in
      let qu = silent_quiet σ u k.3 in
      let l = led_both p w σ T t u line qt qu in
      let r = any_yes Steps tried k.4 in
      let comes = true_comes T.val (thread_of (start p) u).local σ.cells T.valued r.0 (thread_of σ t) (thread_of σ u) l.0 l.1 r.2 in
      (eqb-false t u (not-true (eqb t u) k.0), line, (r.0, (qt, qu, comes)))

  pub true_near : t ≢ u → Together p t u → (n : ℕ) → Near n σ t u → near p σ t u ≡ true
  true_near ne line n k =
      let few = comes_within σ.cells n (thread_of σ t) (thread_of σ u) k.2 in
      let some = any_of Steps tried n (in_range_lem 0 (suc (accesses (thread_of σ t).local.rest)) n (omega arith) (omega (arith, few))) (comes_true σ.cells n (thread_of σ t) (thread_of σ u) k.2) in
      parts.1 (ap not (ne_eqb t u ne), true_together p t u line, quiet_silent σ t k.0, quiet_silent σ u k.1, some)

  -- ---- TWINS
  pub twin_near : twin p σ t u ≡ true → Together p t u × Near 0 σ t u
  unfolding twin gone_on
  twin_near e =
      let k = (five (together p.groups u t) (same_local (thread_of σ u).local (thread_of σ t).local) (same_history (thread_of σ u).history (thread_of σ t).history) (silent σ u) (silent σ t)).0 e in
      let line = line_sym p u t (together_true p u t k.0) in
      let qt = silent_quiet σ t k.4 in
      let qu = silent_quiet σ u k.3 in
      let l = led_both p w σ T t u line qt qu in
      let same = led_once T.val (thread_of (start p) u).local (thread_of σ t) (thread_of σ u) l.0 l.1 (sym (same_history_lem (thread_of σ u).history (thread_of σ t).history k.2)) in
      (line, (qt, qu, (λ i s. absurd (omega arith), same)))

pub near_twin : (p : Program) (σ : State) (t u : ℕ) → Together p t u → Near 0 σ t u → twin p σ t u ≡ true
unfolding gone_on
near_twin p σ t u line k = twin_of p σ u t (line_sym p t u line) (sym k.2.1) k.1 k.0
