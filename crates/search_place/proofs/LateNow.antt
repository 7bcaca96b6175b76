-- R1 read off the machine behind a step: whether thread u is late now.
use Prim.Native.Nat.{ℕ, ◌*◌, ◌+◌, ◌<◌, ◌≤◌}
use mathlib.Core.Path.{◌≡◌, refl, sym, ap, ap₂, ◌∙◌}
use mathlib.Core.Logic.{◌≢◌}
use mathlib.Core.Bool.{Bool, true, false, not, ◌&&◌, ◌||◌}
use mathlib.Core.List.{List}
use native.Mathlib.Omega.{arith}
use lib.Dec.{eqb, ltb}
use lib.ListN.{get_or}
use borrow.Author.Tests.{eq-eqb, ne_eqb, le-ltb}
use Rattle.file_rows.specs.Rows.{instruction_at}
use Rattle.machine_access.specs.CarriedOut.{access_of}
use Rattle.machine_access.specs.declared.thread.ThreadState.{ThreadState}
use Rattle.spec_sc.specs.State.{State, enabled}
use Rattle.spec_sc.specs.Actions.{Action, action, conflict}
use Rattle.spec_sc.proofs.FreeSteps.{action_location, action_wrote}
use Rattle.machine.specs.Held.{thread_at, Holds}
use Rattle.machine.specs.declared.state.Machine.{Machine}
use Rattle.machine.proofs.HeldAsking.{held_enabled, held_ended}
use Rattle.machine.proofs.HeldNext.{next_place, next_wrote}
use Rattle.spec_schedules.specs.Sets.{has}
use Rattle.theory_sc.specs.LateSet.{late_now}
use Rattle.theory_sc.proofs.Sets.{has_none}
use Rattle.theory_search.proofs.Back.{and_false}
use Rattle.search_place.specs.Steps.{accessing_at}

-- a conflict is one of locations and writes
conflict_same : (a b c d : Action) → a.location ≡ c.location → a.wrote ≡ c.wrote → b.location ≡ d.location → b.wrote ≡ d.wrote → conflict a b ≡ conflict c d
unfolding conflict
conflict_same a b c d p q r s = λ i. conflict (record { thread = 0; location = p i; wrote = q i }) (record { thread = 0; location = r i; wrote = s i })

-- ---- where none was late, only those smaller than the thread that stepped can be
pub late_none : (σ : State) (s t : ℕ) (a : Action) (u : ℕ) → s ≡ 0 → a.thread ≡ t → t ≤ u → late_now σ s a u ≡ false
unfolding late_now
late_none σ s t a u es et h =
    let p : ltb u a.thread ≡ false = le-ltb u a.thread (omega (arith, et, h)) in
    let q : has s u ≡ false = ap (λ (k : ℕ). has k u) es ∙ has_none u in
    rw (p, q) (ap (λ (b : Bool). enabled σ u && b) (and_false (not (eqb a.thread u))) ∙ and_false (enabled σ u))

module _ (code lengths : List ℕ) (m : Machine) (σ : State) (held : Holds code lengths m σ) (u : ℕ) (h : u < 6) (s : ℕ) (a : Action) where
  -- the thread that stepped
  pub late_own : a.thread ≡ u → false ≡ late_now σ s a u
  unfolding late_now
  late_own e = let q = eq-eqb a.thread u e in sym (rw q (and_false (enabled σ u)))

  -- a thread that has ended is not late
  pub late_ended : (k : ThreadState) → thread_at m u ≡ k → get_or lengths u 0 ≤ k.at → false ≡ late_now σ s a u
  unfolding late_now
  late_ended k e l =
      let i = ap (λ (x : ThreadState). x.at) e in
      let q = held_ended code lengths m σ held u h (omega (arith, i, l)) in
      sym (rw q refl)

  -- a thread that is greater and was not late is not late now
  pub late_behind_lem : (ltb u a.thread || has s u) ≡ false → false ≡ late_now σ s a u
  unfolding late_now
  late_behind_lem e = sym (rw e (ap (λ (b : Bool). enabled σ u && b) (and_false (not (eqb a.thread u))) ∙ and_false (enabled σ u)))

  -- any other: its next access decides
  pub late_unless : (k : ThreadState) (memory : List ℕ) → thread_at m u ≡ k → m.memory ≡ memory → k.at < get_or lengths u 0 → a.thread ≢ u → (ltb u a.thread || has s u) ≡ true
      → (row : ℕ) → row ≡ u * 16 + k.at → (b : Bool) → b ≡ conflict (record { thread = 0; location = a.location; wrote = a.wrote }) (accessing_at code row k.registers memory)
      → not b ≡ late_now σ s a u
  unfolding late_now
  late_unless k memory ek em l n q row er b eb =
      let i = ap (λ (x : ThreadState). x.at) ek in
      let ok = held_enabled code lengths m σ held u h (omega (arith, i, l)) in
      let x = instruction_at code (u * 16 + (thread_at m u).at) in
      let w = access_of x (thread_at m u).registers m.memory in
      let c : conflict (record { thread = 0; location = a.location; wrote = a.wrote }) (accessing_at code (u * 16 + (thread_at m u).at) (thread_at m u).registers m.memory) ≡ conflict a (action σ u) =
      conflict_same _ _ a (action σ u) refl refl (sym (next_place code lengths m σ u held ok x w refl refl) ∙ sym (action_location σ u))
      (sym (next_wrote code lengths m σ u held ok x w refl refl) ∙ sym (action_wrote σ u)) in
      let d : accessing_at code row k.registers memory ≡ accessing_at code (u * 16 + (thread_at m u).at) (thread_at m u).registers m.memory =
      ap (λ (j : ℕ). accessing_at code j k.registers memory) (er ∙ ap (λ (y : ThreadState). u * 16 + y.at) (sym ek))
      ∙ ap₂ (λ (y : ThreadState) (z : List ℕ). accessing_at code (u * 16 + (thread_at m u).at) y.registers z) (sym ek) (sym em) in
      let f : b ≡ conflict a (action σ u) = eb ∙ ap (conflict (record { thread = 0; location = a.location; wrote = a.wrote })) d ∙ c in
      let g = ne_eqb a.thread u n in
      ap not f ∙ sym (rw (ok, g, q))
