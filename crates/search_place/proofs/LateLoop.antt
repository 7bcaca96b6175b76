-- The late ones behind a step, asked one after the other.
use Prim.Native.Nat.{ℕ, ◌+◌, ◌^◌, ◌<◌, ◌≤◌}
use mathlib.Core.Path.{◌≡◌, refl, sym, ap, ◌∙◌}
use mathlib.Core.Bool.{false}
use mathlib.Core.List.{List}
use native.Mathlib.Omega.{arith}
use native.Mathlib.Nat.{pow-le-pow_right}
use lib.ListN.{get_or}
use Rattle.machine_access.specs.declared.thread.ThreadState.{ThreadState}
use Rattle.spec_sc.specs.State.{State}
use Rattle.spec_sc.specs.Actions.{Action}
use Rattle.machine.specs.Held.{idle, thread_at, Holds}
use Rattle.machine.specs.declared.state.Machine.{Machine}
use Rattle.theory_sc.specs.Sets.{addend, set_of}
use Rattle.theory_sc.specs.LateSet.{late_now, late_behind}
use Rattle.theory_sc.proofs.Sets.{set_none, set_grown, bound_grown, set_cut}

-- late has the late ones below w behind the step a, where those of s were late, in every state that such a machine holds
abbrev pub LateBelow : (code lengths : List ℕ) (ts : List ThreadState) (memory : List ℕ) (s : ℕ) (a : Action) (late w : ℕ) → Type 0
LateBelow code lengths ts memory s a late w =
    (late < 2 ^ w) × ((m : Machine) (σ : State) → m.threads ≡ ts → m.memory ≡ memory → Holds code lengths m σ → late ≡ set_of (late_now σ s a) w)

-- what thread w, which stands so, adds
abbrev pub AddsLate : (code lengths : List ℕ) (k : ThreadState) (memory : List ℕ) (s : ℕ) (a : Action) (w r : ℕ) → Type 0
AddsLate code lengths k memory s a w r =
    (r ≤ 2 ^ w) × ((m : Machine) (σ : State) → Holds code lengths m σ → thread_at m w ≡ k → m.memory ≡ memory → r ≡ addend (late_now σ s a w) (2 ^ w))

module _ (code lengths : List ℕ) (ts : List ThreadState) (memory : List ℕ) (s : ℕ) (a : Action) where
  pub late_below_none : LateBelow code lengths ts memory s a 0 0
  late_below_none = (omega arith, λ m σ et em held. sym (set_none (late_now σ s a) 0 (λ u h. absurd (omega arith))))

  -- one thread more, the u-th of the array
  module _ (late w r u : ℕ) (below : LateBelow code lengths ts memory s a late w) (eu : u ≡ w) (adds : AddsLate code lengths (get_or ts u idle) memory s a w r) where
    pub late_below_fits : w < 6 → late + r < 256
    late_below_fits h =
        let p : 2 ^ w ≤ 2 ^ 5 = pow-le-pow_right {n = 2} (omega arith) {i = w} {j = 5} (omega arith) in
        omega (arith, p, below.0, adds.0)

    pub late_below_more : LateBelow code lengths ts memory s a (late + r) (w + 1)
    late_below_more = (
      bound_grown w late r (2 ^ w) below.0 adds.0 refl,
      λ m σ et em held. set_grown (late_now σ s a) w late r (2 ^ w) (late_now σ s a w) (below.1 m σ et em held) refl refl
          (adds.1 m σ held (ap (λ (l : List ThreadState). get_or l w idle) et ∙ ap (λ (i : ℕ). get_or ts i idle) (sym eu)) em),
    )

  -- none from the bound on is late: these are all
  pub late_below_all : (late w bound : ℕ) → LateBelow code lengths ts memory s a late w → bound ≤ w → w ≤ 6
      → ((σ : State) (u : ℕ) → bound ≤ u → u < 6 → late_now σ s a u ≡ false)
      → (m : Machine) (σ : State) → m.threads ≡ ts → m.memory ≡ memory → Holds code lengths m σ → late ≡ late_behind σ s a
  unfolding late_behind
  late_below_all late w bound below h six none m σ et em held =
      below.1 m σ et em held ∙ set_cut (late_now σ s a) w 6 six (λ u i l. none σ u (omega (arith, h, i)) l)
