-- The access that a thread stands at, as the code finds it.
use Prim.Native.Nat.{ℕ, suc, ◌+◌, ◌*◌, ◌<◌}
use native.Mathlib.Omega.{arith}
use native.Mathlib.Decide.{dec_lt}
use mathlib.Core.Path.{◌≡◌, sym, ap, subst, ◌∙◌}
use mathlib.Core.Bool.{true}
use mathlib.Core.List.{List, ◌∷◌}
use lib.ListN.{get_or, drop, get_or-eq_default}
use borrow.Author.Tests.{ltb-true}
use Rattle.spec_file.specs.declared.instruction.Instruction.{Instruction}
use Rattle.file_rows.specs.Rows.{instruction_at, thread_code}
use Rattle.machine_access.specs.declared.accessing.Access.{Access}
use Rattle.machine.specs.declared.state.Machine.{Machine}
use Rattle.spec_sc.specs.Local.{Local, begins_with_access, first_place, first_puts, pending, place_of, puts}
use Rattle.spec_sc.specs.State.{Cell, State, fresh_cell, thread_of, cell_of, place, enabled}
use Rattle.spec_sc.specs.Actions.{given, writes}
use Rattle.machine_access.specs.CarriedOut.{access_of}
use Rattle.machine.specs.Held.{thread_at, Holds}
use Rattle.spec_sc.proofs.Steps.{enabled_small, enabled_pending, enabled_range}
use Rattle.machine_access.proofs.HeldSettling.{code_at_lem}
use Rattle.machine_access.proofs.HeldAccess.{Meets, access_meets}
use Rattle.machine.proofs.HeldAsking.{enabled_held}

-- ---- thread t of the machine m, at its next access: x the instruction, a what it does
module _ (code lengths : List ℕ) (m : Machine) (σ : State) (t : ℕ) (held : Holds code lengths m σ) (ok : enabled σ t ≡ true) where
  -- memory holds the cells' values, behind its end too
  pub held_value : (l : ℕ) → (cell_of σ l).value ≡ get_or m.memory l 0
  unfolding cell_of fresh_cell
  held_value l = go (dec_lt l 8)
    where
      go : Dec (l < 8) → (cell_of σ l).value ≡ get_or m.memory l 0
      go (yes h) = held.values l h
      go (no h) =
          ap (λ (c : Cell). c.value) (get_or-eq_default σ.cells (fresh_cell 0) {n = l} (omega (arith, h, held.eight)))
          ∙ sym (get_or-eq_default m.memory 0 {n = l} (omega (arith, h, held.sizes.1)))

  pub held_left : (thread_at m t).at < get_or lengths t 0
  held_left = ltb-true (thread_at m t).at (get_or lengths t 0) (enabled_held code lengths m σ held t (enabled_small σ t ok) ∙ ok)

  module _ (x : Instruction) (a : Access) (ex : x ≡ instruction_at code (t * 16 + (thread_at m t).at)) (ea : a ≡ access_of x (thread_at m t).registers m.memory) where
    abbrev h : Local
    h = (thread_of σ t).local

    abbrev is : List Instruction
    is = drop ((thread_at m t).at + 1) (thread_code code t (get_or lengths t 0))

    pub next_rest : h.rest ≡ x ∷ is
    next_rest =
        (held.threads t (enabled_small σ t ok)).rest ∙ code_at_lem code t (get_or lengths t 0) (thread_at m t).at held_left
        ∙ rw (← ex) (ap (λ (j : ℕ). x ∷ drop j (thread_code code t (get_or lengths t 0))) (let z : suc (thread_at m t).at ≡ (thread_at m t).at + 1 = omega arith in z))

    begins : begins_with_access (x ∷ is) ≡ true
    unfolding pending
    begins = subst (λ (j : List Instruction). begins_with_access j ≡ true) next_rest (enabled_pending σ t ok)

    pub next_meets : Meets h x is m.memory a
    next_meets =
        subst (Meets h x is m.memory) (ap (λ (rs : List ℕ). access_of x rs m.memory) (held.registers t (enabled_range σ t ok)) ∙ sym ea)
        (access_meets h x is m.memory begins)

    pub next_place : place σ t ≡ a.location
    unfolding place place_of
    next_place = ap first_place next_rest ∙ next_meets.place

    pub next_value : (cell_of σ (place σ t)).value ≡ get_or m.memory a.location 0
    next_value = held_value (place σ t) ∙ ap (λ (l : ℕ). get_or m.memory l 0) next_place

    pub next_wrote : writes σ t ≡ a.writes
    unfolding writes puts
    next_wrote =
        ap (λ (j : List Instruction). given (first_puts h.registers j (cell_of σ (place σ t)).value)) next_rest
        ∙ ap (λ (v : ℕ). given (first_puts h.registers (x ∷ is) v)) next_value ∙ next_meets.wrote
