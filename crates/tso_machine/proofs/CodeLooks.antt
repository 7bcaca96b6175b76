-- What a thread finds and whether it may step, as the code has it: it names a thread by another number u.
use Prim.Native.Nat.{ℕ, ◌+◌, ◌-◌, ◌*◌, ◌<◌, ◌≤◌}
use native.Mathlib.Omega.{arith}
use mathlib.Core.Path.{◌≡◌, sym, ap, ap₂, ◌∙◌}
use mathlib.Core.Bool.{Bool, true, false, not}
use mathlib.Core.Option.{Option}
use Rattle.std.proofs.Common.{Some, None}
use Rattle.std.proofs.Common.{Option as Opt}
use mathlib.Core.List.{List, [], ◌∷◌}
use lib.ListN.{length, get_or}
use Rattle.file_rows.specs.Rows.{instruction_at}
use Rattle.machine.specs.declared.state.LastWrite.{LastWrite}
use Rattle.machine.specs.Held.{thread_at}
use Rattle.spec_tso.specs.Queue.{Entry, newest}
use Rattle.spec_tso.specs.State.{State, access, thread_of, first_locks, able}
use Rattle.tso_machine.specs.declared.state.QueuedMachine.{QueuedMachine}
use Rattle.tso_machine.specs.declared.state.Pending.{Pending}
use Rattle.tso_machine.specs.Slots.{queue_at, store_of}
use Rattle.tso_machine.specs.Held.{core_of, head_at, tail_at, Holds}
use Rattle.tso_machine.specs.Looked.{look_of}
use Rattle.tso_machine.proofs.HeldMay.{over_held, pending_held, idle_held}

-- ---- what is found: this store, or none, where a and b are the queue's head and tail
module _ (slots : List Pending) (t l a b head tail v : ℕ) (w : LastWrite) (ea : a ≡ head) (eb : b ≡ tail) where
  sought : (o : Opt Pending) → newest (queue_at slots a (b - a)) l ≡ store_of o → look_of t (store_of o) v w ≡ look_of t (newest (queue_at slots head (tail - head)) l) v w
  sought o e = ap (λ (q : Option Entry). look_of t q v w) (sym e ∙ ap₂ (λ (x y : ℕ). newest (queue_at slots x (y - x)) l) ea eb)

  pub found_slot : (e : Pending) → newest (queue_at slots a (b - a)) l ≡ store_of (Some e)
      → record { value = e.value; source = record { thread = t; number = e.number }; own = true } ≡ look_of t (newest (queue_at slots head (tail - head)) l) v w
  unfolding look_of store_of
  found_slot e = sought (Some e)

  pub found_memory : newest (queue_at slots a (b - a)) l ≡ store_of None → record { value = v; source = w; own = false } ≡ look_of t (newest (queue_at slots head (tail - head)) l) v w
  unfolding look_of store_of
  found_memory = sought None

-- ---- whether thread t, the u-th, which stands at row i of its code with this queue, may do its next access
module _ (code lengths : List ℕ) (t u i head tail : ℕ) (eu : u ≡ t) (six : t < 6) where
  pub may_row : (i < get_or lengths t 0 → get_or lengths t 0 ≤ 16) → i < get_or lengths u 0 → u * 16 + i < 96
  may_row short h = let z = ap (λ (v : ℕ). get_or lengths v 0) eu in omega (arith, eu, six, h, z, short (omega (arith, h, z)))

  module _ (m : QueuedMachine) (σ : State) (held : Holds code lengths m σ) (ei : (thread_at (core_of m) t).at ≡ i) where
    pub may_over : get_or lengths u 0 ≤ i → false ≡ able access (thread_of σ t) (length σ.cells)
    may_over h = over_held held t six (omega (arith, h, ei, ap (λ (v : ℕ). get_or lengths v 0) eu))

    module _ (h : i < get_or lengths u 0) where
      left : (thread_at (core_of m) t).at < get_or lengths t 0
      left = omega (arith, h, ei, ap (λ (v : ℕ). get_or lengths v 0) eu)

      pub may_idle : head_at m t ≡ head → tail_at m t ≡ tail → tail ≤ head → true ≡ able access (thread_of σ t) (length σ.cells)
      may_idle eh et q = sym (idle_held held t six left (omega arith))

      pub may_pending : head_at m t ≡ head → tail_at m t ≡ tail → head < tail → (b : Bool) → b ≡ first_locks (instruction_at code (u * 16 + i) ∷ []) → not b ≡ able access (thread_of σ t) (length σ.cells)
      may_pending eh et q b eb =
          pending_held held t six left (omega arith) b (eb ∙ ap₂ (λ (v j : ℕ). first_locks (instruction_at code (v * 16 + j) ∷ [])) eu (sym ei))
