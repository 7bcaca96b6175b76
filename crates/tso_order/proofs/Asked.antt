-- Whether a next step has to stay behind the one just taken, in the order in which the code asks: one law for each answer.
use Prim.Native.Nat.{ℕ, ◌+◌, ◌*◌, ◌<◌}
use mathlib.Core.Path.{◌≡◌, refl, sym, ap, ap₂, ◌∙◌}
use mathlib.Core.Bool.{Bool, true, false, not, ◌&&◌, ◌||◌}
use mathlib.Core.List.{List, [], ◌∷◌}
use lib.Dec.{eqb}
use borrow.Author.Tests.{eq-eqb, ne_eqb}
use Rattle.spec_file.specs.declared.instruction.Instruction.{Instruction}
use Rattle.file_rows.specs.Rows.{instruction_at}
use Rattle.machine_access.specs.CarriedOut.{access_of}
use Rattle.machine_access.specs.declared.thread.ThreadState.{ThreadState}
use Rattle.machine.specs.Held.{thread_at}
use Rattle.spec_sc.specs.Local.{first_place, first_takes}
use Rattle.spec_tso.specs.State.{State, access, move, first_locks, thread_of, byte_for, enabled}
use Rattle.tso_machine.specs.declared.state.Pending.{Pending}
use Rattle.tso_machine.specs.declared.state.QueuedMachine.{QueuedMachine}
use Rattle.tso_machine.specs.Held.{core_of, head_at, slot_at, queue_of, Holds}
use Rattle.tso_order.specs.Freed.{stores_to}
use Rattle.tso_order.proofs.HeldDeeds.{move_deed, access_shown}
use Rattle.theory_tso.specs.Deeds.{deed}
use Rattle.theory_tso.specs.Deeds.{makes, empties, puts_first, looks_first, waits}
use Rattle.theory_tso.specs.declared.deed.Deed.{Deed}

-- ---- a move, number n of thread u, at l
abbrev pub a_move : ℕ → ℕ → ℕ → Deed
a_move u n l = record { thread = u; number = n; location = l; moves = true; locks = false; looks = false; puts = true }

move_tests : (m t n l p k : Bool) → ((not m && (true && (t && n))) || (m && (false && t))) || (l && ((p && true) || (k && true))) ≡ ((not m && (t && n)) || (l && (p || k)))
move_tests true t n l true k = refl
move_tests true t n l false true = refl
move_tests true t n l false false = refl
move_tests false true true l p k = refl
move_tests false true false l true k = refl
move_tests false true false l false true = refl
move_tests false true false l false false = refl
move_tests false false n l true k = refl
move_tests false false n l false true = refl
move_tests false false n l false false = refl

move_is : (e : Deed) (u n l : ℕ) → waits e (a_move u n l) ≡ ((not e.moves && (eqb e.thread u && eqb e.number n)) || (eqb e.location l && (e.puts || e.looks)))
unfolding waits makes empties puts_first looks_first
move_is e u n l = move_tests e.moves (eqb e.thread u) (eqb e.number n) (eqb e.location l) e.puts e.looks

-- the move of the store s, whose number is asked first
module _ (code lengths : List ℕ) (m : QueuedMachine) (σ : State) (held : Holds code lengths m σ) (u : ℕ) (six : u < 6) (ok : enabled σ (byte_for move u) ≡ true)
    (s : Pending) (es : slot_at m (head_at m u) ≡ s) (e : Deed) (b : Bool) (eb : b ≡ (not e.moves && (eqb e.thread u && eqb e.number s.number))) where
  moved : (b || (eqb e.location s.location && (e.puts || e.looks))) ≡ waits e (deed σ (byte_for move u))
  moved =
      ap (λ (y : Bool). y || (eqb e.location s.location && (e.puts || e.looks))) eb ∙ sym (move_is e u s.number s.location)
      ∙ ap (waits e) (sym (move_deed code lengths m σ held u six ok s es))

  pub move_made : b ≡ true → true ≡ waits e (deed σ (byte_for move u))
  move_made t = sym (ap (λ (y : Bool). y || (eqb e.location s.location && (e.puts || e.looks))) t) ∙ moved

  pub move_away : b ≡ false → (e.location ≡ s.location → ⊥) → false ≡ waits e (deed σ (byte_for move u))
  move_away f n = sym (ap₂ (λ (y z : Bool). y || (z && (e.puts || e.looks))) f (ne_eqb e.location s.location n)) ∙ moved

  pub move_there : b ≡ false → e.location ≡ s.location → (e.puts || e.looks) ≡ waits e (deed σ (byte_for move u))
  move_there f q = sym (ap₂ (λ (y z : Bool). y || (z && (e.puts || e.looks))) f (eq-eqb e.location s.location q)) ∙ moved

-- ---- an access of thread u at l: locked (k), a read (r) with own stores pending there (s), which puts (w)
abbrev pub an_access : ℕ → ℕ → ℕ → Bool → Bool → Bool → Bool → Deed
an_access u n l k r s w = record { thread = u; number = n; location = l; moves = false; locks = k; looks = r && not s; puts = w }

access_tests : (m t n k L p w d x : Bool) → ((not m && (false && (t && n))) || (m && (k && t))) || (L && ((p && (w || (d && not t))) || (x && w))) ≡ ((m && (k && t)) || (L && ((p && (w || (d && not t))) || (x && w))))
access_tests true t n k L p w d x = refl
access_tests false t n k L p w d x = refl

access_is : (e : Deed) (u n l : ℕ) (k r s w : Bool) → waits e (an_access u n l k r s w) ≡ ((e.moves && (k && eqb e.thread u)) || (eqb e.location l && ((e.puts && (w || ((r && not s) && not (eqb e.thread u)))) || (e.looks && w))))
unfolding waits makes empties puts_first looks_first
access_is e u n l k r s w = access_tests e.moves (eqb e.thread u) (eqb e.number n) k (eqb e.location l) e.puts w (r && not s) e.looks

no_put : (p d x : Bool) → ((p && (false || d)) || (x && false)) ≡ (p && d)
no_put true true x = refl
no_put true false true = refl
no_put true false false = refl
no_put false d true = refl
no_put false d false = refl

both_put : (p d x : Bool) → ((p && (true || d)) || (x && true)) ≡ (p || x)
both_put true d x = refl
both_put false d true = refl
both_put false d false = refl

module _ (e : Deed) (u n l : ℕ) (k r s w : Bool) where
  access_empties : (e.moves && (k && eqb e.thread u)) ≡ true → true ≡ waits e (an_access u n l k r s w)
  access_empties i = sym (access_is e u n l k r s w ∙ rw i)

  module _ (i : (e.moves && (k && eqb e.thread u)) ≡ false) where
    access_away : eqb e.location l ≡ false → false ≡ waits e (an_access u n l k r s w)
    access_away j = sym (access_is e u n l k r s w ∙ rw (i, j))

    module _ (j : eqb e.location l ≡ true) where
      access_puts : w ≡ true → (e.puts || e.looks) ≡ waits e (an_access u n l k r s w)
      access_puts q = sym (access_is e u n l k r s w ∙ rw (i, j, q) (both_put e.puts ((r && not s) && not (eqb e.thread u)) e.looks))

      access_finds : w ≡ false → (e.puts && ((r && not s) && not (eqb e.thread u))) ≡ waits e (an_access u n l k r s w)
      access_finds q = sym (access_is e u n l k r s w ∙ rw (i, j, q) (no_put e.puts ((r && not s) && not (eqb e.thread u)) e.looks))

-- ---- thread u's next access, where the thread stands so with this memory, at this row; `locks`, `place` and `puts` as the code finds them
module _ (code lengths : List ℕ) (m : QueuedMachine) (σ : State) (held : Holds code lengths m σ) (u : ℕ) (six : u < 6) (ok : enabled σ (byte_for access u) ≡ true)
    (k : ThreadState) (memory : List ℕ) (row : ℕ) (ek : thread_at (core_of m) u ≡ k) (em : m.memory ≡ memory) (er : row ≡ u * 16 + k.at) (e : Deed)
    (locks : Bool) (el : locks ≡ first_locks (instruction_at code row ∷ [])) where
  abbrev is : List Instruction
  is = instruction_at code row ∷ []

  abbrev this : Deed
  this = an_access u (thread_of σ u).history.done (first_place is) (first_locks is) (first_takes is) (stores_to (first_place is) (queue_of m u))
      (first_locks is && (access_of (instruction_at code row) k.registers memory).writes)

  done : waits e this ≡ waits e (deed σ (byte_for access u))
  done = ap (waits e) (sym (access_shown code lengths m σ held u six ok k memory row ek em er))

  pub asked_empties : (b : Bool) → b ≡ (e.moves && (locks && eqb e.thread u)) → b ≡ true → true ≡ waits e (deed σ (byte_for access u))
  asked_empties b eb t = access_empties e u _ _ _ _ _ _ (ap (λ (y : Bool). e.moves && (y && eqb e.thread u)) (sym el) ∙ sym eb ∙ t) ∙ done

  module _ (b : Bool) (eb : b ≡ (e.moves && (locks && eqb e.thread u))) (f : b ≡ false) (place : ℕ) (ep : place ≡ first_place (instruction_at code row ∷ [])) where
    stays : (e.moves && (first_locks is && eqb e.thread u)) ≡ false
    stays = ap (λ (y : Bool). e.moves && (y && eqb e.thread u)) (sym el) ∙ sym eb ∙ f

    pub asked_away : (e.location ≡ place → ⊥) → false ≡ waits e (deed σ (byte_for access u))
    asked_away n = access_away e u _ _ _ _ _ _ stays (ne_eqb e.location (first_place is) (λ q. n (q ∙ sym ep))) ∙ done

    module _ (same : e.location ≡ place) (puts : Bool) (eq : puts ≡ (locks && (access_of (instruction_at code row) k.registers memory).writes)) where
      here : eqb e.location (first_place is) ≡ true
      here = eq-eqb e.location (first_place is) (same ∙ ep)

      put_here : puts ≡ (first_locks is && (access_of (instruction_at code row) k.registers memory).writes)
      put_here = eq ∙ ap (λ (y : Bool). y && (access_of (instruction_at code row) k.registers memory).writes) el

      pub asked_puts : puts ≡ true → (e.puts || e.looks) ≡ waits e (deed σ (byte_for access u))
      asked_puts t = access_puts e u _ _ _ _ _ _ stays here (sym put_here ∙ t) ∙ done

      pub asked_finds : puts ≡ false → (s : Bool) → s ≡ stores_to e.location (queue_of m u)
          → (e.puts && ((first_takes (instruction_at code row ∷ []) && not s) && not (eqb e.thread u))) ≡ waits e (deed σ (byte_for access u))
      asked_finds t s es =
          ap (λ (y : Bool). e.puts && ((first_takes is && not y) && not (eqb e.thread u))) (es ∙ ap (λ (l : ℕ). stores_to l (queue_of m u)) (same ∙ ep))
          ∙ access_finds e u _ _ _ _ _ _ stays here (sym put_here ∙ t) ∙ done
