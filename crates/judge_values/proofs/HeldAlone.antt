-- A thread by itself on the machine: its next access on finding x.
use Prim.Native.Nat.{ℕ, ◌%◌, ◌<◌, ◌≤◌}
use mathlib.Core.Path.{◌≡◌, refl, sym, ap, ap₂, ◌∙◌}
use mathlib.Core.Bool.{Bool, true, false, true≢false, cond}
use mathlib.Core.Option.{Option, none, some}
use mathlib.Core.List.{List, []}
use native.Mathlib.Omega.{arith}
use lib.ListN.{length, get_or, set, drop, replicate, get_or-replicate}
use lib.Seq.{get_or-set_same}
use Rattle.machine.specs.declared.state.Machine.{Machine}
use Rattle.machine.specs.declared.stepping.Moved.{Moved}
use Rattle.machine_access.specs.declared.thread.ThreadState.{ThreadState}
use Rattle.spec_file.specs.declared.instruction.Instruction.{Instruction}
use Rattle.file_rows.specs.Rows.{thread_code}
use Rattle.spec_sc.specs.Local.{Local, place_of, puts, next, first_place, first_puts, first_next}
use Rattle.spec_sc.specs.State.{Thread, Cell, State, fresh_cell, thread_of, cell_of, latest, initial_write, place, step, enabled, met, advanced}
use Rattle.spec_sc.specs.Actions.{given, writes}
use Rattle.machine.specs.Held.{idle, unwritten, thread_at, event_of, Holds, HoldsMoved}
use Rattle.spec_sc.proofs.Steps.{enabled_range, thread_own, cell_own}
use Rattle.spec_sc.proofs.Change.{written_some}
use Rattle.machine_access.proofs.HeldSettling.{code_end}
use Rattle.machine.proofs.HeldAsking.{held_enabled}
use Rattle.spec_judge.proofs.RoundValues.{or_zero}
use Rattle.judge_values.specs.HeldRounds.{MetAlone}

-- a state whose every location holds x and was not written, and the machine that holds it
unfoldable faced : State → ℕ → State
faced σ x = record { threads = σ.threads; cells = replicate 8 (fresh_cell x) }

abbrev faced_machine : Machine → ℕ → Machine
faced_machine m x = record { threads = m.threads; memory = replicate 8 x; last = replicate 8 (record { thread = 255; number = 255 }) }

module _ (code lengths : List ℕ) (m : Machine) (σ : State) (x : ℕ) (H : Holds code lengths m σ) where
  abbrev τ : State
  τ = faced σ x

  faced_thread : (t : ℕ) → thread_of τ t ≡ thread_of σ t
  unfolding faced thread_of
  faced_thread t = refl

  faced_value : (l : ℕ) → l < 8 → (cell_of τ l).value ≡ x
  unfolding faced cell_of fresh_cell
  faced_value l h = ap (λ (c : Cell). c.value) (get_or-replicate 8 l (fresh_cell x) (fresh_cell 0) h)

  faced_writes : (l : ℕ) → l < 8 → (cell_of τ l).writes ≡ []
  unfolding faced cell_of fresh_cell
  faced_writes l h = ap (λ (c : Cell). c.writes) (get_or-replicate 8 l (fresh_cell x) (fresh_cell 0) h)

  faced_held : Holds code lengths (faced_machine m x) τ
  unfolding latest initial_write faced thread_of
  faced_held = record {
    sizes = (H.sizes.0, refl, refl);
    six = H.six;
    eight = refl;
    threads = H.threads;
    registers = H.registers;
    values = λ l h. faced_value l h ∙ sym (get_or-replicate 8 l x 0 h);
    sources = λ l h. ap latest (faced_writes l h) ∙ sym (ap event_of (get_or-replicate 8 l (record { thread = 255; number = 255 }) unwritten h));
  }

  faced_place : (t : ℕ) → place τ t ≡ place σ t
  unfolding place
  faced_place t = ap (λ (h : Thread). place_of h.local) (faced_thread t)

  faced_place_of : (t : ℕ) → place τ t ≡ place_of (thread_of σ t).local
  unfolding place
  faced_place_of t = ap (λ (h : Thread). place_of h.local) (faced_thread t)

  faced_eight : length τ.cells ≡ 8
  unfolding faced
  faced_eight = refl

  module _ (t : ℕ) (thread : ThreadState) (here : thread_at m t ≡ thread) (h : t < 6) where
    -- the thread has ended
    pub met_ended : get_or lengths t 0 ≤ thread.at → MetAlone code lengths σ t x (record { thread = thread; place = 0; left = 0 })
    unfolding next place_of puts or_zero first_next first_place first_puts
    met_ended e =
        let none_left : (thread_of σ t).local.rest ≡ [] = (H.threads t h).rest ∙ over in
        record {
          machine = m;
          state = σ;
          holds = H;
          here = here;
          local = sym (ap (λ (is : List Instruction). first_next (thread_of σ t).local is x) none_left);
          place = sym (ap first_place none_left);
          left = sym (ap (λ (is : List Instruction). or_zero (first_puts (thread_of σ t).local.registers is x)) none_left);
        }
      where
        over : drop (thread_at m t).at (thread_code code t (get_or lengths t 0)) ≡ []
        over = code_end code t (get_or lengths t 0) (thread_at m t).at (let q = ap (λ (k : ThreadState). k.at) here in omega (arith, q, e))

    -- the thread has an access, and a machine with x everywhere makes it
    module _ (near : place σ t < 8) (left : thread.at < get_or lengths t 0) where
      ok : enabled τ t ≡ true
      ok = held_enabled code lengths (faced_machine m x) τ faced_held t h (let q = ap (λ (k : ThreadState). k.at) here in omega (arith, q, left))

      faced_near : place τ t < 8
      faced_near = omega (arith, faced_place t)

      abbrev own : Local
      own = (thread_of σ t).local

      found : (cell_of τ (place τ t)).value ≡ x
      found = faced_value (place τ t) faced_near

      behind : (thread_of (step τ t) t).local ≡ next own x
      unfolding advanced
      behind = ap (λ (k : Thread). k.local) (thread_own τ t (enabled_range τ t ok)) ∙ ap₂ (λ (k : Thread) (y : ℕ). next k.local y) (faced_thread t) found

      writes_is : writes τ t ≡ given (puts own x)
      unfolding writes
      writes_is = ap₂ (λ (k : Thread) (y : ℕ). given (puts k.local y)) (faced_thread t) found

      module _ (s : Moved) (step_is : (n : Machine) (ρ : State) → thread_at n t ≡ thread → n.memory ≡ replicate 8 x → Holds code lengths n ρ → enabled ρ t ≡ true → place ρ t < 8
          → HoldsMoved code lengths n ρ t s) where
        moved : HoldsMoved code lengths (faced_machine m x) τ t s
        moved = step_is (faced_machine m x) τ here refl faced_held ok faced_near

        made : (left : ℕ) → left ≡ or_zero (puts own x) → MetAlone code lengths σ t x (record { thread = s.thread; place = s.location; left = left })
        made left e = record {
          machine = record { threads = set m.threads t s.thread; memory = s.memory; last = moved.last };
          state = step τ t;
          holds = moved.holds;
          here = get_or-set_same m.threads t s.thread idle (omega (arith, H.sizes.0));
          local = behind;
          place = moved.location ∙ faced_place_of t;
          left = e;
        }

        -- the access writes nothing
        met_still : s.wrote ≡ false → MetAlone code lengths σ t x (record { thread = s.thread; place = s.location; left = 0 })
        unfolding given or_zero
        met_still e = made 0 (go (puts own x) (sym (moved.wrote ∙ writes_is) ∙ e))
          where
            go : (o : Option ℕ) → given o ≡ false → 0 ≡ or_zero o
            go none q = refl
            go (some v) q = absurd (true≢false q)

        -- the access writes
        met_writes : (l : ℕ) → l ≡ s.location % 8 → s.wrote ≡ true
            → MetAlone code lengths σ t x (record { thread = s.thread; place = s.location; left = get_or s.memory l 0 })
        unfolding given or_zero met
        met_writes l e w = made (get_or s.memory l 0) (
            ap (λ (k : ℕ). get_or s.memory k 0) where_it_goes
            ∙ sym (moved.holds.values (place τ t) faced_near) ∙ ap (λ (c : Cell). c.value) (cell_own τ t (omega (arith, faced_near, faced_eight)))
            ∙ go (puts own x) refl (sym (moved.wrote ∙ writes_is) ∙ w))
          where
            where_it_goes : l ≡ place τ t
            where_it_goes = let q = moved.location in omega (arith, faced_near, q, e)

            go : (o : Option ℕ) → puts own x ≡ o → given o ≡ true → (met t (thread_of τ t) (cell_of τ (place τ t))).value ≡ or_zero o
            go none q z = absurd (true≢false (sym z))
            go (some v) q z = (written_some (t, (thread_of τ t).history.done) (puts (thread_of τ t).local (cell_of τ (place τ t)).value) (cell_of τ (place τ t)) v
                (ap₂ (λ (k : Thread) (y : ℕ). puts k.local y) (faced_thread t) found ∙ q)).1

        -- the access, whether it writes or not
        pub met_moves : (l left : ℕ) → l ≡ s.location % 8 → left ≡ cond s.wrote (get_or s.memory l 0) 0
            → MetAlone code lengths σ t x (record { thread = s.thread; place = s.location; left = left })
        met_moves l left e q = go s.wrote refl
          where
            go : (b : Bool) → s.wrote ≡ b → MetAlone code lengths σ t x (record { thread = s.thread; place = s.location; left = left })
            go true w = rw (q, w) (met_writes l e w)
            go false w = rw (q, w) (met_still w)
