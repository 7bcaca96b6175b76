-- The machine agrees with the threads by themselves: each is where it would be alone, and each location has what its last write leaves.
-- A step keeps this as long as what it reads is the value given.
use Prim.Native.Nat.{ℕ, suc}
use mathlib.Core.Path.{◌≡◌, refl, sym, ap, subst, ◌∙◌}
use mathlib.Core.Logic.{inl, inr}
use mathlib.Core.Bool.{Bool, true, false}
use lib.ListN.{length}
use Rattle.spec_file.specs.Program.{Program}
use Rattle.spec_file.specs.WellFormed.{WellFormed}
use Rattle.spec_sc.specs.Local.{Local, place_of, takes, puts, next}
use Rattle.spec_sc.specs.State.{Cell, State, thread_of, cell_of, place, latest, advanced, step, enabled, start}
use Rattle.spec_sc.proofs.Access.{blind_next, blind_puts}
use Rattle.spec_sc.proofs.Steps.{enabled_pending, enabled_range, step_threads}
use Rattle.spec_sc.proofs.Change.{thread_cases, noted_done, Change, kept, wrote}
use Rattle.spec_sc.proofs.Start.{start_threads, start_writes, start_history}
use Rattle.spec_sc.proofs.Regular.{Regular, changes, regular_step, regular_start}
use Rattle.spec_sc.proofs.Start.{start_value}
use Rattle.spec_sc.proofs.Histories.{upcoming}
use Rattle.spec_judge.specs.Consistent.{Values, alone, local_at, Reads, location_of, out_of, Leaves}

module _ (p : Program) (v : Values) where
  pub record Agrees (σ : State) : Type 0 where
    pub regular : Regular σ
    pub threads : length σ.threads ≡ length p.threads
    pub locals : (t : ℕ) → (thread_of σ t).local ≡ local_at p v (upcoming σ t)
    pub values : (l : ℕ) → Leaves p v (latest (cell_of σ l).writes) l (cell_of σ l).value

  pub agrees_start : WellFormed p → Agrees (start p)
  unfolding alone latest
  agrees_start w = record {
    regular = regular_start p w;
    threads = start_threads p;
    locals = λ t. rw (start_history p t).0 refl;
    values = λ l. rw (start_writes p l) (inl (refl, start_value p l));
  }

  module _ (σ : State) (A : Agrees σ) (t : ℕ) where
    abbrev here : Cell
    here = cell_of σ (place σ t)

    pub location : location_of p v (upcoming σ t) ≡ place σ t
    unfolding place
    location = ap place_of (sym (A.locals t))

    pub reads_as : takes (thread_of σ t).local ≡ takes (local_at p v (upcoming σ t))
    reads_as = ap takes (A.locals t)

    module _ (m : enabled σ t ≡ true) (finds : Reads p v (upcoming σ t) → v (upcoming σ t) ≡ here.value) where
      -- the step writes what the event writes
      pub writes_as : puts (thread_of σ t).local here.value ≡ out_of p v (upcoming σ t)
      writes_as = go (takes (thread_of σ t).local) refl ∙ ap (λ (h : Local). puts h (v (upcoming σ t))) (A.locals t)
        where
          go : (b : Bool) → takes (thread_of σ t).local ≡ b → puts (thread_of σ t).local here.value ≡ puts (thread_of σ t).local (v (upcoming σ t))
          go true e = ap (puts (thread_of σ t).local) (sym (finds (sym reads_as ∙ e)))
          go false e = let r = blind_puts (thread_of σ t).local here.value (v (upcoming σ t)) (enabled_pending σ t m) e in r.1 ∙ sym r.2

      goes_as : next (thread_of σ t).local here.value ≡ alone p v t (suc (thread_of σ t).history.done)
      unfolding alone
      goes_as = go (takes (thread_of σ t).local) refl ∙ ap (λ (h : Local). next h (v (upcoming σ t))) (A.locals t)
        where
          go : (b : Bool) → takes (thread_of σ t).local ≡ b → next (thread_of σ t).local here.value ≡ next (thread_of σ t).local (v (upcoming σ t))
          go true e = ap (next (thread_of σ t).local) (sym (finds (sym reads_as ∙ e)))
          go false e = blind_next (thread_of σ t).local here.value (v (upcoming σ t)) (enabled_pending σ t m) e

      own : (advanced (thread_of σ t) here).local ≡ alone p v t (advanced (thread_of σ t) here).history.done
      unfolding advanced
      own = goes_as ∙ ap (alone p v t) (sym (noted_done _ _ _))

      value_after : (l : ℕ) → Change σ t l → Leaves p v (latest (cell_of (step σ t) l).writes) l (cell_of (step σ t) l).value
      unfolding latest
      value_after l (kept q) = subst (λ (c : Cell). Leaves p v (latest c.writes) l c.value) (sym q) (A.values l)
      value_after l (wrote q x e w y) = rw (w, y) (inr (location ∙ sym q, sym writes_as ∙ e))

      pub agrees_step : Agrees (step σ t)
      agrees_step = record {
        regular = regular_step σ t A.regular m;
        threads = step_threads σ t ∙ A.threads;
        locals = λ u. thread_cases (λ k h. h.local ≡ alone p v k h.history.done) σ t (enabled_range σ t m) own u (λ ne. A.locals u);
        values = λ l. value_after l (changes σ A.regular t l);
      }
