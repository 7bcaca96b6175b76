-- A thread by itself on given values: it comes to its end, stays there, and up to there it is a thread of the program before an access.
use Prim.Native.Nat.{ℕ, zero, suc, ◌+◌, ◌<◌, ◌≤◌}
use mathlib.Core.Path.{◌≡◌, refl, sym, ap, ◌∙◌}
use mathlib.Core.Logic.{◌≢◌}
use mathlib.Core.Bool.{Bool, true, false, true≢false}
use mathlib.Core.Option.{none, some, none-ne-some}
use native.Mathlib.Omega.{arith}
use native.Mathlib.Decide.{dec_lt}
use lib.ListN.{length}
use Rattle.spec_file.specs.Program.{Program}
use Rattle.spec_file.specs.WellFormed.{WellFormed, accesses}
use Rattle.spec_sc.specs.Local.{Local, pending}
use Rattle.spec_sc.specs.State.{Event, initial_write, start}
use Rattle.spec_sc.proofs.Access.{next_fewer}
use Rattle.spec_sc.proofs.Idle.{idle, reads_pending, writes_pending}
use Rattle.spec_sc.proofs.Steps.{in_range_lem}
use Rattle.spec_sc.proofs.Start.{start_threads}
use Rattle.spec_judge.specs.Consistent.{Values, alone, local_at, Reads, out_of}

module _ (p : Program) (v : Values) where
  -- the pair is an event: its thread is before an access
  abbrev pub Event-of : Event → Type 0
  Event-of e = pending (local_at p v e) ≡ true

  pub reads_event : (e : Event) → Reads p v e → Event-of e
  reads_event e r = reads_pending (local_at p v e) r

  pub writes_event : (e : Event) → out_of p v e ≢ none → Event-of e
  writes_event e n = writes_pending (local_at p v e) (v e) n

  pub some_writes : (e : Event) (x : ℕ) → out_of p v e ≡ some x → out_of p v e ≢ none
  some_writes e x q n = none-ne-some x (sym n ∙ q)

  module _ (t : ℕ) where
    abbrev at : ℕ → Local
    at i = alone p v t i

    -- once ended, a thread stays as it is
    still : (i : ℕ) → pending (at i) ≡ false → at (suc i) ≡ at i
    unfolding alone
    still i e = (idle (at i) (v (t, i)) e).stays

    pub still_from : (j i : ℕ) → i ≤ j → pending (at i) ≡ false → at j ≡ at i
    still_from zero i h e = let q : 0 ≡ i = omega arith in ap (λ (n : ℕ). at n) q
    still_from (suc j) i h e = go (dec_lt j i) (λ k. still_from j i k e)
      where
        go : Dec (j < i) → (i ≤ j → at j ≡ at i) → at (suc j) ≡ at i
        go (yes k) ih = let q : suc j ≡ i = omega arith in ap (λ (n : ℕ). at n) q
        go (no k) ih = let q = ih (omega arith) in still j (ap pending q ∙ e) ∙ q

    -- events stand before the end, and what stands before an event is one
    pub before_end : (i j : ℕ) → pending (at i) ≡ false → pending (at j) ≡ true → j < i
    before_end i j e f = go (dec_lt j i)
      where
        go : Dec (j < i) → j < i
        go (yes h) = h
        go (no h) = absurd (true≢false (sym f ∙ ap pending (still_from j i (omega arith) e) ∙ e))

    pub earlier_event : (i j : ℕ) → i ≤ j → pending (at j) ≡ true → pending (at i) ≡ true
    earlier_event i j h f = go (pending (at i)) refl
      where
        go : (b : Bool) → pending (at i) ≡ b → pending (at i) ≡ true
        go true e = e
        go false e = absurd (omega (arith, before_end i j e f))

    -- each access lowers the number of those left
    pub accesses_left : (i : ℕ) → pending (at i) ≡ true → accesses (at i).rest + i ≤ accesses (at 0).rest
    unfolding alone
    accesses_left zero e = omega arith
    accesses_left (suc i) e =
        let f = earlier_event i (suc i) (omega arith) e in
        omega (arith, accesses_left i f, next_fewer (at i) (v (t, i)) f)

  pub event_thread : (e : Event) → Event-of e → e.0 < length p.threads
  unfolding alone
  event_thread e h = omega (arith, in_range_lem (start p) e.0 (earlier_event e.0 0 e.1 (omega arith) h), start_threads p)

  -- the initial write is no event
  pub event_real : WellFormed p → (e : Event) → Event-of e → e ≢ initial_write
  unfolding initial_write
  event_real w e h q = absurd (omega (arith, event_thread e h, w.six, ap (λ (x : Event). x.0) q))
