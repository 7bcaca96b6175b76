-- HOW NEARNESS GOES ON behind a step of s. A read takes s one access on: towards those that s is near, and away from those that are near s and follow. A
-- write parts s from all, and parts two others where it stands in the way between them.
use Prim.Native.Nat.{ℕ, zero, suc}
use mathlib.Core.Path.{◌≡◌, refl, sym, ap, subst, ◌∙◌}
use mathlib.Core.Logic.{◌≢◌, ◌↔◌}
use mathlib.Core.Bool.{Bool, true, false, not, true≢false}
use mathlib.Core.List.{List, Memᴰ}
use native.Mathlib.Omega.{arith}
use native.Mathlib.Decide.{ℕ_discrete}
use Rattle.spec_file.specs.Program.{Program}
use Rattle.spec_file.specs.WellFormed.{WellFormed}
use Rattle.spec_model.specs.Exchange.{Together}
use Rattle.spec_sc.specs.State.{Event, Thread, Cell, State, thread_of, cell_of, place, latest, step, enabled, start}
use Rattle.spec_sc.specs.Actions.{writes}
use Rattle.spec_sc.proofs.Same.{both_and}
use Rattle.spec_sc.proofs.Steps.{enabled_small, enabled_pending, enabled_range, thread_own, thread_other, cell_other}
use Rattle.spec_sc.proofs.Regular.{Regular}
use Rattle.spec_sc.proofs.Histories.{upcoming}
use Rattle.spec_sc.proofs.Swap.{still_cells}
use Rattle.spec_sc.proofs.Trails.{writes_own}
use Rattle.theory_sc.proofs.Counting.{latest_front}
use Rattle.theory_sc.proofs.GoesFirst.{Quiet}
use Rattle.theory_sc.proofs.ReadWords.{known_new, sources_known}
use Rattle.theory_sc_key.specs.Nearness.{looks, onward, gone_on}
use Rattle.theory_sc_key.proofs.GoingOn.{Comes, comes_first, comes_rest, comes_last, comes_before, Misses, comes_past, comes_unread}
use Rattle.theory_sc_key.proofs.Traced.{quiet_step, Traced, led_both}

-- t is near u, by so many accesses
abbrev pub Near : ℕ → State → ℕ → ℕ → Type 0
Near n σ t u = Quiet σ t × Quiet σ u × Comes σ.cells n (thread_of σ t) (thread_of σ u)

-- t is near s behind a read of s: before it, s was one access behind t, or t was near s
abbrev pub Caught : ℕ → State → ℕ → ℕ → Type 0
Caught zero σ s t = Near 1 σ s t
Caught (suc n) σ s t = Near n σ t s

-- t is so many accesses from where the next access of s leads
abbrev Follows : ℕ → State → ℕ → ℕ → Type 0
Follows n σ t s = Quiet σ t × Quiet σ s × Comes σ.cells n (thread_of σ t) (onward σ.cells (thread_of σ s))

-- if s writes, then not where t goes by its next n accesses
abbrev pub Around : ℕ → State → ℕ → ℕ → Type 0
Around n σ s t = writes σ s ≡ true → Misses σ.cells n (thread_of σ t) (place σ s)

-- what holds before a step of s where t is near u behind it
abbrev pub Before : ℕ → State → (s t u : ℕ) → Dec (t ≡ s) → Dec (u ≡ s) → Type 0
Before n σ s t u (yes i) j = (writes σ s ≡ false) × Near (suc n) σ s u
Before n σ s t u (no i) (yes j) = (writes σ s ≡ false) × Caught n σ s t
Before n σ s t u (no i) (no j) = Near n σ t u × Around n σ s t

moved : (n : ℕ) {cs ds : List Cell} {h g k j : Thread} → cs ≡ ds → h ≡ g → k ≡ j → Comes cs n h k ↔ Comes ds n g j
moved n a b c = rw (a, b, c) (λ x. x, λ x. x)

module _ (p : Program) (w : WellFormed p) (σ : State) (T : Traced p σ) (s : ℕ) (ok : enabled σ s ≡ true) where
  g : Regular σ
  g = T.regular

  own : thread_of (step σ s) s ≡ onward σ.cells (thread_of σ s)
  unfolding cell_of place
  own = thread_own σ s (enabled_range σ s ok)

  looking : writes σ s ≡ false → looks σ.cells (thread_of σ s) ≡ true
  unfolding writes looks cell_of place
  looking e = both_and (enabled_pending σ s ok) (ap not e)

  -- ---- A STEP THAT READS: nobody writes, and memory stays
  read_near : writes σ s ≡ false → (n t u : ℕ) (h k : Thread) → thread_of (step σ s) t ≡ h → thread_of (step σ s) u ≡ k →
      Near n (step σ s) t u ↔ (Quiet σ t × Quiet σ u × Comes σ.cells n h k)
  read_near e n t u h k a b =
      let at = moved n (still_cells σ s e) a b in (
        λ x. (((quiet_step σ g s t).0 x.0).0, ((quiet_step σ g s u).0 x.1).0, at.0 x.2),
        λ x. ((quiet_step σ g s t).1 (x.0, λ q. e), (quiet_step σ g s u).1 (x.1, λ q. e), at.1 x.2),
      )

  by_own : (n u : ℕ) → u ≢ s → Near n (step σ s) s u ↔ ((writes σ s ≡ false) × Near (suc n) σ s u)
  by_own n u ne = (there, back)
    where
      at : writes σ s ≡ false → Near n (step σ s) s u ↔ (Quiet σ s × Quiet σ u × Comes σ.cells n (onward σ.cells (thread_of σ s)) (thread_of σ u))
      at e = read_near e n s u (onward σ.cells (thread_of σ s)) (thread_of σ u) own (thread_other σ s u ne)

      there : Near n (step σ s) s u → (writes σ s ≡ false) × Near (suc n) σ s u
      there k = let e = ((quiet_step σ g s s).0 k.0).1 refl in let x = (at e).0 k in (e, (x.0, x.1, comes_first σ.cells n (thread_of σ s) (thread_of σ u) (looking e) x.2))

      back : (writes σ s ≡ false) × Near (suc n) σ s u → Near n (step σ s) s u
      back k = (at k.0).1 (k.1.0, k.1.1, comes_rest σ.cells n (thread_of σ s) (thread_of σ u) k.1.2)

  by_ahead : (n t : ℕ) → t ≢ s → Together p t s → Near n (step σ s) t s ↔ ((writes σ s ≡ false) × Caught n σ s t)
  unfolding gone_on cell_of
  by_ahead n t ne line = (λ k. let e = ((quiet_step σ g s s).0 k.1).1 refl in (e, there n e ((at n e).0 k)), λ k. (at n k.0).1 (back n k.0 k.1))
    where
      at : (n : ℕ) → writes σ s ≡ false → Near n (step σ s) t s ↔ Follows n σ t s
      at n e = read_near e n t s (thread_of σ t) (onward σ.cells (thread_of σ s)) (thread_other σ s t ne) own

      there : (n : ℕ) → writes σ s ≡ false → Follows n σ t s → Caught n σ s t
      there zero e x = (x.1, x.0, comes_first σ.cells 0 (thread_of σ s) (thread_of σ t) (looking e) (λ i l. absurd (omega arith), sym x.2.1))
      there (suc n) e x =
          let l = led_both p w σ T t s line x.0 x.1 in
          (x.0, x.1, comes_before T.val (thread_of (start p) s).local σ.cells T.valued n (thread_of σ t) (thread_of σ s) l.0 l.1 (looking e) x.2)

      back : (n : ℕ) → writes σ s ≡ false → Caught n σ s t → Follows n σ t s
      back zero e k = (k.1, k.0, (λ i l. absurd (omega arith), sym (comes_rest σ.cells 0 (thread_of σ s) (thread_of σ t) k.2).1))
      back (suc n) e k = (k.0, k.1, comes_last σ.cells n (thread_of σ t) (thread_of σ s) k.2 (looking e))

  -- ---- A STEP OF A THIRD THREAD, which may write
  by_other : (n t u : ℕ) → t ≢ s → u ≢ s → Near n (step σ s) t u ↔ (Near n σ t u × Around n σ s t)
  unfolding cell_of
  by_other n t u nt nu = go (writes σ s) refl
    where
      unread : writes σ s ≡ true → (r : ℕ × Event) → Memᴰ r (thread_of σ u).history.reads → r.1 ≢ latest (cell_of (step σ s) (place σ s)).writes
      unread e r m q = known_new σ s (enabled_small σ s ok) r.1 (sources_known σ g u r m)
          (q ∙ ap latest (writes_own σ g s (place σ s) refl e) ∙ latest_front (upcoming σ s) (cell_of σ (place σ s)).writes)

      go : (b : Bool) → writes σ s ≡ b → Near n (step σ s) t u ↔ (Near n σ t u × Around n σ s t)
      go false e =
          let at = read_near e n t u (thread_of σ t) (thread_of σ u) (thread_other σ s t nt) (thread_other σ s u nu) in
          (λ k. (at.0 k, λ f. absurd (true≢false (sym f ∙ e))), λ k. at.1 k.0)
      go true e =
          let cs : List Cell = (step σ s).cells in
          let h : Thread = thread_of σ t in
          let k : Thread = thread_of σ u in
          let at = moved n {cs = cs} refl (thread_other σ s t nt) (thread_other σ s u nu) in (
            λ x.
                let c = at.0 x.2 in
                let y = comes_past cs σ.cells (place σ s) (cell_other σ s) n h k (comes_unread cs n h k (place σ s) c (unread e)) c in
                ((((quiet_step σ g s t).0 x.0).0, ((quiet_step σ g s u).0 x.1).0, y.0), λ f. y.1),
            λ x. (
              (quiet_step σ g s t).1 (x.0.0, λ q. absurd (nt q)),
              (quiet_step σ g s u).1 (x.0.1, λ q. absurd (nu q)),
              at.1 (comes_past σ.cells cs (place σ s) (λ l q. sym (cell_other σ s l q)) n h k (x.1 e) x.0.2).0,
            ),
          )

  -- NEAR BEHIND A STEP, by what holds before it
  pub near_step : (n t u : ℕ) → t ≢ u → Together p t u → Near n (step σ s) t u ↔ Before n σ s t u (ℕ_discrete t s) (ℕ_discrete u s)
  near_step n t u ne line = go (ℕ_discrete t s) (ℕ_discrete u s)
    where
      go : (i : Dec (t ≡ s)) (j : Dec (u ≡ s)) → Near n (step σ s) t u ↔ Before n σ s t u i j
      go (yes i) (yes j) = absurd (ne (i ∙ sym j))
      go (yes i) (no j) = subst (λ (x : ℕ). Near n (step σ s) x u ↔ Before n σ s t u (yes i) (no j)) (sym i) (by_own n u j)
      go (no i) (yes j) = subst (λ (x : ℕ). Near n (step σ s) t x ↔ Before n σ s t u (no i) (yes j)) (sym j) (by_ahead n t i (subst (Together p t) j line))
      go (no i) (no j) = by_other n t u i j
