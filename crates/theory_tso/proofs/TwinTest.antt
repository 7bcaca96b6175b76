-- THE TEST OF A TWIN IS EXACT: it passes exactly for threads of one line that are twinned. And where two are, exchanging them leaves the state as it is.
use Prim.Native.Nat.{ℕ, ◌<◌}
use mathlib.Core.Path.{◌≡◌, refl, sym, subst}
use mathlib.Core.Logic.{◌≢◌}
use mathlib.Core.Bool.{true}
use mathlib.Core.List.{List, [], ◌∷◌, Memᴰ}
use native.Mathlib.Omega.{arith}
use borrow.Author.Tests.{eq-eqb}
use Rattle.spec_file.specs.Program.{Program}
use Rattle.spec_file.specs.WellFormed.{WellFormed}
use Rattle.spec_file.proofs.DigitValues.{both}
use Rattle.spec_schedules.specs.Order.{Schedule}
use Rattle.spec_schedules.specs.System.{Allowed}
use Rattle.spec_model.specs.Exchange.{Together, together}
use Rattle.spec_model.proofs.Exchanges.{members}
use Rattle.spec_model.proofs.Permitted.{true_together}
use Rattle.spec_model.proofs.Swapped.{swapped}
use Rattle.spec_sc.specs.State.{Event, Cell}
use Rattle.spec_sc.specs.Exchange.{moved_event, moved_read, moved_reads}
use Rattle.spec_file.specs.Lists.{same_list}
use Rattle.theory_search.specs.Standing.{same_local, silent}
use Rattle.spec_sc.proofs.Same.{both_and}
use Rattle.spec_file.proofs.Lists.{same_list_lem}
use Rattle.spec_sc.proofs.Standing.{Silent}
use Rattle.theory_sc.proofs.GoesFirst as SC
use Rattle.theory_sc.proofs.Preferring.{local_same, quiet_cell, quiet_silent, silent_quiet}
use Rattle.spec_tso.specs.Queue.{Entry}
use Rattle.spec_tso.specs.State.{Thread, State, TSO, unqueued, without_queues, thread_of, start}
use Rattle.spec_tso.specs.Graph.{end_of}
use Rattle.spec_tso.specs.Exchange.{moved_thread, Moves}
use Rattle.spec_tso.proofs.Seen.{seen_cell}
use Rattle.spec_tso.proofs.Sourced.{sourced}
use Rattle.theory_tso.specs.Rules.{same_source, same_entry, stands_as, twin}
use Rattle.theory_tso.proofs.Twins.{renamed_swapped, from_other, stands_moved, twins_state}
use Rattle.theory_tso.proofs.Twinned.{Quiet, Tw}

-- of what memory holds, queues aside
seen_quiet : (σ : State) (u : ℕ) → Quiet σ u → SC.Quiet (without_queues σ) u
seen_quiet σ u q l j m = q l j (subst (λ (c : Cell). Memᴰ (u, j) c.writes) (seen_cell σ l) m)

quiet_seen : (σ : State) (u : ℕ) → SC.Quiet (without_queues σ) u → Quiet σ u
quiet_seen σ u q l j m = q l j (subst (λ (c : Cell). Memᴰ (u, j) c.writes) (sym (seen_cell σ l)) m)

pub quiet_silence : (σ : State) (u : ℕ) → Quiet σ u → Silent (without_queues σ) u
quiet_silence σ u q = quiet_cell (without_queues σ) u (seen_quiet σ u q)

-- the parts of the test pass
locals : (h : Thread) → same_local h.local h.local ≡ true
unfolding unqueued
locals h = local_same (unqueued h) (unqueued h) refl

entries : (q : List Entry) → same_list same_entry q q ≡ true
unfolding same_entry
entries q = same_list_lem same_entry (λ e. both_and (eq-eqb e.number e.number refl) (both_and (eq-eqb e.location e.location refl) (eq-eqb e.value e.value refl))) q

module _ (u t : ℕ) (ne : u ≢ t) where
  source_passes : (r : ℕ × Event) → r.1.0 ≢ t → same_source u t r (moved_read (swapped u t) r) ≡ true
  unfolding same_source moved_read moved_event
  source_passes r n = both_and (eq-eqb r.0 r.0 refl) (both_and (eq-eqb _ _ (renamed_swapped u t ne r.1.0 n)) (eq-eqb r.1.1 r.1.1 refl))

  sources_pass : (rs : List (ℕ × Event)) → ((r : ℕ × Event) → Memᴰ r rs → r.1.0 ≢ t) → same_list (same_source u t) rs (moved_reads (swapped u t) rs) ≡ true
  unfolding same_list moved_reads
  sources_pass [] h = refl
  sources_pass (r ∷ rs) h = both_and (source_passes r (h r (Memᴰ.head refl))) (sources_pass rs (λ x m. h x (Memᴰ.tail m)))

  stands_pass : (h : Thread) → ((r : ℕ × Event) → Memᴰ r h.history.reads → r.1.0 ≢ t) → stands_as u t h (moved_thread (swapped u t) h) ≡ true
  unfolding stands_as moved_thread
  stands_pass h n = both_and (locals h) (both_and (eq-eqb h.history.done h.history.done refl) (both_and (sources_pass h.history.reads n) (entries h.queue)))

module _ (p : Program) (wf : WellFormed p) (v : Schedule) (a : Allowed TSO (start p) v) (u t : ℕ) (ne : u ≢ t) (k : Together p u t) where
  hu : u < 6
  hu = let m = members p wf u t k in let six = wf.six in omega (arith, m.0)

  ht : t < 6
  ht = let m = members p wf u t k in let six = wf.six in omega (arith, m.1)

  -- twinned threads pass
  pub tw_test : Tw (end_of p v) u t → twin p (end_of p v) t u ≡ true
  unfolding twin
  tw_test tw = both_and (true_together p u t k) (both_and
      (subst (λ (g : Thread). stands_as u t (thread_of (end_of p v) u) g ≡ true) (sym tw.0)
      (stands_pass u t ne (thread_of (end_of p v) u) (λ r m. from_other (end_of p v) t u r.1 ht ne (quiet_silence (end_of p v) t tw.2) (sourced p wf v a u r m))))
      (both_and (quiet_silent (without_queues (end_of p v)) u (seen_quiet (end_of p v) u tw.1)) (quiet_silent (without_queues (end_of p v)) t (seen_quiet (end_of p v) t tw.2))))

  -- threads that pass the test are twinned
  pub test_tw : twin p (end_of p v) t u ≡ true → Tw (end_of p v) u t
  unfolding twin
  test_tw e =
      let σ : State = end_of p v in
      let x = both (together p.groups u t) _ e in
      let y = both (stands_as u t (thread_of σ u) (thread_of σ t)) _ x.1 in
      let q = both (silent (without_queues σ) u) _ y.1 in
      let qu = quiet_seen σ u (silent_quiet (without_queues σ) u q.0) in
      let qt = quiet_seen σ t (silent_quiet (without_queues σ) t q.1) in
      (stands_moved p wf v a u t ne hu ht k (quiet_silence σ u qu) (quiet_silence σ t qt) y.0, qu, qt)

  -- THE STATE STAYS when twinned threads are exchanged
  pub tw_fixed : Tw (end_of p v) u t → Moves (swapped u t) (end_of p v) (end_of p v)
  tw_fixed tw = twins_state p wf v a u t ne hu ht k (quiet_silence (end_of p v) u tw.1) (quiet_silence (end_of p v) t tw.2) tw.0
