-- R2 is sound: where a smaller twin u stands as t stands, exchanging the two leaves the state as it is, so that every full schedule that takes t
-- now has an exchanged one that takes u.
use Prim.Native.Nat.{ℕ, ◌<◌}
use mathlib.Core.Path.{◌≡◌, refl, sym, ap, ap₂, subst, ◌∙◌}
use mathlib.Core.Logic.{◌≢◌}
use mathlib.Core.Bool.{true}
use mathlib.Core.List.{List, ◌∷◌, ◌++◌}
use native.Mathlib.Omega.{arith}
use lib.Dec.{eqb}
use borrow.Author.Tests.{eqb-true}
use Rattle.spec_file.specs.Program.{Program, code_of}
use Rattle.spec_file.specs.WellFormed.{WellFormed}
use Rattle.spec_file.proofs.DigitValues.{both}
use Rattle.spec_schedules.specs.Order.{Schedule, less}
use Rattle.spec_schedules.specs.System.{run, Allowed}
use Rattle.spec_schedules.proofs.Order.{less_heads, less_behind}
use Rattle.spec_schedules.proofs.Runs.{run_append, full_split, full_join}
use Rattle.spec_sc.specs.Local.{Local}
use Rattle.spec_sc.specs.State.{Event, History, Thread, State, thread_of, start, SC}
use Rattle.spec_sc.specs.Graph.{end_of, Full}
use Rattle.spec_sc.proofs.ExchangeTerms.{moved_schedule}
use Rattle.spec_sc.specs.Exchange.{Moves}
use Rattle.spec_sc.proofs.Suffix.{Suffix, suffix_equal}
use Rattle.spec_sc.proofs.Steps.{run_threads}
use Rattle.spec_sc.proofs.Start.{start_threads}
use Rattle.spec_sc.proofs.Regular.{regular_start, regular_run}
use Rattle.spec_sc.proofs.Histories.{rest_code}
use Rattle.spec_sc.proofs.Exchange.{moves_full}
use Rattle.spec_sc.proofs.ExchangedActions.{moved_cons}
use Rattle.spec_sc.proofs.ProgramGraphs.{graph_moved_end}
use Rattle.spec_sc.specs.Same.{same_read}
use Rattle.spec_sc.proofs.Same.{same_read_is}
use Rattle.spec_file.proofs.Lists.{same_list_is}
use Rattle.spec_model.specs.Alike.{Smaller}
use Rattle.spec_model.specs.Exchange.{together, Together}
use Rattle.theory_search.specs.Standing.{same_local, silent}
use Rattle.theory_sc.specs.Rules.{same_history, twin}
use Rattle.spec_model.proofs.Alike.{alike_sym}
use Rattle.spec_model.proofs.Permitted.{together_true}
-- two members of one `02` line exist and have one code; a thread that has written nothing
use Rattle.spec_model.proofs.Exchanges.{members}
use Rattle.spec_sc.proofs.Laws.{sc_laws}
use Rattle.spec_sc.specs.Sequential.{sc}
use Rattle.theory_search.proofs.Standing.{silent_true}
use Rattle.theory_search.proofs.Standing.{same_local_lem}
use Rattle.spec_model.proofs.Swapped.{swapped, swapped_high, swapped_exchange}
use Rattle.spec_sc.proofs.Swapped.{swapped_state}

pub same_history_lem : (h k : History) → same_history h k ≡ true → h ≡ k
unfolding same_history
same_history_lem h k e =
    let a = both (eqb h.done k.done) _ e in
    ap₂ (λ (d : ℕ) (rs : List (ℕ × Event)). let z : History = record { done = d; reads = rs } in z) (eqb-true h.done k.done a.0) (same_list_is same_read same_read_is h.reads k.reads a.1)

module _ (p : Program) (w : WellFormed p) where
  twins_equal : (v : Schedule) → Allowed SC (start p) v → (u t : ℕ) → Together p u t → same_local (thread_of (end_of p v) u).local (thread_of (end_of p v) t).local ≡ true →
      same_history (thread_of (end_of p v) u).history (thread_of (end_of p v) t).history ≡ true → thread_of (end_of p v) u ≡ thread_of (end_of p v) t
  twins_equal v a u t k e f =
      let r = members p w u t k in
      ap₂ (λ (l : Local) (h : History). let z : Thread = record { local = l; history = h } in z)
      (same_local_lem _ _ (λ n. suffix_equal (code_of p t) _ _ (subst (Suffix _) r.2 (rest_code p v a u)) (rest_code p v a t) n) e) (same_history_lem _ _ f)

  -- R2
  pub twin_smaller : (v : Schedule) (u t : ℕ) (z : Schedule) → u < t → twin p (end_of p v) t u ≡ true → Full p (v ++ (t ∷ z)) → Smaller sc p (v ++ (t ∷ z))
  unfolding twin
  twin_smaller v u t z h e f =
      let σ : State = end_of p v in
      let a = both (together p.groups u t) _ e in
      let b = both (same_local (thread_of σ u).local (thread_of σ t).local) _ a.1 in
      let c = both (same_history (thread_of σ u).history (thread_of σ t).history) _ b.1 in
      let d = both (silent σ u) (silent σ t) c.1 in
      let s = full_split SC (start p) v (t ∷ z) f in
      let k = together_true p u t a.0 in
      let m = members p w u t k in
      let six = w.six in
      let ne : u ≢ t = λ q. omega arith in
      let hu : u < 6 = omega (arith, m.0) in
      let ht : t < 6 = omega (arith, m.1) in
      let x = swapped_exchange p u t ne hu ht k in
      let fix = swapped_state p w σ (regular_run v (start p) (regular_start p w) s.0) (run_threads v (start p) ∙ start_threads p) u t ne hu ht k
      (twins_equal v s.0 u t k b.0 c.0) (silent_true σ u d.0) (silent_true σ t d.1) in
      let r = moves_full (swapped u t) x.0 (t ∷ z) σ σ fix s.1 in
      let rest : Schedule = moved_schedule (swapped u t) (t ∷ z) in
      let first : rest ≡ u ∷ moved_schedule (swapped u t) z = moved_cons (swapped u t) t z ∙ ap (λ (y : ℕ). y ∷ moved_schedule (swapped u t) z) (swapped_high u t ne) in
      let ends = subst (λ (τ : State). Moves (swapped u t) τ (end_of p (v ++ rest))) (sym (run_append SC (start p) v (t ∷ z))) (subst (Moves (swapped u t) (run SC σ (t ∷ z))) (sym (run_append SC (start p) v rest)) r.1) in (
        v ++ rest,
        full_join SC (start p) v rest s.0 r.0,
        less_behind v rest (t ∷ z) ∙ ap (λ (y : Schedule). less y (t ∷ z)) first ∙ less_heads u t (moved_schedule (swapped u t) z) z h,
        alike_sym sc sc_laws p (w, refl) (v ++ (t ∷ z)) (v ++ rest) (swapped u t, x, graph_moved_end p (swapped u t) (v ++ (t ∷ z)) (v ++ rest) ends),
      )
