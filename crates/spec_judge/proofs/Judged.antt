-- The judge answers yes exactly to consistent graphs, and with the least schedule.
use Prim.Native.Nat.{ℕ, ◌-◌, ◌≤◌}
use mathlib.Core.Path.{◌≡◌, refl, sym, ap, subst, ◌∙◌}
use mathlib.Core.Logic.{◌↔◌}
use mathlib.Core.Bool.{Bool, true, false, ◌&&◌, true≢false}
use mathlib.Core.Option.{Option, none, some, none-ne-some}
use mathlib.Core.List.{[], ◌∷◌}
use native.Mathlib.Omega.{arith}
use lib.ListN.{length}
use Rattle.spec_file.specs.Program.{Program}
use Rattle.spec_file.specs.WellFormed.{WellFormed, all_accesses}
use Rattle.spec_file.proofs.DigitValues.{both}
use Rattle.spec_schedules.specs.Order.{Schedule}
use Rattle.spec_schedules.specs.System.{run, ended, Allowed, FullFrom}
use Rattle.spec_schedules.specs.Greedy.{Fitting}
use Rattle.spec_schedules.proofs.Order.{AtMost, at_most_not_less}
use Rattle.spec_schedules.proofs.Runs.{ended_none, full_allowed, allowed_full, full_length}
use Rattle.spec_schedules.proofs.Greedy.{GreedyLaws, greedy_least, commuting}
use Rattle.spec_schedules.proofs.GreedyAllowed.{greedy_allowed}
use Rattle.spec_sc.specs.State.{State, step, enabled, SC, start}
use Rattle.spec_sc.specs.Graph.{Graph, graph_of, graph, end_of, Full}
use Rattle.spec_sc.proofs.Lawful.{lawful, names_ascend, at_most_24, start_size}
use Rattle.spec_sc.proofs.Regular.{Regular, regular_step, regular_start}
use Rattle.spec_sc.proofs.Start.{start_history}
use Rattle.spec_judge.specs.Consistent.{location_of, Consistent}
use Rattle.spec_judge.specs.Least.{MadeBy, LeastFor}
use Rattle.spec_judge.proofs.RoundValues.{values, final_values}
use Rattle.spec_judge.proofs.Walk.{fits, walk, same_graph, judge}
use Rattle.spec_sc.proofs.Same.{both_and}
use Rattle.spec_judge.proofs.Tests.{same_graph_is, is_same_graph}
use Rattle.spec_judge.proofs.Alone.{reads_event}
use Rattle.spec_judge.proofs.Rounds.{run_canonical}
use Rattle.spec_judge.proofs.OnRun.{on_start, on_end, all_done, placed}
use Rattle.spec_judge.proofs.ConsistentIff.{run_makes, consistent_iff}
use Rattle.spec_judge.proofs.Fitting.{fits_is}
use Rattle.spec_judge.proofs.Commuting.{fits_commute, fits_stays}
use Rattle.spec_judge.proofs.RunFits.{on_fitting}

module _ (p : Program) (wf : WellFormed p) (g : Graph) where
  abbrev Goal : State → Type 0
  Goal σ = (ended SC σ ≡ true) × (graph_of σ ≡ g)

  abbrev ready : State → ℕ → Bool
  ready = fits g (location_of p (final_values p g))

  fits_enabled : (σ : State) (t : ℕ) → ready σ t ≡ true → enabled σ t ≡ true
  fits_enabled σ t e = (fits_is g (location_of p (final_values p g)) σ t e).live

  greedy_laws : GreedyLaws SC ready Goal Regular
  greedy_laws = commuting SC ready Goal Regular (λ σ t r e. regular_step σ t r (fits_enabled σ t e)) (λ σ t r o. final σ t o.0 (ready σ t) refl)
      (λ σ a b r n x y. fits_commute g (location_of p (final_values p g)) σ a b n x y) (λ σ a b r n x y. fits_stays g (location_of p (final_values p g)) σ a b n x y)
      names_ascend (λ σ t r e. lawful.named σ t (fits_enabled σ t e))
    where
      final : (σ : State) (t : ℕ) → ended SC σ ≡ true → (b : Bool) → ready σ t ≡ b → ready σ t ≡ false
      final σ t o true e = absurd (true≢false (sym (fits_enabled σ t e) ∙ ended_none SC lawful σ t o))
      final σ t o false e = e

  fitting_full : (s : Schedule) (σ : State) → Fitting SC ready Goal σ s → FullFrom SC σ s × (graph_of (run SC σ s) ≡ g)
  unfolding run
  fitting_full [] σ o = o
  fitting_full (t ∷ s) σ o = let r = fitting_full s (step σ t) o.1 in ((fits_enabled σ t o.0, r.0), r.1)

  -- a full schedule has at most as many steps as the program has accesses
  at_most_accesses : (s : Schedule) → Full p s → length s ≤ all_accesses p.threads
  at_most_accesses s f = omega (arith, full_length SC lawful (start p) s f, start_size p)

  made_fitting : (s : Schedule) → MadeBy p g s → Fitting SC ready Goal (start p) s
  made_fitting s m =
      let N = all_accesses p.threads in
      let h = at_most_accesses s m.0 in
      let C = run_canonical p wf g s m in
      let M = run_makes p wf g s N m h in
      let o = on_start p wf g C N s m h in
      on_fitting p wf g C N M (N - 1) (omega arith)
      (λ e q r. placed p wf g C N (N - 1) (omega arith) s (start p) o e (λ d. absurd (omega (arith, (start_history p e.0).0, d)))
      (all_done p wf g C N (run SC (start p) s) (on_end p wf g C N s (start p) o) e (reads_event p (values p g N) e (M.noted e q r))))
      s (start p) o

  -- if some full schedule has the graph, the walk is the least one, and all end in the same state
  walk_least : (s : Schedule) → MadeBy p g s → MadeBy p g (walk p g) × (end_of p (walk p g) ≡ end_of p s) × ((r : Schedule) → MadeBy p g r → AtMost (walk p g) r)
  unfolding walk
  walk_least s m =
      let b = greedy_least SC ready Goal Regular greedy_laws 24 (start p) s (at_most_24 p wf s m.0) (regular_start p wf) (made_fitting s m) in
      (fitting_full (walk p g) (start p) b.0, b.1, λ r k. b.2 r (made_fitting r k))

  abbrev accepts : Bool
  accepts = ended SC (end_of p (walk p g)) && same_graph (graph_of (end_of p (walk p g))) g

  walk_allowed : Allowed SC (start p) (walk p g)
  unfolding walk
  walk_allowed = greedy_allowed SC ready fits_enabled 24 (start p)

  accepted_made : accepts ≡ true → MadeBy p g (walk p g)
  accepted_made e =
      let r = both (ended SC (end_of p (walk p g))) (same_graph (graph_of (end_of p (walk p g))) g) e in
      (allowed_full SC (start p) (walk p g) walk_allowed r.0, same_graph_is (graph_of (end_of p (walk p g))) g r.1)

  made_accepted : MadeBy p g (walk p g) → accepts ≡ true
  made_accepted m = both_and (full_allowed SC (start p) (walk p g) m.0).1
      (subst (λ (h : Graph). same_graph (graph_of (end_of p (walk p g))) h ≡ true) m.1 (is_same_graph (graph_of (end_of p (walk p g)))))

  judge_is : (b : Bool) → accepts ≡ b → judge p g ≡ elim b [ true ↦ some (walk p g) | false ↦ none ]
  unfolding judge
  judge_is b e = ap (λ (c : Bool). elim c as (λ d. Option Schedule) [ true ↦ some (walk p g) | false ↦ none ]) e

  yes_walk : (s : Schedule) → judge p g ≡ some s → (walk p g ≡ s) × MadeBy p g (walk p g)
  yes_walk s e = go accepts refl
    where
      go : (b : Bool) → accepts ≡ b → (walk p g ≡ s) × MadeBy p g (walk p g)
      go false q = absurd (none-ne-some s (sym (judge_is false q) ∙ e))
      go true q = let i : some (walk p g) ≡ some s = sym (judge_is true q) ∙ e in (cc, accepted_made q)

  -- YES: the schedule is the least full one with this graph, and the graph is consistent
  pub judge_yes : (s : Schedule) → judge p g ≡ some s → LeastFor p g s × Consistent p g
  judge_yes s e =
      let r = yes_walk s e in
      let m : MadeBy p g s = subst (MadeBy p g) r.0 r.1 in
      ((m, λ q k. at_most_not_less s q (subst (λ (x : Schedule). AtMost x q) r.0 ((walk_least s m).2 q k))), (consistent_iff p wf g).1 (s, m))

  pub judge_made : (s : Schedule) → MadeBy p g s → (r : Schedule) × (judge p g ≡ some r)
  judge_made s m = (walk p g, judge_is true (made_accepted (walk_least s m).0))

  pub judge_consistent : Consistent p g → (r : Schedule) × (judge p g ≡ some r)
  judge_consistent c = let k = (consistent_iff p wf g).0 c in judge_made k.0 k.1

  -- NO: exactly where the graph is not consistent
  pub judge_no : (judge p g ≡ none) ↔ (Consistent p g → ⊥)
  judge_no = ((λ e c. let r = judge_consistent c in none-ne-some r.0 (sym e ∙ r.1)), λ n. go (judge p g) refl n)
    where
      go : (o : Option Schedule) → judge p g ≡ o → (Consistent p g → ⊥) → judge p g ≡ none
      go none e n = e
      go (some s) e n = absurd (n (judge_yes s e).1)

  -- one graph, one end: all full schedules with this graph end in the same state
  pub same_end : (s r : Schedule) → MadeBy p g s → MadeBy p g r → end_of p s ≡ end_of p r
  same_end s r m k = sym (walk_least s m).1 ∙ (walk_least r k).1

-- every full schedule's graph is judged yes
pub judge_own : (p : Program) → WellFormed p → (s : Schedule) → Full p s → (r : Schedule) × (judge p (graph p s) ≡ some r)
judge_own p wf s f = judge_made p wf (graph p s) s (f, refl)
