-- The place in the schedule grows along the four orders, so that the graph of a run has no cycle.
use Prim.Native.Nat.{ℕ, suc, ◌<◌}
use mathlib.Core.Path.{◌≡◌, refl, sym, subst, ◌∙◌}
use mathlib.Core.Logic.{⊎_elim}
use mathlib.Core.Bool.{Bool, true, false, true≢false}
use mathlib.Core.List.{[], ◌∷◌}
use native.Mathlib.Omega.{arith}
use Rattle.spec_file.specs.Program.{Program}
use Rattle.spec_file.specs.WellFormed.{WellFormed}
use Rattle.spec_schedules.specs.Order.{Schedule}
use Rattle.spec_sc.specs.State.{Event, State, step, start}
use Rattle.spec_sc.specs.Graph.{Graph}
use Rattle.spec_sc.proofs.Start.{start_history}
use Rattle.spec_sc.proofs.Histories.{upcoming, Done, done_cases}
use Rattle.spec_judge.specs.Consistent.{order_of, Canonical, Makes, Before, program_order, reads_from, coherence, from_reads, Way, one, more, Acyclic}
use Rattle.spec_sc.specs.Same.{same_event}
use Rattle.spec_judge.proofs.RoundValues.{values}
use Rattle.spec_sc.proofs.Same.{same_event_is, is_same_event}
use Rattle.spec_judge.proofs.Later.{later_in}
use Rattle.spec_judge.proofs.InOrder.{order_event, row_event}
use Rattle.spec_judge.proofs.OnRun.{On, on_step, all_done, on_ready}

-- a number that grows along a relation rules out cycles
growing : {A : Type 0} (R : A → A → Type 0) (rank : A → ℕ) → ((x y : A) → R x y → rank x < rank y) → Acyclic R
growing {A} R rank g x w = absurd (omega (arith, by_way x x w))
  where
    by_way : (x y : A) → Way R x y → rank x < rank y
    by_way x y (one e) = g x y e
    by_way x y (more {y = z} w e) = omega (arith, by_way x z w, g z y e)

-- how many steps come before the event's own; what is never done comes behind the end, by its number
unfoldable position : State → Schedule → Event → ℕ
position σ [] e = e.1
position σ (t ∷ z) e = elim (same_event e (upcoming σ t)) [ true ↦ 0 | false ↦ suc (position (step σ t) z e) ]

module _ (p : Program) (wf : WellFormed p) (g : Graph) (C : Canonical p g) (N : ℕ) (M : Makes p g (values p g N)) where
  abbrev B : Event → Event → Type 0
  B = Before p g (values p g N)

  at_end : (σ : State) → On p wf g C N σ [] → (x y : Event) → B x y → (Done σ x → ⊥) → (Done σ y → ⊥) → x.1 < y.1
  at_end σ o x y (program_order q h) nx ny = h
  at_end σ o x y (reads_from r n) nx ny = absurd (ny (all_done p wf g C N σ o y (row_event p wf g (values p g N) C M y x r)))
  at_end σ o x y (coherence l f) nx ny = absurd (ny (all_done p wf g C N σ o y (order_event p wf g (values p g N) C M l y (later_in (order_of g l) y x f).0)))
  at_end σ o x y (from_reads s r f n) nx ny = absurd (nx (all_done p wf g C N σ o x (row_event p wf g (values p g N) C M x s r)))

  climbs : (z : Schedule) (σ : State) → On p wf g C N σ z → (x y : Event) → B x y → (Done σ x → ⊥) → (Done σ y → ⊥) → position σ z x < position σ z y
  unfolding position
  climbs [] σ o x y b nx ny = at_end σ o x y b nx ny
  climbs (t ∷ z) σ o x y b nx ny = go (same_event y (upcoming σ t)) refl (same_event x (upcoming σ t)) refl (λ i j. climbs z (step σ t) (on_step p wf g C N σ t z o) x y b i j)
    where
      still : (e : Event) → (Done σ e → ⊥) → same_event e (upcoming σ t) ≡ false → Done (step σ t) e → ⊥
      still e n q d = ⊎_elim (λ (h : Done σ e). n h) (λ (h : e ≡ upcoming σ t). true≢false (sym (is_same_event e (upcoming σ t) h) ∙ q)) (done_cases σ t o.ends.full.0 e d)

      go : (c : Bool) → same_event y (upcoming σ t) ≡ c → (d : Bool) → same_event x (upcoming σ t) ≡ d →
          ((Done (step σ t) x → ⊥) → (Done (step σ t) y → ⊥) → position (step σ t) z x < position (step σ t) z y) → position σ (t ∷ z) x < position σ (t ∷ z) y
      go true q d r ih = absurd (nx (on_ready p wf g C N M σ t z o x (subst (B x) (same_event_is y (upcoming σ t) q) b)))
      go false q true r ih = rw (q, r, position) (omega arith)
      go false q false r ih = rw (q, r, position) (omega (arith, ih (still x nx r) (still y ny q)))

  pub on_acyclic : (s : Schedule) → On p wf g C N (start p) s → Acyclic B
  on_acyclic s o = growing B (position (start p) s) (λ x y b. climbs s (start p) o x y b (none x) (none y))
    where
      none : (e : Event) → Done (start p) e → ⊥
      none e d = absurd (omega (arith, (start_history p e.0).0))
