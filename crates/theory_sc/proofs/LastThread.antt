-- The last running thread runs to its end without branching: where only t may step and none is asleep for good, no rule gives t's step up, behind it
-- the same holds, and the search goes on with it alone.
use Prim.Native.Nat.{ℕ, zero, suc, ◌+◌, ◌-◌, ◌<◌, ◌≤◌}
use mathlib.Core.Path.{◌≡◌, refl, sym, ap, ◌∙◌}
use mathlib.Core.Logic.{◌≢◌, ◌⊎◌, inl, inr}
use mathlib.Core.Bool.{Bool, true, false, true≢false, false≢true}
use mathlib.Core.Option.{Option, none}
use mathlib.Core.List.{List, [], ◌∷◌, ◌++◌, append-nil}
use native.Mathlib.Omega.{arith}
use native.Mathlib.Decide.{ℕ_discrete}
use lib.Dec.{eqb}
use lib.ListN.{length}
use borrow.Author.Tests.{eqb-true, eqb-false, eq-eqb}
use Rattle.spec_file.specs.Program.{Program}
use Rattle.spec_file.specs.WellFormed.{WellFormed}
use Rattle.spec_file.specs.declared.instruction.Instruction.{Instruction}
use Rattle.spec_file.proofs.DigitValues.{both}
use Rattle.spec_schedules.specs.Lists.{range, any}
use Rattle.spec_schedules.specs.Order.{Schedule}
use Rattle.spec_schedules.specs.System.{ended, Allowed}
use Rattle.theory_search.specs.Search.{low, past}
use Rattle.theory_search.specs.Found.{concat_range}
use Rattle.spec_schedules.proofs.Lists.{of_range, any_yes}
use Rattle.spec_schedules.proofs.Runs.{run_snoc, ended_of, not_ended}
use Rattle.theory_search.proofs.Back.{and_false}
use Rattle.spec_sc.specs.Local.{Local, pending, begins_with_access}
use Rattle.spec_sc.specs.State.{State, SC, thread_of, place, enabled, step, start}
use Rattle.spec_sc.specs.Graph.{end_of}
use Rattle.spec_sc.specs.Actions.{action}
use Rattle.spec_sc.proofs.Steps.{enabled_small, enabled_pending, enabled_of, enabled_other}
use Rattle.spec_sc.proofs.Lawful.{lawful}
use Rattle.spec_sc.proofs.Access.{Settled}
use Rattle.spec_sc.proofs.Regular.{Regular, regular_start, regular_run}
use Rattle.spec_model.specs.Exchange.{together}
use Rattle.theory_search.specs.Standing.{same_local}
use Rattle.theory_sc.specs.Rules.{twin}
use Rattle.spec_schedules.specs.Sets.{has}
use Rattle.theory_sc.specs.LateSet.{late_now, late_behind, late_set}
use Rattle.theory_sc.specs.Sleepers.{reads_left, writes_left, meets, wakes, sleepers}
use Rattle.theory_sc.specs.Alone.{Alone}
use Rattle.theory_sc.specs.Search.{given_up, found_behind, found_with}
use Rattle.theory_sc.proofs.Sets.{has_none, set_none}
use Rattle.theory_sc.proofs.LateSet.{late_below, late_more}
use Rattle.theory_sc.proofs.Sleepers.{sleepers_greatest, sleepers_none}
use Rattle.theory_sc.proofs.Search.{up_not, with_ended, with_live, behind_branches}

-- nothing is left to a thread that has ended
ended_rest : (σ : State) → Regular σ → (u : ℕ) → u < 6 → enabled σ u ≡ false → (thread_of σ u).local.rest ≡ []
ended_rest σ g u h e = go (g.settled u)
  where
    go : Settled (thread_of σ u).local → (thread_of σ u).local.rest ≡ []
    go (inl q) = q
    go (inr q) = absurd (true≢false (sym (enabled_of σ u h q) ∙ e))

ended_wakes : (σ : State) (t u : ℕ) → (thread_of σ u).local.rest ≡ [] → wakes σ t u ≡ false
unfolding wakes meets reads_left writes_left
ended_wakes σ t u e = rw e (rw (has_none (place σ t)) refl)

rest_some : (h : Local) → pending h ≡ true → length h.rest ≢ 0
unfolding pending begins_with_access
rest_some h e = go h.rest e
  where
    go : (is : List Instruction) → begins_with_access is ≡ true → length is ≢ 0
    go [] q = absurd (false≢true q)
    go (i ∷ is) q = λ z. omega arith

-- among these only f t is not empty
concat_range_only : {A : Type 0} (f : ℕ → List A) (n d t : ℕ) → d ≤ t → t < d + n → ((u : ℕ) → u ≢ t → f u ≡ []) → concat_range f n d ≡ f t
unfolding concat_range
concat_range_only f zero d t l h e = absurd (omega arith)
concat_range_only {A} f (suc n) d t l h e = go (ℕ_discrete d t) (λ k. concat_range_only f n (d + 1) t k (omega arith) e)
  where
    rest : (m d : ℕ) → t < d → concat_range f m d ≡ []
    rest zero d k = refl
    rest (suc m) d k = ap (λ (x : List A). x ++ concat_range f m (d + 1)) (e d (λ q. omega arith)) ∙ rest m (d + 1) (omega arith)

    go : Dec (d ≡ t) → (d + 1 ≤ t → concat_range f n (d + 1) ≡ f t) → (f d ++ concat_range f n (d + 1)) ≡ f t
    go (yes q) ih = ap (λ (x : List A). f d ++ x) (rest n (d + 1) (omega arith)) ∙ append-nil (f d) ∙ ap f q
    go (no q) ih = ap (λ (x : List A). x ++ concat_range f n (d + 1)) (e d q) ∙ ih (omega arith)

module _ (p : Program) (w : WellFormed p) (v : Schedule) (a : Allowed SC (start p) v) (t : ℕ) (one : Alone (end_of p v) t) where
  abbrev σ : State
  σ = end_of p v

  regular : Regular (end_of p v)
  regular = regular_run v (start p) (regular_start p w) a

  -- t is not late: it would be asleep for good
  on_time : sleepers (end_of p v) (late_set p v) ≡ 0 → has (late_set p v) t ≡ false
  on_time z = go (has (late_set p v) t) refl
    where
      small : t < 6
      small = enabled_small σ t one.live

      go : (b : Bool) → has (late_set p v) t ≡ b → has (late_set p v) t ≡ false
      go false e = e
      go true e = absurd (true≢false (sym in_them ∙ ap (λ (s : ℕ). has s t) z ∙ has_none t))
        where
          in_them : has (sleepers (end_of p v) (late_set p v)) t ≡ true
          in_them = sleepers_greatest σ (λ u. eqb u t)
              (λ x u h i q n. ended_wakes σ x u (ended_rest σ regular u i (one.others u (eqb-false u t n)))) (late_set p v) (late_below p v)
              (λ u h q. ap (has (late_set p v)) (eqb-true u t q) ∙ e) t small (eq-eqb t t refl)

  -- no thread stands where it stands
  twin_ended : (u : ℕ) → u < t → twin p (end_of p v) t u ≡ true → ⊥
  unfolding twin same_local
  twin_ended u h e =
      let k = (both (together p.groups u t) _ e).1 in
      let l = (both (same_local (thread_of σ u).local (thread_of σ t).local) _ k).0 in
      let s = (both (eqb (length (thread_of σ u).local.rest) (length (thread_of σ t).local.rest)) _ l).0 in
      let r = ended_rest σ regular u (omega (arith, h, enabled_small σ t one.live)) (one.others u (λ q. omega (arith, q, h))) in
      let n : 0 ≡ length (thread_of σ t).local.rest = ap (λ (is : List Instruction). length is) (sym r) ∙ eqb-true (length (thread_of σ u).local.rest) (length (thread_of σ t).local.rest) s in
      rest_some (thread_of σ t).local (enabled_pending σ t one.live) (sym n)

  no_twin : any (twin p (end_of p v) t) (range 0 t) ≡ false
  no_twin = go (any (twin p σ t) (range 0 t)) refl
    where
      go : (b : Bool) → any (twin p σ t) (range 0 t) ≡ b → any (twin p σ t) (range 0 t) ≡ false
      go false e = e
      go true e = let r = any_yes (twin p σ t) (range 0 t) e in let h = (of_range 0 t r.0 r.1).1 in absurd (twin_ended r.0 (omega arith) r.2)

  -- behind its step none is late
  pub none_late : late_set p (v ++ (t ∷ [])) ≡ 0
  unfolding late_behind late_now action
  none_late = late_more p v t one.live ∙ set_none (late_now (step σ t) (late_set p v) (action σ t)) 6 (λ u h. at u (ℕ_discrete u t))
    where
      at : (u : ℕ) → Dec (u ≡ t) → late_now (step σ t) (late_set p v) (action σ t) u ≡ false
      at u (yes q) = let e = eq-eqb t u (sym q) in rw e (and_false (enabled (step σ t) u))
      at u (no q) = let e = enabled_other σ t u q ∙ one.others u q in rw e

  pub none_asleep : sleepers (end_of p (v ++ (t ∷ []))) (late_set p (v ++ (t ∷ []))) ≡ 0
  none_asleep = ap (sleepers (end_of p (v ++ (t ∷ [])))) none_late ∙ sleepers_none (end_of p (v ++ (t ∷ [])))

  -- THE LAST THREAD GOES ON: its step is not given up
  pub last_goes_on : sleepers (end_of p v) (late_set p v) ≡ 0 → given_up p v (end_of p v) t ≡ false
  last_goes_on z = up_not p v t (on_time z) no_twin none_asleep

  -- behind a prefix with one running thread nothing but its step is tried
  pub last_alone : (failures : Bool) (steps : ℕ) (o : Option Schedule) → steps < 24 → low o ≤ t → sleepers (end_of p v) (late_set p v) ≡ 0 →
      found_behind failures p steps o v ≡ found_behind failures p (steps + 1) (past o t) (v ++ (t ∷ []))
  last_alone failures steps o h l z =
      behind_branches failures p steps v o (not_ended SC lawful σ t one.live) h
      ∙ concat_range_only (λ d. found_with failures p steps o v d) (6 - low o) (low o) t l (omega (arith, l, enabled_small σ t one.live)) (λ u n. with_ended failures p steps o v u (one.others u n))
      ∙ with_live failures p steps o v t one.live (last_goes_on z)

  -- apart from the bound
  pub last_apart : (failures : Bool) (steps : ℕ) → steps < 24 → sleepers (end_of p v) (late_set p v) ≡ 0 →
      found_behind failures p steps none v ≡ found_behind failures p (steps + 1) none (v ++ (t ∷ []))
  unfolding low past
  last_apart failures steps h z = last_alone failures steps none h (omega arith) z

  -- behind its step it is still alone, or all have ended
  pub alone_more : (ended SC (end_of p (v ++ (t ∷ []))) ≡ true) ⊎ Alone (end_of p (v ++ (t ∷ []))) t
  alone_more = go (enabled (end_of p (v ++ (t ∷ []))) t) refl
    where
      others : (u : ℕ) → u ≢ t → enabled (end_of p (v ++ (t ∷ []))) u ≡ false
      others u n = ap (λ (τ : State). enabled τ u) (run_snoc SC (start p) v t) ∙ enabled_other σ t u n ∙ one.others u n

      go : (b : Bool) → enabled (end_of p (v ++ (t ∷ []))) t ≡ b → (ended SC (end_of p (v ++ (t ∷ []))) ≡ true) ⊎ Alone (end_of p (v ++ (t ∷ []))) t
      go true e = inr (record { live = e; others = others })
      go false e = inl (ended_of SC (end_of p (v ++ (t ∷ []))) (λ u. at u (ℕ_discrete u t)))
        where
          at : (u : ℕ) → Dec (u ≡ t) → enabled (end_of p (v ++ (t ∷ []))) u ≡ false
          at u (yes q) = ap (enabled (end_of p (v ++ (t ∷ [])))) q ∙ e
          at u (no q) = others u q
