-- R1 IS EXACT FOR GRAPHS: a full schedule is the least with its graph exactly when none of its steps comes late. So where no `02` line
-- stands, and in the test at a full schedule that no rule gave up, the exchange that moves no thread need not be tried.
use Prim.Native.Nat.{ℕ}
use mathlib.Core.Path.{◌≡◌, refl, sym, ap, ap₂, subst, ◌∙◌}
use mathlib.Core.Logic.{◌↔◌, ⊎_elim}
use mathlib.Core.Bool.{Bool, true, false, true≢false}
use mathlib.Core.List.Memᴰ
use mathlib.Core.List.{List, [], ◌∷◌, ◌++◌, map, reverse, Memᴰ}
use Rattle.spec_file.specs.Program.{Program}
use Rattle.spec_schedules.specs.Order.{Schedule, less}
use Rattle.spec_schedules.specs.System.{run, Allowed, FullFrom}
use Rattle.spec_schedules.specs.Orders.{trace}
use Rattle.spec_schedules.proofs.Order.{AtMost, at_most_not_less}
use Rattle.spec_schedules.proofs.Runs.{full_allowed}
use Rattle.spec_model.specs.Model.{Model, end_of, Full, graph, actions}
use Rattle.spec_model.specs.Laws.{Admitted, StepLaws, Laws}
use Rattle.theory_search.specs.Late.{late, Timely}
use Rattle.theory_search.specs.LateSet.{taken}
use Rattle.theory_search.proofs.Timely.{timely_least}
use Rattle.spec_model.proofs.Traces.{stands}
use Rattle.theory_search.proofs.ModelOrders.{least_of, least_with_graph}
use Rattle.theory_search.proofs.Late.{late_now}

module _ (M : Model) (L : StepLaws M) where
  -- the bytes of a run's actions are its schedule
  pub actions_bytes : (s : Schedule) (σ : M.system.State) → map M.who (trace M.system M.act σ s) ≡ s
  unfolding trace
  actions_bytes [] σ = refl
  actions_bytes (b ∷ s) σ = ap₂ (λ (x : ℕ) (xs : Schedule). x ∷ xs) (L.by σ b) (actions_bytes s (M.system.step σ b))

  actions_named : (s : Schedule) (σ : M.system.State) → Allowed M.system σ s → (d : M.Action) → Memᴰ d (trace M.system M.act σ s) → Memᴰ (M.who d) M.system.names
  unfolding trace
  actions_named [] σ r d m = absurd (Memᴰ.not-nil m)
  actions_named (b ∷ s) σ r d m = ⊎_elim
      (λ (e : d ≡ M.act σ b). subst (λ (x : ℕ). Memᴰ x M.system.names) (sym (ap M.who e ∙ L.by σ b)) (L.lawful.named σ b r.0))
      (λ (k : Memᴰ d (trace M.system M.act (M.system.step σ b) s)). actions_named s (M.system.step σ b) r.1 d k) (Memᴰ.cases_cons m)

  -- a run on time is the least order of its own steps
  pub timely_own : (s : Schedule) (σ : M.system.State) → Allowed M.system σ s → Timely M.who M.dependent (trace M.system M.act σ s) →
      least_of M L (trace M.system M.act σ s) ≡ s
  timely_own s σ r on = timely_least M.who M.dependent M.system.names L.ascend (trace M.system M.act σ s) on (actions_named s σ r) ∙ actions_bytes s σ

module _ (M : Model) (L : Laws M) (p : Program) (a : Admitted M p) where
  pub on_time_least : (w : Schedule) → Full M p w → Timely M.who M.dependent (actions M p w) ↔ ((r : Schedule) → Full M p r → graph M p r ≡ graph M p w → AtMost w r)
  on_time_least w f = (
    (λ on r fr e. subst (λ (s : Schedule). AtMost s r) (timely_own M L.steps w (M.start p) (full_allowed M.system (M.start p) w f).0 on) ((least_with_graph M L p a w f).2 r fr e)),
    λ least u d z e. on_time least u d z e (late M.who M.dependent (reverse u) d) refl,
  )
    where
      on_time : ((r : Schedule) → Full M p r → graph M p r ≡ graph M p w → AtMost w r) → (u : List M.Action) (d : M.Action) (z : List M.Action) → actions M p w ≡ u ++ (d ∷ z) →
          (b : Bool) → late M.who M.dependent (reverse u) d ≡ b → late M.who M.dependent (reverse u) d ≡ false
      on_time least u d z e false q = q
      on_time least u d z e true q =
          let s = stands M.system M.act w (M.start p) u d z e in
          let whole : w ≡ s.before ++ (s.byte ∷ s.after) = s.split in
          let l : late M.who M.dependent (taken M p s.before) (M.act (end_of M p s.before) s.byte) ≡ true =
          ap₂ (λ (x : List M.Action) (y : M.Action). late M.who M.dependent (reverse x) y) (sym s.fronts) (sym s.does) ∙ q in
          let r = late_now M L.steps s.before (M.start p) s.byte s.after l (subst (Full M p) whole f) in
          let same : graph M p r.0 ≡ graph M p w = ap M.graph_of (r.3 ∙ ap (run M.system (M.start p)) (sym whole)) in
          absurd (true≢false (sym (subst (λ (k : Schedule). less r.0 k ≡ true) (sym whole) r.2) ∙ at_most_not_less w r.0 (least r.0 r.1 same)))
