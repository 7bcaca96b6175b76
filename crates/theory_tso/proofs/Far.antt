-- R2 FAR IS SOUND: where thread t's move goes back to a place at which t had a smaller twin u, and at which a byte greater than that of u's move was
-- taken, there is a smaller alike schedule: the move is taken there, and from there on t and u are exchanged.
use Prim.Native.Nat.{ℕ, ◌+◌, ◌<◌}
use mathlib.Core.Path.{◌≡◌, refl, sym, ap, ap₂, subst, ◌∙◌}
use mathlib.Core.Logic.{◌≢◌}
use mathlib.Core.Bool.{true, false, ◌&&◌, false≢true}
use mathlib.Core.List.{List, [], ◌∷◌, ◌++◌, append_assoc}
use native.Mathlib.Omega.{arith}
use lib.Dec.{ltb}
use borrow.Author.Tests.{ltb-true}
use Rattle.spec_file.specs.Program.{Program}
use Rattle.spec_file.proofs.DigitValues.{both}
use Rattle.spec_schedules.specs.Lists.{range}
use Rattle.spec_schedules.specs.Order.{Schedule}
use Rattle.spec_schedules.specs.System.{run, Allowed, FullFrom}
use Rattle.spec_schedules.specs.Orders.{trace, next_of, clear}
use Rattle.spec_schedules.proofs.Lists.{of_range, any_yes}
use Rattle.spec_schedules.proofs.Order.{less_heads, less_behind}
use Rattle.spec_schedules.proofs.Runs.{run_append, full_split, full_join}
use Rattle.spec_model.specs.Exchange.{Together, Exchange, together}
use Rattle.spec_model.specs.Model.{moved_schedule}
use Rattle.spec_model.specs.Laws.{Admitted}
use Rattle.spec_model.specs.Alike.{Alike, Smaller}
use Rattle.theory_search.specs.ModelSearch.{Sound}
use Rattle.spec_model.proofs.Exchanges.{members}
use Rattle.spec_model.proofs.Permitted.{together_true}
use Rattle.spec_model.proofs.Swapped.{swapped, swapped_high, swapped_exchange}
use Rattle.spec_model.proofs.Passing.{Passed, passed_next, passed_clear}
use Rattle.theory_search.proofs.Back.{Reaches, back_reaches, back_never}
use Rattle.spec_model.proofs.Traces.{Stands, stands, trace_append, trace_cons}
use Rattle.spec_model.proofs.Alike.{alike_trans, alike_end}
use Rattle.spec_model.proofs.Twins.{fixed_alike}
use Rattle.spec_tso.specs.State.{State, Kind, access, move, TSO, kind_of, owner, byte_for, step, start}
use Rattle.spec_tso.specs.Graph.{end_of, Full}
use Rattle.spec_tso.specs.Actions.{Action, action, who, dependent}
use Rattle.spec_tso.proofs.ActionTerms.{actions}
use Rattle.spec_tso.specs.Exchange.{moved_byte}
use Rattle.spec_tso.proofs.Orders.{action_who, pulled}
use Rattle.spec_tso.specs.TotalStoreOrder.{tso}
use Rattle.spec_tso.proofs.Laws.{tso_laws}
use Rattle.theory_tso.specs.Rules.{twin}
use Rattle.theory_tso.specs.Far.{Place, placed, byte_at, dependent_at, taken_at, twin_moves, starts_by, starts, far}
use Rattle.theory_tso.proofs.TwinTest.{test_tw, tw_fixed}

-- a byte's exchanged move
move_high : (u t b : ℕ) → u ≢ t → kind_of b ≡ move → owner b ≡ t → moved_byte (swapped u t) b ≡ u + 16
unfolding moved_byte byte_for
move_high u t b ne k o = ap₂ byte_for k (ap (swapped u t) o ∙ swapped_high u t ne)

-- passing places is passing their steps
pub passed_actions : (s : Schedule) (ρ σ : State) (b : ℕ) → Passed byte_at dependent_at (trace TSO placed ρ s) (σ, b) → Passed who dependent (actions ρ s) (action σ b)
unfolding trace
passed_actions [] ρ σ b k = tt
passed_actions (x ∷ s) ρ σ b k = ((λ e. k.0 (sym (action_who ρ x) ∙ e ∙ action_who σ b)), k.1, passed_actions s (step ρ x) σ b k.2)

-- an access is never far
pub far_access : (p : Program) (v : Schedule) (b : ℕ) → kind_of b ≡ access → far p v (end_of p v) b ≡ false
unfolding far starts starts_by
far_access p v b k = back_never byte_at dependent_at (starts p) (taken_at p v) (end_of p v, b) (λ q. ap (λ (j : Kind). starts_by p q j (owner b)) k)

module _ (p : Program) (a : Admitted tso p) where
  -- t's move taken at the place, with the end of the whole; u is t's smaller twin there, and its move smaller than the byte taken there
  module _ (v : Schedule) (c : ℕ) (z : Schedule) (f : Full p (v ++ (c ∷ z))) (u t b : ℕ) (r : Schedule) (kb : kind_of b ≡ move) (ob : owner b ≡ t) (h : u < t) (e : twin p (end_of p v) t u ≡ true) (lower : u + 16 < c)
      (g : FullFrom TSO (end_of p v) (b ∷ r)) (q : run TSO (end_of p v) (b ∷ r) ≡ run TSO (end_of p v) (c ∷ z)) where
    ne : u ≢ t
    ne i = omega (arith, h, i)

    line : Together p u t
    unfolding twin
    line = together_true p u t (both (together p.groups u t) _ e).0

    parts : Allowed TSO (start p) v × FullFrom TSO (end_of p v) (c ∷ z)
    parts = full_split TSO (start p) v (c ∷ z) f

    exchange : Exchange p (swapped u t)
    exchange =
        let m = members p a.0 u t line in
        let six = a.0.six in
        swapped_exchange p u t ne (omega (arith, m.0)) (omega (arith, m.1)) line

    exchanged : Full p (v ++ moved_schedule tso (swapped u t) (b ∷ r)) × Alike tso p (v ++ moved_schedule tso (swapped u t) (b ∷ r)) (v ++ (b ∷ r))
    exchanged = fixed_alike tso tso_laws p a v (swapped u t) exchange (tw_fixed p a.0 v parts.0 u t ne line (test_tw p a.0 v parts.0 u t ne line e)) (b ∷ r)
        (full_join TSO (start p) v (b ∷ r) parts.0 g)

    same : end_of p (v ++ (b ∷ r)) ≡ end_of p (v ++ (c ∷ z))
    same = run_append TSO (start p) v (b ∷ r) ∙ q ∙ sym (run_append TSO (start p) v (c ∷ z))

    pub far_ends : Smaller tso p (v ++ (c ∷ z))
    far_ends = (
      v ++ moved_schedule tso (swapped u t) (b ∷ r),
      exchanged.0,
      less_behind v (moved_schedule tso (swapped u t) (b ∷ r)) (c ∷ z)
          ∙ less_heads (moved_byte (swapped u t) b) c (moved_schedule tso (swapped u t) r) z (omega (arith, lower, move_high u t b ne kb ob)),
      alike_trans tso tso_laws p a (v ++ moved_schedule tso (swapped u t) (b ∷ r)) (v ++ (b ∷ r)) (v ++ (c ∷ z)) exchanged.1 (alike_end tso tso_laws p a (v ++ (b ∷ r)) (v ++ (c ∷ z)) same),
    )

  -- at the place that the walk reaches
  module _ (v : Schedule) (b : ℕ) (z : Schedule) (f : Full p (v ++ (b ∷ z))) (before : Schedule) (c : ℕ) (after : Schedule) (split : v ≡ before ++ (c ∷ after))
      (pass : Passed who dependent (actions (end_of p before) (c ∷ after)) (action (end_of p v) b)) where
    whole : v ++ (b ∷ z) ≡ before ++ (c ∷ (after ++ (b ∷ z)))
    whole = ap (λ (s : Schedule). s ++ (b ∷ z)) split ∙ append_assoc before (c ∷ after) (b ∷ z)

    there : run TSO (end_of p before) (c ∷ after) ≡ end_of p v
    there = sym (run_append TSO (start p) before (c ∷ after)) ∙ ap (run TSO (start p)) (sym split)

    full : Full p (before ++ (c ∷ (after ++ (b ∷ z))))
    full = subst (Full p) whole f

    parts_there : Allowed TSO (start p) before × FullFrom TSO (end_of p before) (c ∷ (after ++ (b ∷ z)))
    parts_there = full_split TSO (start p) before (c ∷ (after ++ (b ∷ z))) full

    steps : actions (end_of p before) ((c ∷ after) ++ (b ∷ z)) ≡ actions (end_of p before) (c ∷ after) ++ (action (end_of p v) b ∷ actions (step (end_of p v) b) z)
    steps = trace_append TSO action (c ∷ after) (b ∷ z) (end_of p before)
        ∙ ap (λ (τ : State). actions (end_of p before) (c ∷ after) ++ actions τ (b ∷ z)) there
        ∙ ap (λ (l : List Action). actions (end_of p before) (c ∷ after) ++ l) (trace_cons TSO action b z (end_of p v))

    pulled_there : (r : Schedule) × FullFrom TSO (end_of p before) (b ∷ r) × (run TSO (end_of p before) (b ∷ r) ≡ run TSO (end_of p before) (c ∷ (after ++ (b ∷ z))))
    pulled_there =
        let x = pulled (c ∷ (after ++ (b ∷ z))) (end_of p before) b (action (end_of p v) b) parts_there.1
        (ap (λ (l : List Action). next_of who dependent l b) steps ∙ passed_next who dependent (actions (end_of p before) (c ∷ after)) (action (end_of p v) b) (actions (step (end_of p v) b) z) b (action_who (end_of p v) b) pass)
        (ap (λ (l : List Action). clear who dependent l b (action (end_of p v) b)) steps ∙ passed_clear who dependent (actions (end_of p before) (c ∷ after)) (action (end_of p v) b) (actions (step (end_of p v) b) z) b (action_who (end_of p v) b) pass) in
        (x.0, x.1, x.2)

    by_kind : (k : Kind) → kind_of b ≡ k → starts_by p (end_of p before, c) k (owner b) ≡ true → Smaller tso p (v ++ (b ∷ z))
    unfolding starts_by twin_moves
    by_kind access k e = absurd (false≢true e)
    by_kind move k e =
        let x = any_yes (λ u. twin p (end_of p before) (owner b) u && ltb (u + 16) c) (range 0 (owner b)) e in
        let u = x.0 in
        let i = (of_range 0 (owner b) u x.1).1 in
        let y = both (twin p (end_of p before) (owner b) u) _ x.2 in
        let s = pulled_there in
        subst (Smaller tso p) (sym whole)
        (far_ends before c (after ++ (b ∷ z)) full u (owner b) b s.0 k refl (omega (arith, i)) y.0 (ltb-true (u + 16) c y.1) s.1 s.2)

  -- R2 FAR IS SOUND
  pub far_smaller : Sound tso p (far p)
  unfolding far starts
  far_smaller v b z e f =
      let r = back_reaches byte_at dependent_at (starts p) (trace TSO placed (start p) v) (end_of p v, b) e in
      go r (stands TSO placed v (start p) r.front r.there r.rest r.split)
    where
      go : (r : Reaches byte_at dependent_at (starts p) (trace TSO placed (start p) v) (end_of p v, b)) → Stands TSO placed (start p) v r.front r.there r.rest → Smaller tso p (v ++ (b ∷ z))
      go r s = by_kind v b z f s.before s.byte s.after s.split
          (passed_actions (s.byte ∷ s.after) (end_of p s.before) (end_of p v) b
          (subst (λ (l : List Place). Passed byte_at dependent_at l (end_of p v, b)) (sym s.rests) r.passed))
          (kind_of b) refl (subst (λ (q : Place). starts p q b ≡ true) s.does r.begins)
