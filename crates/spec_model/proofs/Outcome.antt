-- Alike full schedules have exchanged ends, so they fail alike and leave the same memory; and a run that fails goes on to a full one that
-- fails. So where no listed schedule fails, no run at all does, however far it went.
use Prim.Native.Nat.{ℕ}
use mathlib.Core.Path.{◌≡◌, refl, sym, subst, ◌∙◌}
use mathlib.Core.Logic.{◌↔◌}
use mathlib.Core.Bool.{Bool, true, false, true≢false}
use mathlib.Core.List.{[], ◌∷◌, ◌++◌, append-nil, append_assoc, Memᴰ}
use native.Mathlib.Omega.{arith}
use Rattle.spec_file.specs.Program.{Program}
use Rattle.spec_schedules.specs.Order.{Schedule}
use Rattle.spec_schedules.specs.System.{run, Allowed, FullFrom}
use Rattle.spec_schedules.proofs.Runs.{run_append, run_snoc, allowed_join, full_join, full_allowed}
use Rattle.spec_schedules.proofs.SomeRun.{some_full}
use Rattle.spec_model.specs.Model.{Model, end_of, Runs, Full, failing, moved_schedule}
use Rattle.spec_model.specs.Laws.{Admitted, Laws}
use Rattle.spec_model.specs.Alike.{Alike, list_of}
use Rattle.spec_model.proofs.Orders.{same_end}
use Rattle.spec_model.proofs.Exchanged.{exchanged, exchanged_graph}
use Rattle.spec_model.proofs.TheList.{list_exact, one_each}

module _ (M : Model) (L : Laws M) (p : Program) (a : Admitted M p) where
  -- the ends of alike full schedules are each other's exchange
  pub alike_ends : (r s : Schedule) → Full M p r → Full M p s → (l : Alike M p r s) → M.Moves l.0 (end_of M p r) (end_of M p s)
  alike_ends r s fr fs l =
      let π = l.0 in
      let e = exchanged M L p a π l.1 r fr in
      let g = (L.program p a).renamed_once π l.1 r s (moved_schedule M π r) l.2 (exchanged_graph M L p a π l.1 r fr) in
      subst (M.Moves π (end_of M p r)) (sym (same_end M L p a s (moved_schedule M π r) fs e.0 g)) e.1

  -- ALIKE ONES FAIL ALIKE and leave the same memory
  pub same_outcome_lem : (r s : Schedule) → Full M p r → Full M p s → Alike M p r s →
      (failing M p r ≡ failing M p s) × (M.memory_of (end_of M p r) ≡ M.memory_of (end_of M p s))
  same_outcome_lem r s fr fs l =
      let x = L.exchange l.0 l.1.0 (end_of M p r) (end_of M p s) (alike_ends r s fr fs l) in
      (sym x.fails, sym x.memory)

  -- a run that failed stays so
  failed_on : (z s : Schedule) → Runs M p s → failing M p s ≡ true → Allowed M.system (end_of M p s) z → failing M p (s ++ z) ≡ true
  failed_on [] s r e f = subst (λ (k : Schedule). failing M p k ≡ true) (sym (append-nil s)) e
  failed_on (b ∷ z) s r e f =
      let there : end_of M p (s ++ (b ∷ [])) ≡ M.system.step (end_of M p s) b = run_snoc M.system (M.start p) s b in
      subst (λ (k : Schedule). failing M p k ≡ true) (append_assoc s (b ∷ []) z)
      (failed_on z (s ++ (b ∷ [])) (allowed_join M.system (M.start p) s (b ∷ []) r (f.0, tt))
      (subst (λ (τ : M.system.State). M.fails τ ≡ true) (sym there) ((L.program p a).stays_failed s b r f.0 e))
      (subst (λ (τ : M.system.State). Allowed M.system τ z) (sym there) f.1))

  -- every run goes on to a full schedule
  pub goes_on : (s : Schedule) → Runs M p s → (z : Schedule) × Full M p (s ++ z)
  goes_on s r =
      let z = some_full M.system L.steps.lawful (M.system.size (end_of M p s)) (end_of M p s) (omega arith) in
      (z.0, full_join M.system (M.start p) s z.0 r z.1)

  pub failing_on : (s : Schedule) → Runs M p s → failing M p s ≡ true → (z : Schedule) × Full M p (s ++ z) × (failing M p (s ++ z) ≡ true)
  failing_on s r e =
      let z = some_full M.system L.steps.lawful (M.system.size (end_of M p s)) (end_of M p s) (omega arith) in
      (z.0, full_join M.system (M.start p) s z.0 r z.1, failed_on z.0 s r e (full_allowed M.system (end_of M p s) z.0 z.1).0)

  -- WHERE NO LISTED ONE FAILS, NO RUN AT ALL DOES
  pub none_fails_at_all : ((r : Schedule) → Memᴰ r (list_of M p) → failing M p r ≡ false) ↔ ((s : Schedule) → Runs M p s → failing M p s ≡ false)
  none_fails_at_all = (
    (λ h s r. go h s r (failing M p s) refl),
    λ h r m. h r (full_allowed M.system (M.start p) r ((list_exact M L p r).0 m).0).0,
  )
    where
      full : ((r : Schedule) → Memᴰ r (list_of M p) → failing M p r ≡ false) → (s : Schedule) → Full M p s → failing M p s ≡ false
      full h s f = let c = one_each M L p a s f in sym (same_outcome_lem c.0 s ((list_exact M L p c.0).0 c.1).0 f c.2).0 ∙ h c.0 c.1

      go : ((r : Schedule) → Memᴰ r (list_of M p) → failing M p r ≡ false) → (s : Schedule) → Runs M p s → (b : Bool) → failing M p s ≡ b → failing M p s ≡ false
      go h s r true e = let k = failing_on s r e in absurd (true≢false (sym k.2 ∙ full h (s ++ k.0) k.1))
      go h s r false e = e
