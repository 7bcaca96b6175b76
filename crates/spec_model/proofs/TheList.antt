-- The list has exactly the listed schedules, ascends and is finite; each full schedule is alike to exactly one of it.
use Prim.Native.Nat.{ℕ, ◌^◌, ◌<◌, ◌≤◌}
use mathlib.Core.Path.{◌≡◌, refl, sym, ap, subst, ◌∙◌}
use mathlib.Core.Logic.{◌↔◌, ⊎_elim}
use mathlib.Core.Bool.{Bool, true, false, true≢false}
use mathlib.Core.List.{Memᴰ}
use native.Mathlib.Omega.{arith}
use lib.ListN.{length}
use Rattle.spec_file.specs.Program.{Program}
use Rattle.spec_file.specs.Lists.{Ascends}
use Rattle.spec_schedules.specs.Order.{Schedule, less}
use Rattle.spec_schedules.proofs.ListedTerms as Schedules
use Rattle.spec_schedules.specs.Listed as Schedules-2
use Rattle.spec_schedules.proofs.Listed.{listed_exact, listed_ascend, listed_length, some_listed, one_listed}
use Rattle.spec_schedules.proofs.Order.{less_transitive, not_less_at_most}
use Rattle.spec_schedules.proofs.Runs.{full_length}
use Rattle.spec_schedules.proofs.SomeRun.{some_full}
use Rattle.spec_model.specs.Model.{Model, Full}
use Rattle.spec_model.specs.Laws.{Admitted, Laws}
use Rattle.spec_model.specs.Alike.{Alike, Smaller, Listed, list_of}
use Rattle.spec_model.proofs.AlikeTerms.{alike}
use Rattle.spec_model.proofs.Alike.{alike_refl, alike_sym, alike_trans, alike_exact}

module _ (M : Model) (L : Laws M) (p : Program) where
  -- the list is that of the step system, with alike tested
  pub list_is : list_of M p ≡ Schedules-2.list_of M.system (M.start p) (alike M p)
  unfolding list_of alike
  list_is = refl

  -- THE LIST ASCENDS
  pub list_ascends : Ascends less (list_of M p)
  list_ascends = rw list_is (listed_ascend M.system L.steps.lawful L.steps.ascend (M.start p) (alike M p))

  -- being alike, and its test
  pub tested : (s : Schedule) → Schedules.Smaller M.system (M.start p) (alike M p) s → Smaller M p s
  tested s b = (b.0, b.1, b.2, (alike_exact M L p b.0 s).0 b.3)

  pub test_of : (s : Schedule) → Smaller M p s → Schedules.Smaller M.system (M.start p) (alike M p) s
  test_of s b = (b.0, b.1, b.2, (alike_exact M L p b.0 s).1 b.3)

  -- THE LIST HAS EXACTLY THE LISTED SCHEDULES
  pub list_exact : (s : Schedule) → Memᴰ s (list_of M p) ↔ Listed M p s
  list_exact s = (
    (λ m. let r = exact.0 (subst (Memᴰ s) list_is m) in (r.0, λ b. true≢false (sym ((alike_exact M L p b.0 s).1 b.3) ∙ r.1 b.0 b.1 b.2))),
    λ l. subst (Memᴰ s) (sym list_is) (exact.1 (l.0, λ r f e. apart l.1 r f e (alike M p r s) refl)),
  )
    where
      exact : Memᴰ s (Schedules-2.list_of M.system (M.start p) (alike M p)) ↔ Schedules.Listed M.system (M.start p) (alike M p) s
      exact = listed_exact M.system L.steps.lawful L.steps.ascend (M.start p) (alike M p) s

      apart : (Smaller M p s → ⊥) → (r : Schedule) → Full M p r → less r s ≡ true → (b : Bool) → alike M p r s ≡ b → alike M p r s ≡ false
      apart h r f e true q = absurd (h (tested s (r, f, e, q)))
      apart h r f e false q = q

  module _ (a : Admitted M p) where
    -- THE LIST IS FINITE
    pub list_length : length (list_of M p) ≤ length M.system.names ^ M.steps
    list_length =
        rw list_is
        (listed_length M.system L.steps.lawful L.steps.ascend (M.start p) (alike M p) (length M.system.names) M.steps (omega arith) L.steps.named (L.program p a).bound)

    -- the members of the list fit an output
    pub list_room : (s : Schedule) → Memᴰ s (list_of M p) → length s ≤ M.need
    list_room s m = omega (arith, full_length M.system L.steps.lawful (M.start p) s ((list_exact s).0 m).0, (L.program p a).bound, (L.program p a).room)

    refl_test : (s : Schedule) → Full M p s → alike M p s s ≡ true
    refl_test s f = (alike_exact M L p s s).1 (alike_refl M L p a s)

    sym_test : (r s : Schedule) → Full M p r → Full M p s → alike M p r s ≡ true → alike M p s r ≡ true
    sym_test r s f g e = (alike_exact M L p s r).1 (alike_sym M L p a r s ((alike_exact M L p r s).0 e))

    trans_test : (q r s : Schedule) → Full M p q → Full M p r → Full M p s → alike M p q r ≡ true → alike M p r s ≡ true → alike M p q s ≡ true
    trans_test q r s f g h d e = (alike_exact M L p q s).1 (alike_trans M L p a q r s ((alike_exact M L p q r).0 d) ((alike_exact M L p r s).0 e))

    -- EACH FULL SCHEDULE IS ALIKE TO EXACTLY ONE LISTED ONE
    pub one_each : (s : Schedule) → Full M p s →
        (r : Schedule) × Memᴰ r (list_of M p) × Alike M p r s × ((q : Schedule) → Memᴰ q (list_of M p) → Alike M p q s → q ≡ r)
    one_each s f =
        let c = some_listed M.system L.steps.lawful L.steps.ascend (M.start p) (alike M p) refl_test trans_test s f in (
          c.0,
          subst (Memᴰ c.0) (sym list_is) c.1,
          (alike_exact M L p c.0 s).0 c.2,
          λ q m l. one_listed M.system L.steps.lawful L.steps.ascend (M.start p) (alike M p) refl_test trans_test sym_test s q c.0 f
              (subst (Memᴰ q) list_is m) c.1 ((alike_exact M L p q s).1 l) c.2,
        )

    -- a listed schedule is not greater than a full one that is alike to it
    pub listed_below : (m r s : Schedule) → Listed M p m → Full M p r → Alike M p m r → less r s ≡ true → less m s ≡ true
    listed_below m r s l full k h = go (less r m) refl
      where
        go : (b : Bool) → less r m ≡ b → less m s ≡ true
        go true e = absurd (l.1 (r, full, e, alike_sym M L p a m r k))
        go false e = ⊎_elim (λ (i : m ≡ r). ap (λ (x : Schedule). less x s) i ∙ h) (λ (i : less m r ≡ true). less_transitive m r s i h) (not_less_at_most m r e)

    -- the list is never empty
    pub some_member : (s : Schedule) × Memᴰ s (list_of M p)
    some_member =
        let r = some_full M.system L.steps.lawful M.steps (M.start p) (L.program p a).bound in
        let c = one_each r.0 r.1 in
        (c.0, c.1)
