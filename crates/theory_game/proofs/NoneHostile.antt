-- WHERE NO THREAD IS HOSTILE the counts are the answer: the hostile side can force exactly where as many fail as are listed.
use Prim.Native.Nat.{ℕ, ◌^◌, ◌%◌, ◌<◌}
use native.Mathlib.Omega.{arith}
use native.Mathlib.Nat.{mod-eq_of_lt}
use mathlib.Core.Path.{◌≡◌, refl, sym, ap, ◌∙◌}
use mathlib.Core.Logic.{⊎_elim}
use mathlib.Core.Bool.{Bool, true, false, true≢false}
use mathlib.Core.Option.{none}
use mathlib.Core.List.{List, [], ◌∷◌, Memᴰ}
use lib.Dec.{eqb}
use lib.ListN.{length}
use borrow.Author.Tests.{eqb-true, eqb-false}
use Rattle.spec_file.specs.Program.{Program}
use Rattle.spec_file.specs.WellFormed.{WellFormed}
use Rattle.spec_schedules.specs.Lists.{filter}
use Rattle.spec_schedules.specs.Order.{Schedule}
use Rattle.spec_schedules.specs.Sets.{has}
use Rattle.spec_schedules.proofs.Kept.{filter_length}
use Rattle.spec_schedules.proofs.Lists.{filter_yes, filter_no}
use Rattle.spec_sc.specs.State.{start}
use Rattle.spec_sc.specs.Graph.{Full}
use Rattle.spec_sc.specs.Sequential.{sc}
use Rattle.spec_sc.proofs.Laws.{sc_laws}
use Rattle.spec_sc.proofs.Start.{start_threads}
use Rattle.spec_sc.proofs.Steps.{enabled_range}
use Rattle.spec_sc.proofs.TheList.{list_fits}
use Rattle.spec_model.specs.Alike.{list_of}
use Rattle.spec_model.specs.Answers.{count_of}
use Rattle.spec_model.specs.Model.{failing}
use Rattle.spec_model.proofs.Outcome.{same_outcome_lem}
use Rattle.spec_model.proofs.TheList.{list_exact, one_each}
use Rattle.spec_force.specs.Game.{hostile, friendly, other}
use Rattle.spec_force.specs.Forced.{owner_in, game_of, NoneIn, CanForce, HasStep, hostile_can, friendly_can, ForcedIn, hostile_passes, friendly_forces}
use Rattle.spec_force.proofs.Sides.{differ, mine_enabled, mine_owned, able_some}
use Rattle.spec_force.proofs.Answers.{one_can_force}
use Rattle.spec_force.proofs.Whole.{none_hostile}
use Rattle.theory_game.specs.OneSide.{by_counts}

-- ---- what a test keeps, counted
-- where as many are kept as there are, each passes
pub all_kept : {A : Type 0} (f : A → Bool) (l : List A) → length (filter f l) ≡ length l → (x : A) → Memᴰ x l → f x ≡ true
all_kept {A = A} f [] e x m = elim m [ ]
all_kept {A = A} f (y ∷ l) e x m = go (f y) refl m (λ q n. all_kept f l q x n)
  where
    go : (b : Bool) → f y ≡ b → Memᴰ x (y ∷ l) → (length (filter f l) ≡ length l → Memᴰ x l → f x ≡ true) → f x ≡ true
    go true q (Memᴰ.head i) ih = ap f i ∙ q
    go true q (Memᴰ.tail n) ih = let k = ap length (filter_yes f y l q) in ih (omega (arith, k, e)) n
    go false q n ih = let k = ap length (filter_no f y l q) in absurd (omega (arith, k, e, filter_length f l))

-- where fewer are kept, one does not pass
pub one_dropped : {A : Type 0} (f : A → Bool) (l : List A) → length (filter f l) < length l → (x : A) × Memᴰ x l × (f x ≡ false)
one_dropped f [] e = absurd (omega (arith, e))
one_dropped {A} f (y ∷ l) e = go (f y) refl (λ q. one_dropped f l q)
  where
    go : (b : Bool) → f y ≡ b → (length (filter f l) < length l → (x : A) × Memᴰ x l × (f x ≡ false)) → (x : A) × Memᴰ x (y ∷ l) × (f x ≡ false)
    go true q ih = let k = ap length (filter_yes f y l q) in let r = ih (omega (arith, k, e)) in (r.0, Memᴰ.tail r.1, r.2)
    go false q ih = (y, Memᴰ.head refl, q)

owner_friendly : (set t : ℕ) → has set t ≡ false → owner_in set t ≡ friendly
unfolding owner_in
owner_friendly set t e = rw (e, owner_in)

module _ (set : ℕ) (p : Program) (w : WellFormed p) (free : NoneIn set p) where
  no_step : HasStep set p → ⊥
  unfolding other
  no_step h =
      let r = able_some (game_of set) hostile (start p) h in
      let on = enabled_range (start p) r.0 (mine_enabled (game_of set) hostile (start p) r.0 r.1) in
      let small : r.0 < length p.threads = omega (arith, on, start_threads p) in
      differ hostile (sym (mine_owned (game_of set) hostile (start p) r.0 r.1) ∙ owner_friendly set r.0 (free r.0 small))

  -- each full schedule fails as a listed one does
  as_listed : (s : Schedule) → Full p s → (m : Schedule) × Memᴰ m (list_of sc p) × (failing sc p m ≡ failing sc p s)
  as_listed s full =
      let c = one_each sc sc_laws p (w, refl) s full in
      (c.0, c.1, (same_outcome_lem sc sc_laws p (w, refl) c.0 s ((list_exact sc sc_laws p c.0).0 c.1).0 full c.2).0)

  all_fail : length (filter (failing sc p) (list_of sc p)) ≡ length (list_of sc p) → CanForce hostile set p
  all_fail e = (none_hostile set p free).1 (λ s full. let m = as_listed s full in sym m.2 ∙ all_kept (failing sc p) (list_of sc p) e m.0 m.1)

  one_holds : length (filter (failing sc p) (list_of sc p)) < length (list_of sc p) → CanForce friendly set p
  one_holds e =
      let m = one_dropped (failing sc p) (list_of sc p) e in
      ⊎_elim (λ (f : CanForce hostile set p). absurd (true≢false (sym ((none_hostile set p free).0 f m.0 ((list_exact sc sc_laws p m.0).0 m.1).0) ∙ m.2)))
      (λ (f : CanForce friendly set p). f) (one_can_force set p).one

  -- THE ANSWER: by whether as many fail as are listed
  pub answer_counted : ForcedIn set p (by_counts (count_of sc p))
  unfolding by_counts count_of
  answer_counted = go (eqb (listed % 2 ^ 64) (failed % 2 ^ 64)) refl
    where
      listed : ℕ
      listed = length (list_of sc p)

      failed : ℕ
      failed = length (filter (failing sc p) (list_of sc p))

      all : listed % 2 ^ 64 ≡ listed
      all = mod-eq_of_lt (omega (arith, list_fits p w))

      part : failed % 2 ^ 64 ≡ failed
      part = mod-eq_of_lt (omega (arith, list_fits p w, filter_length (failing sc p) (list_of sc p)))

      go : (b : Bool) → eqb (listed % 2 ^ 64) (failed % 2 ^ 64) ≡ b → ForcedIn set p (elim b [ true ↦ hostile_can none | false ↦ friendly_can ])
      go true e = hostile_passes (all_fail (sym part ∙ sym (eqb-true _ _ e) ∙ all)) no_step
      go false e = friendly_forces (one_holds (omega (arith, eqb-false (listed % 2 ^ 64) (failed % 2 ^ 64) e, all, part, filter_length (failing sc p) (list_of sc p))))
