-- ROWS OF THE FIRST SO MANY OUTCOMES, in any memory model: what is new to them first is the next one, and with its row they are one more.
use Prim.Native.Nat.{ℕ, ◌+◌, ◌*◌, ◌≤◌}
use mathlib.Core.Path.{◌≡◌, refl, sym, ap, subst, ◌∙◌}
use mathlib.Core.Logic.{⊎_elim}
use mathlib.Core.Bool.{Bool, true, false, not}
use mathlib.Core.Option.{Option, some}
use mathlib.Core.List.Memᴰ
use mathlib.Core.List.{List, [], ◌∷◌, ◌++◌, Memᴰ}
use lib.ListN.{length, take}
use lib.Seq.{paste, take_all}
use Rattle.spec_file.specs.Program.{Program}
use Rattle.spec_file.proofs.Tests.{equal_tests}
use Rattle.spec_schedules.specs.Lists.{any, find}
use Rattle.spec_schedules.specs.Order.{Schedule}
use Rattle.spec_schedules.specs.Calls.{member}
use Rattle.spec_schedules.proofs.Lists.{any_yes, any_of, find_yes, find_no}
use Rattle.spec_schedules.proofs.Loops.{any_nil}
use Rattle.spec_model.specs.Model.{Model, Full}
use Rattle.spec_model.specs.Laws.{Laws}
use Rattle.spec_model.specs.Alike.{list_of}
use Rattle.spec_model.proofs.TheList.{list_exact}
use Rattle.spec_members.proofs.Numbered.{member_in}
use Rattle.spec_covers.specs.declared.outcome.Outcome.{Outcome}
use Rattle.spec_across.specs.Under.{outcome_under}
use Rattle.spec_across.proofs.Attained.{comes_to, comes_is}
use Rattle.spec_outcomes.specs.Firsts.{firsts_of}
use Rattle.spec_outcomes.proofs.Same.{is_comes}
use Rattle.spec_outcomes.proofs.Taken.{take_more}
use Rattle.spec_outcomes.proofs.Firsts.{first_in, any_first, next_first}
use Rattle.states_outcomes.specs.Rows.{row_of, known_row, is_new}
use Rattle.states_outcomes.proofs.RowLists.{known_none, row_known, row_stays, row_new}
use Rattle.outcome_states.specs.Gathered.{Known, Exactly}

-- the first that passes goes by the tests of members
find_agree : {A : Type 0} (f g : A → Bool) (l : List A) → ((x : A) → Memᴰ x l → f x ≡ g x) → find f l ≡ find g l
unfolding find
find_agree f g [] h = refl
find_agree f g (x ∷ l) h = go (g x) refl (find_agree f g l (λ y m. h y (Memᴰ.tail m)))
  where
    go : (b : Bool) → g x ≡ b → find f l ≡ find g l → find f (x ∷ l) ≡ find g (x ∷ l)
    go true e ih = find_yes f x l (h x (Memᴰ.head refl) ∙ e) ∙ sym (find_yes g x l e)
    go false e ih = find_no f x l (h x (Memᴰ.head refl) ∙ e) ∙ ih ∙ sym (find_no g x l e)

pub known_start : (M : Model) (p : Program) (rows : List ℕ) → Known M p rows 0
known_start M p rows x e = sym (known_none rows (row_of x)) ∙ sym (any_nil (comes_to M p x))

module _ (M : Model) (L : Laws M) (p : Program) (eight : (s : Schedule) → Full M p s → length (outcome_under M p s).memory ≡ 8) where
  abbrev F : List Schedule
  F = firsts_of M p

  abbrev o : Schedule → Outcome
  o s = outcome_under M p s

  -- THE NEXT ONE is a full schedule
  pub next_full : (k : ℕ) (s : Schedule) → member F k ≡ some s → Full M p s
  next_full k s e = ((list_exact M L p s).0 (first_in M p s (member_in F k s e)).0).0

  module _ (rows : List ℕ) (k : ℕ) (known : Known M p rows k) where
    -- what is new first is the next one
    pub new_next : (x : Option Schedule) → x ≡ find (λ s. is_new rows k (o s)) (list_of M p) → x ≡ member F k
    new_next x e =
        e ∙ find_agree (λ s. is_new rows k (o s)) _ (list_of M p) (λ s m. ap not (known (o s) (eight s ((list_exact M L p s).0 m).0))) ∙ next_first M L p k

    -- where none is, the rows are all
    pub all_known : length F ≤ k → Exactly M p rows k
    all_known h x e = known x e ∙ ap (any (comes_to M p x)) (take_all k F h) ∙ any_first M L p x

    -- ONE MORE
    module _ (s : Schedule) (next : member F k ≡ some s) (rows' : List ℕ) (room : 9 * k + 9 ≤ length rows) (is : rows' ≡ paste rows (9 * k) (row_of (o s)) 9) where
      more : take (k + 1) F ≡ take k F ++ (s ∷ [])
      more = take_more F k s next

      long : length (o s).memory ≡ 8
      long = eight s (next_full k s next)

      pub known_more : Known M p rows' (k + 1)
      known_more x e = equal_tests (known_row rows' (k + 1) (row_of x)) (any (comes_to M p x) (take (k + 1) F)) there back
        where
          last : Memᴰ s (take (k + 1) F)
          last = subst (Memᴰ s) (sym more) (Memᴰ.append_right (take k F) (Memᴰ.head refl))

          there : known_row rows' (k + 1) (row_of x) ≡ true → any (comes_to M p x) (take (k + 1) F) ≡ true
          there q = ⊎_elim
              (λ (a : known_row rows k (row_of x) ≡ true).
              let r = any_yes (comes_to M p x) (take k F) (sym (known x e) ∙ a) in
              any_of (comes_to M p x) (take (k + 1) F) r.0 (subst (Memᴰ r.0) (sym more) (Memᴰ.append_left (s ∷ []) r.1)) r.2)
              (λ (i : x ≡ o s). any_of (comes_to M p x) (take (k + 1) F) s last (is_comes M p x s (sym i)))
              (row_new rows k (o s) long room rows' is x e q)

          back : any (comes_to M p x) (take (k + 1) F) ≡ true → known_row rows' (k + 1) (row_of x) ≡ true
          back q =
              let r = any_yes (comes_to M p x) (take (k + 1) F) q in
              ⊎_elim
              (λ (m : Memᴰ r.0 (take k F)). row_stays rows k (o s) long room rows' is x e (known x e ∙ any_of (comes_to M p x) (take k F) r.0 m r.2))
              (λ (m : Memᴰ r.0 (s ∷ [])).
              subst (λ (y : Outcome). known_row rows' (k + 1) (row_of y) ≡ true) (ap (λ (z : Schedule). o z) (sym (only r.0 m)) ∙ comes_is M p x r.0 r.2)
              (row_known rows k (o s) long room rows' is))
              (Memᴰ.append_cases (take k F) (subst (Memᴰ r.0) more r.1))
            where
              only : (z : Schedule) → Memᴰ z (s ∷ []) → z ≡ s
              only z m = ⊎_elim (λ (i : z ≡ s). i) (λ (n : Memᴰ z []). absurd (Memᴰ.not-nil n)) (Memᴰ.cases_cons m)
