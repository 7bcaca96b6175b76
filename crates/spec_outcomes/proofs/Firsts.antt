-- THE FIRSTS: each outcome of a full schedule has exactly one, the least of all full schedules with it; and the one behind k of them is the
-- first listed schedule whose outcome none of these has.
use Prim.Native.Nat.{ℕ}
use mathlib.Core.Path.{◌≡◌, refl, sym, ap, ap₂, subst, ◌∙◌}
use mathlib.Core.Logic.{◌⊎◌, inl, inr, ⊎_elim}
use mathlib.Core.Bool.{Bool, true, false, not, true≢false}
use mathlib.Core.Option.{Option, none, some}
use mathlib.Core.List.{List, Memᴰ}
use lib.ListN.{length, take}
use lib.Seq.{take_all}
use borrow.Author.Tests.{not-true, not-false}
use Rattle.spec_file.specs.Lists.{Ascends}
use Rattle.spec_file.specs.Program.{Program}
use Rattle.spec_file.proofs.Tests.{equal_tests}
use Rattle.spec_schedules.specs.Lists.{both, any, find}
use Rattle.spec_schedules.specs.Order.{Schedule, less}
use Rattle.spec_schedules.specs.Calls.{member}
use Rattle.spec_schedules.proofs.First.{find_none}
use Rattle.spec_schedules.proofs.FirstIn.{find_in, in_find, none_find}
use Rattle.spec_schedules.proofs.Lists.{both_left, both_right, any_yes, any_of, any_no, in_filter, of_filter, ascends_filter}
use Rattle.spec_schedules.proofs.Order.{less_irreflexive, less_asymmetric, less_transitive, not_less_at_most}
use Rattle.spec_model.specs.Model.{Model, Full}
use Rattle.spec_model.specs.Laws.{Laws, Admitted}
use Rattle.spec_model.specs.Alike.{list_of}
use Rattle.spec_model.proofs.TheList.{list_ascends, list_exact, listed_below}
use Rattle.spec_members.proofs.Numbered.{member_in, member_ends}
use Rattle.spec_covers.specs.declared.outcome.Outcome.{Outcome}
use Rattle.spec_across.specs.Under.{outcome_under, AttainsUnder}
use Rattle.spec_across.proofs.Attained.{comes_to, comes_is, listed_outcome}
use Rattle.spec_outcomes.specs.Firsts.{is_first, firsts_of}
use Rattle.spec_outcomes.proofs.Same.{is_comes}
use Rattle.spec_outcomes.proofs.Taken.{take_in, take_below, below_take}

module _ (M : Model) (p : Program) where
  abbrev out : Schedule → Outcome
  out s = outcome_under M p s

  abbrev l : List Schedule
  l = list_of M p

  abbrev earlier : Schedule → Schedule → Bool
  earlier s r = both (less r s) (comes_to M p (out s) r)

  -- no smaller listed schedule has the outcome of a first
  pub first_none : (s : Schedule) → is_first M p s ≡ true → (r : Schedule) → Memᴰ r l → less r s ≡ true → out r ≡ out s → ⊥
  unfolding is_first both
  first_none s e r m h q =
      let n = any_no (earlier s) l r (not-true _ e) m in
      true≢false (sym (ap₂ both h (is_comes M p (out s) r q)) ∙ n)

  pub none_first : (s : Schedule) → ((r : Schedule) → Memᴰ r l → less r s ≡ true → out r ≡ out s → ⊥) → is_first M p s ≡ true
  unfolding is_first
  none_first s h = go (any (earlier s) l) refl
    where
      go : (b : Bool) → any (earlier s) l ≡ b → not b ≡ true
      go true e =
          let r = any_yes (earlier s) l e in
          absurd (h r.0 r.1 (both_left _ _ r.2) (comes_is M p (out s) r.0 (both_right _ _ r.2)))
      go false e = refl

  pub first_in : (s : Schedule) → Memᴰ s (firsts_of M p) → Memᴰ s l × (is_first M p s ≡ true)
  unfolding firsts_of
  first_in s m = of_filter (is_first M p) l s m

  pub in_first : (s : Schedule) → Memᴰ s l → is_first M p s ≡ true → Memᴰ s (firsts_of M p)
  unfolding firsts_of
  in_first s m e = in_filter (is_first M p) l s m e

module _ (M : Model) (L : Laws M) (p : Program) where
  abbrev o : Schedule → Outcome
  o s = outcome_under M p s

  abbrev F : List Schedule
  F = firsts_of M p

  pub firsts_ascend : Ascends less F
  unfolding firsts_of
  firsts_ascend = ascends_filter less (is_first M p) (list_of M p) (list_ascends M L p)

  -- EACH LISTED SCHEDULE HAS A FIRST with its outcome, not greater than it
  pub first_of : (s : Schedule) → Memᴰ s (list_of M p) → (t : Schedule) × Memᴰ t F × (o t ≡ o s) × (less s t ≡ false)
  first_of s m = go (find (comes_to M p (o s)) (list_of M p)) refl
    where
      own : comes_to M p (o s) s ≡ true
      own = is_comes M p (o s) s refl

      go : (x : Option Schedule) → find (comes_to M p (o s)) (list_of M p) ≡ x → (t : Schedule) × Memᴰ t F × (o t ≡ o s) × (less s t ≡ false)
      go none e = absurd (true≢false (sym own ∙ none_find (comes_to M p (o s)) (list_of M p) e s m))
      go (some t) e =
          let k = find_in (comes_to M p (o s)) (list_of M p) (list_ascends M L p) t e in
          let q = comes_is M p (o s) t k.1 in
          let first = none_first M p t (λ r n h i. true≢false (sym (is_comes M p (o s) r (i ∙ q)) ∙ k.2 r n h)) in
          (t, in_first M p t k.0 first, q, below (less s t) refl (λ h. true≢false (sym own ∙ k.2 s m h)))
        where
          below : (b : Bool) → less s t ≡ b → (less s t ≡ true → ⊥) → less s t ≡ false
          below true i h = absurd (h i)
          below false i h = i

  -- TWO FIRSTS with one outcome are one
  pub firsts_once : (r s : Schedule) → Memᴰ r F → Memᴰ s F → o r ≡ o s → r ≡ s
  firsts_once r s m n e = go (less s r) refl
    where
      go : (b : Bool) → less s r ≡ b → r ≡ s
      go true i = absurd (first_none M p r (first_in M p r m).1 s (first_in M p s n).0 i (sym e))
      go false i = ⊎_elim (λ (q : r ≡ s). q) (λ (q : less r s ≡ true). absurd (first_none M p s (first_in M p s n).1 r (first_in M p r m).0 q e)) (not_less_at_most r s i)

  -- a listed schedule with the outcome of one of them passes exactly where one of the list does
  pub any_first : (x : Outcome) → any (comes_to M p x) F ≡ any (comes_to M p x) (list_of M p)
  any_first x = equal_tests (any (comes_to M p x) F) (any (comes_to M p x) (list_of M p))
      (λ e. let r = any_yes (comes_to M p x) F e in any_of (comes_to M p x) (list_of M p) r.0 (first_in M p r.0 r.1).0 r.2)
      (λ e.
      let r = any_yes (comes_to M p x) (list_of M p) e in
      let t = first_of r.0 r.1 in
      any_of (comes_to M p x) F t.0 t.1 (is_comes M p x t.0 (t.2 ∙ comes_is M p x r.0 r.2)))

  -- whether the outcome of s is none of the first k
  abbrev pub new_to : ℕ → Schedule → Bool
  new_to k s = not (any (comes_to M p (o s)) (take k F))

  -- THE ONE BEHIND k OF THEM is the first listed schedule whose outcome none of these has
  pub next_first : (k : ℕ) → find (new_to k) (list_of M p) ≡ member F k
  next_first k = go (member F k) refl
    where
      known : (r t : Schedule) → Memᴰ t (take k F) → o t ≡ o r → new_to k r ≡ false
      known r t m e = ap not (any_of (comes_to M p (o r)) (take k F) t m (is_comes M p (o r) t e))

      go : (x : Option Schedule) → member F k ≡ x → find (new_to k) (list_of M p) ≡ x
      go none e = find_none (new_to k) (list_of M p) (λ r m.
          let t = first_of r m in
          let all : take k F ≡ F = take_all k F ((member_ends F k).0 e) in
          known r t.0 (subst (Memᴰ t.0) (sym all) t.1) t.2)
      go (some s) e = in_find (new_to k) (list_of M p) (list_ascends M L p) s ((first_in M p s here).0, passes (any (comes_to M p (o s)) (take k F)) refl, smaller)
        where
          here : Memᴰ s F
          here = member_in F k s e

          passes : (b : Bool) → any (comes_to M p (o s)) (take k F) ≡ b → not b ≡ true
          passes true i =
              let r = any_yes (comes_to M p (o s)) (take k F) i in
              absurd (first_none M p s (first_in M p s here).1 r.0 (first_in M p r.0 (take_in F k r.0 r.1)).0
              (take_below F firsts_ascend k s r.0 e r.1) (comes_is M p (o s) r.0 r.2))
          passes false i = refl

          smaller : (r : Schedule) → Memᴰ r (list_of M p) → less r s ≡ true → new_to k r ≡ false
          smaller r m h =
              let t = first_of r m in
              known r t.0 (below_take F firsts_ascend k s t.0 e t.1
              (⊎_elim (λ (i : t.0 ≡ r). subst (λ (z : Schedule). less z s ≡ true) (sym i) h) (λ (i : less t.0 r ≡ true). less_transitive t.0 r s i h) (not_less_at_most t.0 r t.3))) t.2

  module _ (a : Admitted M p) where
    -- A FIRST IS THE LEAST OF ALL full schedules with its outcome
    pub first_least : (s : Schedule) → Memᴰ s F → (r : Schedule) → Full M p r → o r ≡ o s → less r s ≡ false
    first_least s m r f e = go (less r s) refl
      where
        go : (b : Bool) → less r s ≡ b → less r s ≡ false
        go true h =
            let c = listed_outcome M L p a r f in
            absurd (first_none M p s (first_in M p s m).1 c.0 c.1
            (listed_below M L p a c.0 r s ((list_exact M L p c.0).0 c.1) f c.2 h) (c.3 ∙ e))
        go false h = h

    -- EACH OUTCOME of a full schedule has exactly one first
    pub attained_once : (x : Outcome) → AttainsUnder M p x → (s : Schedule) × Memᴰ s F × (o s ≡ x) × ((r : Schedule) → Memᴰ r F → o r ≡ x → r ≡ s)
    attained_once x t =
        let c = listed_outcome M L p a t.0 t.1 in
        let f = first_of c.0 c.1 in
        let e = f.2 ∙ c.3 ∙ t.2 in
        (f.0, f.1, e, λ r m q. firsts_once r f.0 m f.1 (q ∙ sym e))
