-- What stands above a bound in a list: its first member is what is offered, and behind a member of an ascending list it is what stands behind it.
use mathlib.Core.Path.{◌≡◌, refl, sym, ap, subst, ◌∙◌}
use mathlib.Core.Bool.{Bool, true, false}
use mathlib.Core.Option.{Option, none, some}
use mathlib.Core.List.Memᴰ
use mathlib.Core.List.{List, [], ◌∷◌, ◌++◌, Memᴰ}
use Prim.Native.Nat.{ℕ, ◌≤◌}
use lib.ListN.{length, take}
use Rattle.spec_schedules.specs.Lists.{both, head_of}
use Rattle.spec_file.specs.Lists.{Ascends}
use Rattle.spec_schedules.specs.Order.{Schedule, less}
use Rattle.spec_schedules.specs.Calls.{offer}
use Rattle.spec_schedules.specs.Found.{after}
use Rattle.spec_schedules.proofs.Order.{less_cut, less_irreflexive, less_asymmetric, less_transitive}
use Rattle.spec_schedules.proofs.Lists.{filter_no, of_filter, ascends_filter}
use Rattle.spec_schedules.proofs.Kept.{filter_agree, filter_same, filter_filter, filter_whole}
use Rattle.spec_schedules.proofs.First.{head_filter, next_find}

-- without a bound it is the whole list
pub after_none : (l : List Schedule) → after none l ≡ l
unfolding after
after_none l = refl

-- what is after a schedule in a list is of the list
pub of_after : (o : Option Schedule) (l : List Schedule) (s : Schedule) → Memᴰ s (after o l) → Memᴰ s l
unfolding after
of_after none l s m = m
of_after (some b) l s m = (of_filter (less b) l s m).0

-- an empty list has no first member
pub head_nil : {A : Type 0} → head_of {A = A} [] ≡ none
unfolding head_of
head_nil = refl

-- the first of what is after a schedule is what a call offers
pub offer_after : (o : Option Schedule) (l : List Schedule) → head_of (after o l) ≡ offer l o
unfolding after offer
offer_after none l = refl
offer_after (some b) l = head_filter (less b) l ∙ sym (next_find b l)

-- what is after a schedule ascends where the list does
pub after_ascends : (o : Option Schedule) (l : List Schedule) → Ascends less l → Ascends less (after o l)
unfolding after
after_ascends none l a = a
after_ascends (some b) l a = ascends_filter less (less b) l a

-- of a bound no more bytes tell than the longest member has
pub after_cut : (n : ℕ) (b : Schedule) (l : List Schedule) → ((x : Schedule) → Memᴰ x l → length x ≤ n) → after (some (take n b)) l ≡ after (some b) l
unfolding after
after_cut n b l h = filter_agree (less (take n b)) (less b) l (λ x m. less_cut n b x (h x m))

-- behind a member
pub after_behind : (xs : List Schedule) (s : Schedule) (ys : List Schedule) → Ascends less (xs ++ (s ∷ ys)) → after (some s) (xs ++ (s ∷ ys)) ≡ ys
unfolding after
after_behind [] s ys a = filter_no (less s) s ys (less_irreflexive s) ∙ filter_whole (less s) ys a.0
after_behind (x ∷ xs) s ys a = filter_no (less s) x (xs ++ (s ∷ ys)) (less_asymmetric x s (a.0 s (Memᴰ.append_right xs (Memᴰ.head refl)))) ∙ after_behind xs s ys a.1

-- above a member of what is above a bound
above_two : (o : Option Schedule) (l : List Schedule) (s : Schedule) → Memᴰ s (after o l) → after (some s) (after o l) ≡ after (some s) l
unfolding after both
above_two none l s m = refl
above_two (some b) l s m = filter_filter (less b) (less s) l ∙ filter_same (λ x. both (less s x) (less b x)) (less s) l (λ x. go x (less s x) refl)
  where
    b_s : less b s ≡ true
    b_s = (of_filter (less b) l s m).1

    go : (x : Schedule) (c : Bool) → less s x ≡ c → both (less s x) (less b x) ≡ less s x
    go x true e = ap (λ (c : Bool). both c (less b x)) e ∙ less_transitive b s x b_s e ∙ sym e
    go x false e = ap (λ (c : Bool). both c (less b x)) e ∙ sym e

-- behind a member of what is above a bound
pub after_on : (o : Option Schedule) (l xs : List Schedule) (s : Schedule) (ys : List Schedule) → Ascends less l → after o l ≡ xs ++ (s ∷ ys) → after (some s) l ≡ ys
after_on o l xs s ys a e =
    sym (above_two o l s (subst (Memᴰ s) (sym e) (Memᴰ.append_right xs (Memᴰ.head refl))))
    ∙ ap (after (some s)) e ∙ after_behind xs s ys (subst (Ascends less) e (after_ascends o l a))
