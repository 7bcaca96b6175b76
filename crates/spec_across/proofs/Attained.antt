-- Outcomes looked for in the list, in any memory model: whether some listed schedule has this outcome, and the first listed schedule whose
-- outcome no listed one of another program under another model has. Both say what they say of all full schedules.
use Prim.Native.Nat.{ℕ}
use mathlib.Core.Path.{◌≡◌, refl, sym, ap, ap₂, subst, ◌∙◌}
use mathlib.Core.Bool.{Bool, true, false, not, true≢false}
use mathlib.Core.Option.{Option, none, some}
use mathlib.Core.List.{List, Memᴰ}
use borrow.Author.Tests.{not-true, not-false}
use Rattle.spec_file.specs.Program.{Program}
use Rattle.spec_schedules.specs.Lists.{any, find}
use Rattle.spec_schedules.specs.Order.{Schedule}
use Rattle.spec_schedules.proofs.Lists.{any_yes, any_of}
use Rattle.spec_schedules.proofs.First.{find_none}
use Rattle.spec_schedules.proofs.FirstIn.{find_in, in_find, none_find}
use Rattle.spec_model.specs.Model.{Model, Full}
use Rattle.spec_model.specs.Laws.{Admitted, Laws}
use Rattle.spec_model.specs.Alike.{Alike, list_of}
use Rattle.spec_model.proofs.Outcome.{same_outcome_lem}
use Rattle.spec_model.proofs.TheList.{list_exact, list_ascends, one_each}
use Rattle.spec_covers.specs.declared.outcome.Outcome.{Outcome}
use Rattle.spec_across.specs.Under.{outcome_under, AttainsUnder, CoversUnder, FirstLackingUnder}
pub use Rattle.spec_across.specs.Same.{comes_to}
use Rattle.spec_across.proofs.SameOutcome.{same_outcome, same_is, is_same}

-- whether some listed schedule of p has it
unfoldable pub attained : (M : Model) → Program → Outcome → Bool
attained M p o = any (comes_to M p o) (list_of M p)

-- whether p under M lacks the outcome of q's schedule s under N
unfoldable pub lacks_under : (M : Model) → Program → (N : Model) → Program → Schedule → Bool
lacks_under M p N q s = not (attained M p (outcome_under N q s))

-- the first listed one
abbrev pub first_lacking : (M : Model) → Program → (N : Model) → Program → Option Schedule
first_lacking M p N q = find (lacks_under M p N q) (list_of N q)

abbrev outcome : List ℕ → Bool → Outcome
outcome m f = record { memory = m; fails = f }

pub comes_is : (M : Model) (p : Program) (o : Outcome) (s : Schedule) → comes_to M p o s ≡ true → outcome_under M p s ≡ o
unfolding comes_to
comes_is M p o s e = same_is (outcome_under M p s) o e

pub comes_by : (M : Model) (p : Program) (o : Outcome) (s : Schedule) → same_outcome (outcome_under M p s) o ≡ comes_to M p o s
unfolding comes_to
comes_by M p o s = refl

module _ (M : Model) (L : Laws M) (p : Program) where
  -- what is attained is the outcome of some full schedule
  pub attained_yes : (o : Outcome) → attained M p o ≡ true → AttainsUnder M p o
  unfolding attained comes_to
  attained_yes o e =
      let r = any_yes (comes_to M p o) (list_of M p) e in
      (r.0, ((list_exact M L p r.0).0 r.1).0, same_is (outcome_under M p r.0) o r.2)

  module _ (a : Admitted M p) where
    -- EACH FULL SCHEDULE HAS A LISTED ONE WITH ITS OUTCOME, since alike ones have one outcome
    pub listed_outcome : (s : Schedule) → Full M p s → (r : Schedule) × Memᴰ r (list_of M p) × Alike M p r s × (outcome_under M p r ≡ outcome_under M p s)
    unfolding outcome_under
    listed_outcome s f =
        let c = one_each M L p a s f in
        let e = same_outcome_lem M L p a c.0 s ((list_exact M L p c.0).0 c.1).0 f c.2 in
        (c.0, c.1, c.2, ap₂ outcome e.1 e.0)

    pub attained_of : (o : Outcome) → AttainsUnder M p o → attained M p o ≡ true
    unfolding attained comes_to
    attained_of o k =
        let r = listed_outcome k.0 k.1 in
        any_of (comes_to M p o) (list_of M p) r.0 r.1 (is_same (outcome_under M p r.0) o (r.3 ∙ k.2))

module _ (M : Model) (L : Laws M) (p : Program) (a : Admitted M p) (N : Model) (K : Laws N) (q : Program) (b : Admitted N q) where
  -- NONE IS FOUND: p under M covers q under N
  pub none_covers : first_lacking M p N q ≡ none → CoversUnder M p N q
  unfolding lacks_under
  none_covers e o k =
      let r = listed_outcome N K q b k.0 k.1 in
      attained_yes M L p o (subst (λ (x : Outcome). attained M p x ≡ true) (r.3 ∙ k.2) (not-false _ (none_find (lacks_under M p N q) (list_of N q) e r.0 r.1)))

  -- ONE IS FOUND: it is the first that p under M lacks
  pub some_first : (s : Schedule) → first_lacking M p N q ≡ some s → FirstLackingUnder M p N q s
  unfolding lacks_under
  some_first s e =
      let f = find_in (lacks_under M p N q) (list_of N q) (list_ascends N K q) s e in
      record {
        listed = (list_exact N K q s).0 f.0;
        lacks = λ k. true≢false (sym (attained_of M L p a (outcome_under N q s) k) ∙ not-true _ f.1);
        first = λ r l h. attained_yes M L p (outcome_under N q r) (not-false _ (f.2 r ((list_exact N K q r).1 l) h));
      }

  lacks_not : (s : Schedule) → AttainsUnder M p (outcome_under N q s) → lacks_under M p N q s ≡ false
  unfolding lacks_under
  lacks_not s k = ap not (attained_of M L p a (outcome_under N q s) k)

  lacks_yes : (s : Schedule) → (AttainsUnder M p (outcome_under N q s) → ⊥) → lacks_under M p N q s ≡ true
  unfolding lacks_under
  lacks_yes s n = go (attained M p (outcome_under N q s)) refl
    where
      go : (t : Bool) → attained M p (outcome_under N q s) ≡ t → not t ≡ true
      go true e = absurd (n (attained_yes M L p (outcome_under N q s) e))
      go false e = refl

  -- and back: what is covered lacks nothing, and the first that is lacked is found
  pub covers_none : CoversUnder M p N q → first_lacking M p N q ≡ none
  covers_none c = find_none (lacks_under M p N q) (list_of N q) (λ s m. lacks_not s (c (outcome_under N q s) (s, ((list_exact N K q s).0 m).0, refl)))

  pub first_some : (s : Schedule) → FirstLackingUnder M p N q s → first_lacking M p N q ≡ some s
  first_some s f =
      in_find (lacks_under M p N q) (list_of N q) (list_ascends N K q) s
      ((list_exact N K q s).1 f.listed, lacks_yes s f.lacks, λ r m h. lacks_not r (f.first r ((list_exact N K q r).0 m) h))
