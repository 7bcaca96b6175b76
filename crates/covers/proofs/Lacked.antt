-- Whether another program lacks the outcome of a schedule, by what was found in its list, or by rows of all its outcomes.
use Rattle.std.specs.Prelude.{Option, Some, None, is_none}
use Prim.Native.Nat.{ℕ}
use mathlib.Core.Path.{◌≡◌, refl, sym, ap, ◌∙◌, fun_ext}
use mathlib.Core.Bool.{Bool, true, false, not, ◌||◌}
use mathlib.Core.Option as Math
use mathlib.Core.List.{List, [], ◌∷◌}
use Rattle.spec_file.specs.Program.{Program}
use Rattle.spec_schedules.specs.Lists.{any, find}
use Rattle.spec_schedules.specs.Order.{Schedule}
use Rattle.spec_schedules.proofs.Lists.{any_cons, find_yes, find_no}
use Rattle.spec_schedules.proofs.Loops.{any_nil}
use Rattle.spec_model.specs.Model.{Model}
use Rattle.spec_model.specs.Alike.{list_of}
use Rattle.spec_model.specs.Laws.{Admitted}
use Rattle.spec_covers.specs.declared.outcome.Outcome.{Outcome}
use Rattle.spec_across.specs.Under.{outcome_under}
use Rattle.spec_across.proofs.Attained.{comes_to, attained, lacks_under, first_lacking}
use Rattle.listing_model.specs.declared.memory.Model as Code
use Rattle.listing_model.specs.ModelOf.{model_of}
use Rattle.listing_pages.proofs.FirstOfTwo.{find_empty}
use Rattle.listing_cursor.specs.declared.steps.Steps.{Steps}
use Rattle.listing_cursor.specs.Steps.{found_of}
use Rattle.states_outcomes.specs.Rows.{is_new}
use Rattle.outcome_states.specs.Gathered.{Exactly}
use Rattle.outcome_states.proofs.Marks.{eight_under}

-- whether there is a first that passes
unfoldable is_some : Math.Option Schedule → Bool
is_some Math.none = false
is_some (Math.some s) = true

any_found : (f : Schedule → Bool) (l : List Schedule) → any f l ≡ is_some (find f l)
unfolding is_some
any_found f [] = any_nil f ∙ sym (ap is_some (find_empty f))
any_found f (x ∷ l) = go (f x) refl (any_found f l)
  where
    go : (b : Bool) → f x ≡ b → any f l ≡ is_some (find f l) → any f (x ∷ l) ≡ is_some (find f (x ∷ l))
    go true q ih = any_cons f x l ∙ ap (λ (b : Bool). b || any f l) q ∙ sym (ap is_some (find_yes f x l q))
    go false q ih = any_cons f x l ∙ ap (λ (b : Bool). b || any f l) q ∙ ih ∙ sym (ap is_some (find_no f x l q))

none_is : (c : Option (Steps 48)) → is_none c ≡ not (is_some (found_of c))
unfolding is_some
none_is (Some s) = refl
none_is None = refl

-- no schedule of p under M with the outcome of q's schedule s under N was found: p lacks it
pub lacked : (M : Model) (p : Program) (N : Model) (q : Program) (s : Schedule) (o : Outcome) (c : Option (Steps 48)) → o ≡ outcome_under N q s
    → found_of c ≡ find (comes_to M p o) (list_of M p) → is_none c ≡ lacks_under M p N q s
unfolding lacks_under attained
lacked M p N q s o c e f =
    none_is c ∙ ap not (ap is_some f ∙ sym (any_found (comes_to M p o) (list_of M p))) ∙ ap (λ (x : Outcome). not (attained M p x)) e

-- WHAT IS NEW TO ALL OF p's OUTCOMES p lacks
pub new_lacks : (M : Model) (p : Program) (other : Code.Model) (q : Program) → Admitted (model_of other) q → (rows : List ℕ) (k : ℕ) → Exactly M p rows k
    → find (λ s. is_new rows k (outcome_under (model_of other) q s)) (list_of (model_of other) q) ≡ first_lacking M p (model_of other) q
unfolding lacks_under attained
new_lacks M p other q a rows k exact =
    ap (λ (f : Schedule → Bool). find f (list_of (model_of other) q)) (fun_ext (λ s. ap not (exact (outcome_under (model_of other) q s) (eight_under other q a s))))
