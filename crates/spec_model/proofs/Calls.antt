-- Start and continue on a file that the model lists: a continue from a full schedule is not refused for it, and gives the least member of
-- the list after it.
use Prim.Native.Nat.{ℕ, suc, ◌≤◌}
use mathlib.Core.Path.{◌≡◌, refl, sym, ap, ◌∙◌}
use mathlib.Core.Logic.{◌↔◌}
use mathlib.Core.Bool.{Bool, true, false}
use mathlib.Core.Option.{Option, none, some}
use mathlib.Core.List.{List, [], ◌∷◌, Memᴰ}
use native.Mathlib.Omega.{arith}
use lib.ListN.{length}
use Rattle.spec_file.specs.Over.{over}
use Rattle.spec_file.specs.Program.{Program}
use Rattle.spec_file.specs.Decode.{Decoded, accepted, decode}
use Rattle.spec_schedules.specs.Lists.{find}
use Rattle.spec_schedules.specs.Order.{Schedule, less}
use Rattle.spec_schedules.specs.System.{System, FullFrom}
use Rattle.spec_schedules.specs.Calls.{Answer, found, nomore, offer, answer_to, short, Result, result, called}
use Rattle.spec_schedules.proofs.Calls.{called_found, called_nomore}
use Rattle.spec_schedules.proofs.Offered.{offer_next, answer_short}
use Rattle.spec_schedules.proofs.First.{find_none, next_find}
use Rattle.spec_schedules.proofs.FirstIn.{FirstIn, find_in, in_find, none_find}
use Rattle.spec_model.specs.Model.{Model, Full}
use Rattle.spec_model.specs.Laws.{Laws}
use Rattle.spec_model.specs.Alike.{list_of}
use Rattle.spec_model.specs.Answers.{start_of, refuses_from, continued, continue_of}
use Rattle.spec_model.specs.OnFile.{admit, start_on, continue_on, start_file, continue_file}
use Rattle.spec_model.proofs.TheList.{list_ascends}
use Rattle.spec_model.proofs.Refusing.{full_goes}

-- what is offered after s is the first member after it
offer_first : (l : List Schedule) (s : Schedule) → offer l (some s) ≡ find (less s) l
offer_first l s = offer_next l s ∙ next_find s l

module _ (need : ℕ) (l : List Schedule) (o : Option Schedule) (out : List ℕ) (h : need ≤ length out) where
  found_only : (s : Schedule) → called need l o out ≡ (found s, over s out) → offer l o ≡ some s
  found_only s e = go (offer l o) refl
    where
      go : (x : Option Schedule) → offer l o ≡ x → offer l o ≡ some s
      go none q = absurd (let k = ap (λ (r : Result). r.0) (sym (called_nomore need l o out h q) ∙ e) in let z : ◌≡◌ {A = ℕ} 0 1 = cc in omega arith)
      go (some r) q = let i : r ≡ s = let k = ap (λ (r : Result). r.0) (sym (called_found need l o out r h q) ∙ e) in cc in q ∙ ap (λ (z : Schedule). some z) i

  nomore_only : called need l o out ≡ (nomore, out) → offer l o ≡ none
  nomore_only e = go (offer l o) refl
    where
      go : (x : Option Schedule) → offer l o ≡ x → offer l o ≡ none
      go none q = q
      go (some r) q = absurd (let k = ap (λ (r : Result). r.0) (sym (called_found need l o out r h q) ∙ e) in let z : ◌≡◌ {A = ℕ} 0 1 = cc in omega arith)

module _ (M : Model) (p : Program) where
  -- a continue from a full schedule
  pub continue_full : (s : Schedule) → Full M p s → (out : List ℕ) → continue_of M p s out ≡ called M.need (list_of M p) (some s) out
  unfolding continue_of continued
  continue_full s f out = go (short M.need out) refl
    where
      given : refuses_from M.system 0 (M.start p) s ≡ none
      given = full_goes M.system s 0 (M.start p) f

      go : (b : Bool) → short M.need out ≡ b → continue_of M p s out ≡ result (answer_to (short M.need out) (offer (list_of M p) (some s))) out
      go true e = let k = answer_short (offer (list_of M p) (some s)) in ap (λ (a : Answer). result a out) (rw (e, k))
      go false e = ap (λ (a : Answer). result a out) (rw (e, given))

module _ (M : Model) (L : Laws M) (file : List ℕ) (p : Program) (e : admit M (decode file) ≡ accepted p) where
  pub continue_file_lem : (s : Schedule) → Full M p s → (out : List ℕ) → continue_file M file s out ≡ called M.need (list_of M p) (some s) out
  unfolding continue_on
  continue_file_lem s f out = ap (λ (d : Decoded). continue_on M d s out) e ∙ continue_full M p s f out

  pub start_file_lem : (out : List ℕ) → start_file M file out ≡ called M.need (list_of M p) none out
  unfolding start_on start_of
  start_file_lem out = ap (λ (d : Decoded). start_on M d out) e

  -- a continue from a full schedule, with enough room: the least listed one after it, or no more
  pub continue_least : (s : Schedule) → Full M p s → (out : List ℕ) → M.need ≤ length out → (r : Schedule) → (continue_file M file s out ≡ (found r, over r out)) ↔ FirstIn (less s) (list_of M p) r
  continue_least s f out h r = (
    (λ i. find_in (less s) (list_of M p) (list_ascends M L p) r (sym (offer_first (list_of M p) s) ∙ found_only M.need (list_of M p) (some s) out h r (sym (continue_file_lem s f out) ∙ i))),
    λ k. continue_file_lem s f out ∙ called_found M.need (list_of M p) (some s) out r h (offer_first (list_of M p) s ∙ in_find (less s) (list_of M p) (list_ascends M L p) r k),
  )

  pub continue_none : (s : Schedule) → Full M p s → (out : List ℕ) → M.need ≤ length out → (continue_file M file s out ≡ (nomore, out)) ↔ ((r : Schedule) → Memᴰ r (list_of M p) → less s r ≡ false)
  continue_none s f out h = (
    (λ i. none_find (less s) (list_of M p) (sym (offer_first (list_of M p) s) ∙ nomore_only M.need (list_of M p) (some s) out h (sym (continue_file_lem s f out) ∙ i))),
    λ k. continue_file_lem s f out ∙ called_nomore M.need (list_of M p) (some s) out h (offer_first (list_of M p) s ∙ find_none (less s) (list_of M p) k),
  )
