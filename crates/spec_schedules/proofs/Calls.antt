-- The claim about a list of calls: the calls that are not refused answer the members of an ascending list, each once, in order, and no more
-- from then on; each output holds what its answer says.
use mathlib.Core.Path.{◌≡◌, refl, sym, ap, ap₂, subst, ◌∙◌}
use mathlib.Core.Bool.{Bool, true, false}
use mathlib.Core.Option.{Option, none, some}
use mathlib.Core.List.Memᴰ
use mathlib.Core.List.{List, [], ◌∷◌, ◌++◌, append_assoc, tail}
use Prim.Native.Nat.{ℕ, zero, suc, ◌<◌, ◌≤◌}
use borrow.Author.Tests.{lt-ltb, le-ltb}
use lib.ListN.{length, drop}
use lib.Seq.{drop-nil}
use Rattle.spec_file.specs.Over.{over}
use Rattle.spec_schedules.specs.Lists.{head_of}
use Rattle.spec_file.specs.Lists.{Ascends}
use Rattle.spec_schedules.specs.Order.{Schedule, less}
use Rattle.spec_schedules.specs.Calls.{found, nomore, refused, next, offer, answer_to, short, content, Result, result, called, last, left, due, served, member}
use Rattle.spec_schedules.proofs.CallTerms.{Dialogue}
use Rattle.spec_schedules.proofs.Order.{less_irreflexive, less_asymmetric}

-- one call: refused exactly where the output is too short, and otherwise it answers what there is
pub called_short : (need : ℕ) (l : List Schedule) (o : Option Schedule) (out : List ℕ) → length out < need → called need l o out ≡ (refused 22 0, out)
unfolding answer_to content
called_short need l o out h = rw (lt-ltb (length out) need h, answer_to)

pub called_found : (need : ℕ) (l : List Schedule) (o : Option Schedule) (out : List ℕ) (s : Schedule) → need ≤ length out → offer l o ≡ some s → called need l o out ≡ (found s, over s out)
unfolding answer_to content
called_found need l o out s h e = rw (le-ltb (length out) need h, e, answer_to)

pub called_nomore : (need : ℕ) (l : List Schedule) (o : Option Schedule) (out : List ℕ) → need ≤ length out → offer l o ≡ none → called need l o out ≡ (nomore, out)
unfolding answer_to content
called_nomore need l o out h e = rw (le-ltb (length out) need h, e, answer_to)

-- v is what stands in l behind the schedule answered last
abbrev pub Behind : List Schedule → Option Schedule → List Schedule → Type 0
Behind l none v = l ≡ v
Behind l (some s) v = (u : List Schedule) × (l ≡ u ++ (s ∷ v))

-- the next member is answered: what is behind it is left
pub behind_next : (l : List Schedule) (o : Option Schedule) (x : Schedule) (v : List Schedule) → Behind l o (x ∷ v) → Behind l (some x) v
behind_next l none x v r = ([], r)
behind_next l (some s) x v r = (r.0 ++ (s ∷ []), r.1 ∙ sym (append_assoc r.0 (s ∷ []) (x ∷ v)))

behind_answer : (l : List Schedule) (b : Bool) (o : Option Schedule) (v : List Schedule) → Behind l o v → Behind l (last o (answer_to b (head_of v))) (left b v)
unfolding last answer_to head_of left
behind_answer l true o v r = r
behind_answer l false o [] r = r
behind_answer l false o (x ∷ v) r = behind_next l o x v r

next_at : (u : List Schedule) (s : Schedule) (v : List Schedule) → Ascends less (u ++ (s ∷ v)) → next (u ++ (s ∷ v)) s ≡ head_of v
unfolding next head_of
next_at [] s [] a = rw (less_irreflexive s, next)
next_at [] s (x ∷ v) a = rw (less_irreflexive s, a.0 x (Memᴰ.head refl), next)
next_at (y ∷ u) s v a = rw (less_asymmetric y s (a.0 s (Memᴰ.append_right u (Memᴰ.head refl))), next) (next_at u s v a.1)

-- a call offers the first of what is left
pub offer_behind : (l : List Schedule) → Ascends less l → (o : Option Schedule) (v : List Schedule) → Behind l o v → offer l o ≡ head_of v
unfolding offer
offer_behind l a none v r = ap head_of r
offer_behind l a (some s) v r = ap (λ (k : List Schedule). next k s) r.1 ∙ next_at r.0 s v (subst (Ascends less) r.1 a)

module _ (need : ℕ) (l : List Schedule) (asc : Ascends less l) where
  from_here : (outs : List (List ℕ)) (rs : List Result) (o : Option Schedule) (v : List Schedule) → Behind l o v → Dialogue need l o outs rs → rs ≡ due need v outs
  unfolding due
  from_here [] [] o v b d = refl
  from_here [] (r ∷ rs) o v b d = absurd d
  from_here (out ∷ outs) [] o v b d = absurd d
  from_here (out ∷ outs) (r ∷ rs) o v b d =
      let e : r ≡ result (answer_to (short need out) (head_of v)) out = d.0 ∙ ap (λ (x : Option Schedule). result (answer_to (short need out) x) out) (offer_behind l asc o v b) in
      ap₂ {C = List Result} (λ x xs. x ∷ xs) e
      (from_here outs rs (last o r.0) (left (short need out) v)
      (subst (λ (x : Result). Behind l (last o x.0) (left (short need out) v)) (sym e) (behind_answer l (short need out) o v b)) d.1)

  -- THE CLAIM: calls that start with nothing answered give what is due
  pub dialogue_answers : (outs : List (List ℕ)) (rs : List Result) → Dialogue need l none outs rs → rs ≡ due need l outs
  dialogue_answers outs rs d = from_here outs rs none l refl d

-- what is left behind so many members
drop_tail : (k : ℕ) (l : List Schedule) → drop k (tail l) ≡ drop (suc k) l
drop_tail k [] = drop-nil k
drop_tail k (x ∷ l) = refl

pub head_drop : (l : List Schedule) (k : ℕ) → head_of (drop k l) ≡ member l k
unfolding head_of member
head_drop [] k = ap head_of (drop-nil k)
head_drop (x ∷ l) zero = refl
head_drop (x ∷ l) (suc k) = head_drop l k

left_drop : (need : ℕ) (out : List ℕ) (outs : List (List ℕ)) (l : List Schedule) → drop (served need outs) (left (short need out) l) ≡ drop (served need (out ∷ outs)) l
unfolding served left
left_drop need out outs l = go (short need out) refl
  where
    go : (b : Bool) → short need out ≡ b → drop (served need outs) (left (short need out) l) ≡ drop (served need (out ∷ outs)) l
    go true e = rw (e, served, left)
    go false e = rw (e, served, left) (drop_tail (served need outs) l)

-- a list of calls goes on where it stands
pub due_append : (need : ℕ) (l : List Schedule) (a b : List (List ℕ)) → due need l (a ++ b) ≡ due need l a ++ due need (drop (served need a) l) b
unfolding due served
due_append need l [] b = refl
due_append need l (out ∷ a) b = ap {B = List Result} (λ rs. result (answer_to (short need out) (head_of l)) out ∷ rs)
    (due_append need (left (short need out) l) a b ∙ ap (λ (k : List Schedule). due need (left (short need out) l) a ++ due need k b) (left_drop need out a l))

-- call by call: a call that is not refused answers the member whose number is that of the calls before it that were not refused
pub due_at : (need : ℕ) (l : List Schedule) (before : List (List ℕ)) (out : List ℕ) (outs : List (List ℕ)) →
    due need l (before ++ (out ∷ outs)) ≡ due need l before ++ (result (answer_to (short need out) (member l (served need before))) out ∷ due need (left (short need out) (drop (served need before) l)) outs)
unfolding due
due_at need l before out outs =
    let k = drop (served need before) l in
    due_append need l before (out ∷ outs) ∙ ap (λ (rs : List Result). due need l before ++ rs) (due_first need k out outs)
    ∙ ap (λ (o : Option Schedule). due need l before ++ (result (answer_to (short need out) o) out ∷ due need (left (short need out) k) outs)) (head_drop l (served need before))
  where
    due_first : (need : ℕ) (l : List Schedule) (out : List ℕ) (outs : List (List ℕ)) → due need l (out ∷ outs) ≡ result (answer_to (short need out) (head_of l)) out ∷ due need (left (short need out) l) outs
    due_first need l out outs = refl

pub length_due : (need : ℕ) (l : List Schedule) (outs : List (List ℕ)) → length (due need l outs) ≡ length outs
unfolding due
length_due need l [] = refl
length_due need l (out ∷ outs) = ap suc (length_due need (left (short need out) l) outs)
