-- The two sets of locations bound what is left to a thread: something left could conflict with an access exactly when the sets say so.
use Prim.Native.Nat.{ℕ, ◌<◌}
use mathlib.Core.Path.{◌≡◌, refl, sym, ap, ap₂, ◌∙◌}
use mathlib.Core.Bool.{Bool, true, false, cond, false≢true, ◌&&◌, ◌||◌}
use mathlib.Core.List.{List, [], ◌∷◌}
use native.Mathlib.Omega.{arith}
use lib.Dec.{eqb}
use Rattle.spec_schedules.proofs.Lists.{any_cons}
use Rattle.spec_file.specs.declared.instruction.Instruction.{Instruction}
use Rattle.spec_file.specs.declared.instruction.Instruction.TheVariants.{Memory, Alone}
use Rattle.spec_schedules.specs.Lists.{any}
use Rattle.spec_sc.specs.Local.{Local, access_place, access_takes}
use Rattle.spec_sc.specs.State.{State, thread_of, place}
use Rattle.theory_search.specs.Ahead.{access_may_write, may_write, could_conflict, could_meet}
use Rattle.theory_search.proofs.Ahead.{takes_or_puts}
use Rattle.spec_schedules.specs.Sets.{has}
use Rattle.theory_sc.specs.Sets.{joined}
use Rattle.theory_sc.specs.Sleepers.{reads_left, writes_left, meets, wakes}
use Rattle.theory_sc.proofs.Sets.{has_none, joined_has, joined_below}

-- what holds of tests: e the same location, r and m whether the access reads and could write, w whether the other could; R and W of what is behind
left_test : (e r m w R W : Bool) → (r || m) ≡ true → ((e && (m || w)) || (W || (R && w))) ≡ (cond m (e || W) W || (cond r (e || R) R && w))
left_test e false false w R W q = absurd (false≢true q)
left_test true false true w R W q = refl
left_test false false true w R W q = refl
left_test true true true w R W q = refl
left_test false true true w R W q = refl
left_test false true false w R W q = refl
left_test true true false true R true q = refl
left_test true true false true R false q = refl
left_test true true false false true true q = refl
left_test true true false false true false q = refl
left_test true true false false false true q = refl
left_test true true false false false false q = refl

-- a set with the location in it, where the access is of that sort
left_has : (b : Bool) (k s l : ℕ) → l < 8 → has (cond b (joined k s) s) l ≡ cond b (eqb k l || has s l) (has s l)
left_has true k s l h = joined_has k s l h
left_has false k s l h = refl

module _ (l : ℕ) (h : l < 8) (w : Bool) where
  left_law : (is : List Instruction) → any (could_conflict l w) is ≡ (has (writes_left is) l || (has (reads_left is) l && w))
  unfolding any could_conflict reads_left writes_left
  left_law [] = rw (has_none l)
  left_law (Memory a ∷ is) =
      any_cons (could_conflict l w) (Memory a) is
      ∙ ap (λ (b : Bool). (eqb (access_place a) l && (access_may_write a || w)) || b) (left_law is)
      ∙ left_test (eqb (access_place a) l) (access_takes a) (access_may_write a) w (has (reads_left is) l) (has (writes_left is) l) (takes_or_puts a)
      ∙ ap₂ (λ (a b : Bool). a || (b && w))
      (sym (left_has (access_may_write a) (access_place a) (writes_left is) l h)) (sym (left_has (access_takes a) (access_place a) (reads_left is) l h))
  left_law (Alone o ∷ is) = left_law is

-- THE SETS ARE EXACT
pub left_exact : (l : ℕ) → l < 8 → (w : Bool) (h : Local) → could_meet l w h ≡ meets (reads_left h.rest) (writes_left h.rest) l w
unfolding could_meet meets
left_exact l s w h = left_law l s w h.rest

-- the sets of locations left to read and to write are bytes
left_below : (b : Bool) (k s : ℕ) → s < 256 → cond b (joined k s) s < 256
left_below true k s h = joined_below k s
left_below false k s h = h

pub reads_below : (is : List Instruction) → reads_left is < 256
unfolding reads_left
reads_below [] = omega arith
reads_below (Memory a ∷ is) = left_below (access_takes a) (access_place a) (reads_left is) (reads_below is)
reads_below (Alone o ∷ is) = reads_below is

pub writes_below : (is : List Instruction) → writes_left is < 256
unfolding writes_left
writes_below [] = omega arith
writes_below (Memory a ∷ is) = left_below (access_may_write a) (access_place a) (writes_left is) (writes_below is)
writes_below (Alone o ∷ is) = writes_below is

-- who could wake whom is read off what is left
pub wakes_exact : (σ : State) (t u : ℕ) → place σ t < 8 → wakes σ t u ≡ could_meet (place σ t) (may_write (thread_of σ t).local) (thread_of σ u).local
unfolding wakes
wakes_exact σ t u h = sym (left_exact (place σ t) h (may_write (thread_of σ t).local) (thread_of σ u).local)
