-- What the code left to a thread says of its next access: one that could not write writes nothing, and where nothing left could conflict with
-- an access at l, the next one goes elsewhere, or neither writes. Less code left can do no more.
use Prim.Native.Nat.{ℕ}
use mathlib.Core.Path.{◌≡◌, refl, sym, subst, ◌∙◌}
use mathlib.Core.Logic.{◌≢◌, ◌⊎◌, inl, inr}
use mathlib.Core.Bool.{Bool, true, false, cond, not, true≢false, false≢true, ◌&&◌, ◌||◌}
use mathlib.Core.Option.{none, some}
use mathlib.Core.List.Memᴰ
use mathlib.Core.List.{List, [], ◌∷◌, Memᴰ}
use lib.Dec.{eqb}
use borrow.Author.Tests.{eqb-false, not-false}
use Rattle.spec_file.specs.declared.instruction.Operand.{Operand}
use Rattle.spec_file.specs.declared.instruction.Operand.TheVariants.{Constant, Register}
use Rattle.spec_file.specs.declared.instruction.Access.{Access}
use Rattle.spec_file.specs.declared.instruction.Access.TheVariants.{Store, Load, FetchAdd, CompareSwap}
use Rattle.spec_file.specs.declared.instruction.Instruction.{Instruction}
use Rattle.spec_file.specs.declared.instruction.Instruction.TheVariants.{Memory, Alone}
use Rattle.spec_file.proofs.Tests.{neither}
use Rattle.spec_schedules.specs.Lists.{any}
use Rattle.spec_schedules.proofs.Lists.{any_yes, any_of, any_no}
use Rattle.spec_sc.specs.Local.{Local, eval, sum32, access_place, access_takes, access_puts, begins_with_access, first_place, first_puts, pending, place_of, puts}
use Rattle.theory_search.specs.Ahead.{could_add, access_may_write, first_may_write, may_write, could_conflict, could_meet}
use Rattle.spec_sc.proofs.Suffix.{Suffix}

-- an access reads or could write
pub takes_or_puts : (a : Access) → (access_takes a || access_may_write a) ≡ true
unfolding access_takes access_may_write
takes_or_puts (Store l p) = refl
takes_or_puts (Load r l) = refl
takes_or_puts (FetchAdd r l p) = refl
takes_or_puts (CompareSwap r l e v) = refl

-- an operand that could only be zero is zero
only_zero : (p : Operand) (rs : List ℕ) → could_add p ≡ false → eqb (eval rs p) 0 ≡ true
unfolding could_add eval
only_zero (Constant v) rs e = not-false (eqb v 0) e
only_zero (Register k) rs e = absurd (true≢false e)

-- one that could not write writes nothing
access_puts_not : (a : Access) → access_may_write a ≡ false → (rs : List ℕ) (x : ℕ) → access_puts rs a x ≡ none
unfolding access_may_write access_puts
access_puts_not (Store l p) e rs x = absurd (true≢false e)
access_puts_not (Load r l) e rs x = refl
access_puts_not (FetchAdd r l p) e rs x = rw (only_zero p rs e)
access_puts_not (CompareSwap r l c v) e rs x = absurd (true≢false e)

first_puts_not : (is : List Instruction) → first_may_write is ≡ false → (rs : List ℕ) (x : ℕ) → first_puts rs is x ≡ none
unfolding first_may_write first_puts
first_puts_not [] e rs x = refl
first_puts_not (Memory a ∷ is) e rs x = access_puts_not a e rs x
first_puts_not (Alone o ∷ is) e rs x = refl

pub puts_not : (h : Local) → may_write h ≡ false → (x : ℕ) → puts h x ≡ none
unfolding may_write puts
puts_not h e x = first_puts_not h.rest e h.registers x

-- elsewhere, or only a read where nothing writes
and_false : (a b : Bool) → (a && b) ≡ false → (a ≡ false) ⊎ (b ≡ false)
and_false true b e = inr e
and_false false b e = inl refl

first_elsewhere : (l : ℕ) (w : Bool) (i : Instruction) (is : List Instruction) → begins_with_access (i ∷ is) ≡ true → could_conflict l w i ≡ false →
    (first_place (i ∷ is) ≢ l) ⊎ ((w ≡ false) × ((rs : List ℕ) (x : ℕ) → first_puts rs (i ∷ is) x ≡ none))
unfolding begins_with_access could_conflict first_place first_puts
first_elsewhere l w (Memory a) is b e = go (and_false (eqb (access_place a) l) (access_may_write a || w) e)
  where
    go : (eqb (access_place a) l ≡ false) ⊎ ((access_may_write a || w) ≡ false) → (access_place a ≢ l) ⊎ ((w ≡ false) × ((rs : List ℕ) (x : ℕ) → access_puts rs a x ≡ none))
    go (inl q) = inl (eqb-false (access_place a) l q)
    go (inr q) = let n = neither (access_may_write a) w q in inr (n.1, access_puts_not a n.0)
first_elsewhere l w (Alone o) is b e = absurd (false≢true b)

elsewhere_at : (l : ℕ) (w : Bool) (is : List Instruction) → begins_with_access is ≡ true → any (could_conflict l w) is ≡ false → (first_place is ≢ l) ⊎ ((w ≡ false) × ((rs : List ℕ) (x : ℕ) → first_puts rs is x ≡ none))
unfolding begins_with_access
elsewhere_at l w [] b e = absurd (false≢true b)
elsewhere_at l w (i ∷ is) b e = first_elsewhere l w i is b (any_no (could_conflict l w) (i ∷ is) i e (Memᴰ.head refl))

pub elsewhere : (l : ℕ) (w : Bool) (h : Local) → pending h ≡ true → could_meet l w h ≡ false → (place_of h ≢ l) ⊎ ((w ≡ false) × ((x : ℕ) → puts h x ≡ none))
unfolding pending could_meet place_of puts
elsewhere l w h b e = go (elsewhere_at l w h.rest b e)
  where
    go : (first_place h.rest ≢ l) ⊎ ((w ≡ false) × ((rs : List ℕ) (x : ℕ) → first_puts rs h.rest x ≡ none)) → (first_place h.rest ≢ l) ⊎ ((w ≡ false) × ((x : ℕ) → first_puts h.registers h.rest x ≡ none))
    go (inl q) = inl q
    go (inr q) = inr (q.0, λ x. q.1 h.registers x)

-- an end of the code can do no more
any_end : (f : Instruction → Bool) (c r : List Instruction) → Suffix r c → any f c ≡ false → any f r ≡ false
any_end f c r s e = go (any f r) refl
  where
    go : (b : Bool) → any f r ≡ b → any f r ≡ false
    go true q =
        let y = any_yes f r q in
        absurd (true≢false (sym (any_of f c y.0 (subst (Memᴰ y.0) (sym s.1) (Memᴰ.append_right s.0 y.1)) y.2) ∙ e))
    go false q = q

pub meet_end : (l : ℕ) (w : Bool) (h k : Local) → Suffix k.rest h.rest → could_meet l w h ≡ false → could_meet l w k ≡ false
unfolding could_meet
meet_end l w h k s e = any_end (could_conflict l w) h.rest k.rest s e
