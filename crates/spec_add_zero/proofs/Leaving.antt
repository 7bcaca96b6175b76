-- What a location holds behind an access, by what the access writes: both fetch and adds leave the sum, since 32-bit values plus zero are
-- themselves.
use Prim.Native.Nat.{ℕ}
use native.Mathlib.Omega.{arith}
use mathlib.Core.Path.{◌≡◌, refl, sym, subst}
use mathlib.Core.Bool.{Bool, true, false, cond}
use mathlib.Core.List.{List, [], ◌∷◌}
use mathlib.Core.Option.{Option, none, some}
use lib.Dec.{eqb}
use borrow.Author.Tests.{eqb-true}
use Rattle.spec_file.specs.declared.instruction.Access.{Access}
use Rattle.spec_file.specs.declared.instruction.Access.TheVariants.{Store, Load, FetchAdd, CompareSwap}
use Rattle.spec_file.specs.declared.instruction.Instruction.{Instruction}
use Rattle.spec_file.specs.declared.instruction.Instruction.TheVariants.{Memory, Alone}
use Rattle.spec_sc.specs.Local.{Local, eval, sum32, access_puts, first_puts, puts}
use Rattle.spec_sc.proofs.Words.{Word, Words, puts_word}
use Rattle.spec_add_zero.specs.Values.{access_leaves, first_leaves, leaves}
use Rattle.spec_add_zero.specs.Writing.{Writing, access_put_first, code_put_first, put_first}

-- what a location holds that held x, behind what was written
unfoldable pub left_by : ℕ → Option ℕ → ℕ
left_by x none = x
left_by x (some v) = v

-- an account of what is written that leaves the values of the machine of values
abbrev pub Leaves : Writing → Type 0
Leaves w = (h : Local) (x : ℕ) → Word x → left_by x (w h x) ≡ leaves h x

-- ---- document 01's first fetch and add
swap_leaves : (x v : ℕ) (b : Bool) → left_by x (cond b (some v) none) ≡ cond b v x
unfolding left_by
swap_leaves x v true = refl
swap_leaves x v false = refl

access_leaves_first : (rs : List ℕ) (a : Access) (x : ℕ) → left_by x (access_put_first rs a x) ≡ access_leaves rs a x
unfolding left_by access_put_first access_leaves
access_leaves_first rs (Store l p) x = refl
access_leaves_first rs (Load r l) x = refl
access_leaves_first rs (FetchAdd r l p) x = refl
access_leaves_first rs (CompareSwap r l e v) x = swap_leaves x (eval rs v) (eqb x (eval rs e))

code_leaves_first : (rs : List ℕ) (is : List Instruction) (x : ℕ) → left_by x (code_put_first rs is x) ≡ first_leaves rs is x
unfolding left_by code_put_first first_leaves
code_leaves_first rs [] x = refl
code_leaves_first rs (Memory a ∷ is) x = access_leaves_first rs a x
code_leaves_first rs (Alone o ∷ is) x = refl

pub first_leaves_lem : Leaves put_first
unfolding put_first leaves
first_leaves_lem h x w = code_leaves_first h.registers h.rest x

-- ---- the amended one
adding_zero : (x p : ℕ) → Word x → p ≡ 0 → x ≡ sum32 x p
unfolding sum32
adding_zero x p w e = omega (arith, w, e)

access_leaves_lem : (rs : List ℕ) (a : Access) (x : ℕ) → Word x → left_by x (access_puts rs a x) ≡ access_leaves rs a x
unfolding left_by access_puts access_leaves
access_leaves_lem rs (Store l p) x w = refl
access_leaves_lem rs (Load r l) x w = refl
access_leaves_lem rs (FetchAdd r l p) x w = go (eqb (eval rs p) 0) refl
  where
    go : (b : Bool) → eqb (eval rs p) 0 ≡ b → left_by x (cond b none (some (sum32 x (eval rs p)))) ≡ sum32 x (eval rs p)
    go true e = adding_zero x (eval rs p) w (eqb-true (eval rs p) 0 e)
    go false e = refl
access_leaves_lem rs (CompareSwap r l e v) x w = swap_leaves x (eval rs v) (eqb x (eval rs e))

code_leaves : (rs : List ℕ) (is : List Instruction) (x : ℕ) → Word x → left_by x (first_puts rs is x) ≡ first_leaves rs is x
unfolding left_by first_puts first_leaves
code_leaves rs [] x w = refl
code_leaves rs (Memory a ∷ is) x w = access_leaves_lem rs a x w
code_leaves rs (Alone o ∷ is) x w = refl

pub amended_leaves : Leaves puts
unfolding puts leaves
amended_leaves h x w = code_leaves h.registers h.rest x w

-- what is left is 32-bit
pub leaves_word : (h : Local) (x : ℕ) → Words h → Word x → Word (leaves h x)
unfolding left_by
leaves_word h x w y = subst Word (amended_leaves h x y) (go (puts h x) refl)
  where
    go : (o : Option ℕ) → puts h x ≡ o → Word (left_by x o)
    go none e = y
    go (some v) e = puts_word h x v w e
