-- Sides as flags, and what a thread of a side is to the code.
use Prim.Native.Nat.{ℕ}
use mathlib.Core.Path.{◌≡◌, refl, sym, ◌∙◌}
use mathlib.Core.Bool.{Bool, true, false, not, beq, ◌&&◌, ◌||◌}
use mathlib.Core.List.{List, [], ◌∷◌}
use denote.Enum.Bare.{sameb}
use Rattle.std.specs.List.{list_any, range_with_len}
use Rattle.spec_schedules.specs.Lists.{both, any, range}
use Rattle.spec_schedules.proofs.Lists.{true_both, false_both}
use Rattle.spec_sc.specs.State.{State, SC, enabled}
use Rattle.spec_schedules.specs.Sets.{has}
use Rattle.spec_force.specs.Game.{Side, hostile, friendly, other, same, mine, able}
use Rattle.spec_force.specs.Forced.{owner_in, game_of}
use Rattle.machine.specs.declared.state.Machine.{Machine}
use Rattle.machine.specs.Held.{Holds}
use Rattle.machine.specs.Asked.{enabled_by}
use Rattle.machine.proofs.HeldAsking.{enabled_by_lem}
use Rattle.force_moves.specs.declared.sides.Side as Code
use Rattle.force_moves.specs.declared.sides.Side.TheVariants.{Hostile, Friendly}
use Rattle.force_moves.specs.contracts.sides.Side.{the_type}
use Rattle.force_moves.specs.Standing.{side_of}

-- whose a thread is, by the set
pub own_hostile : (set t : ℕ) → has set t ≡ same (owner_in set t) hostile
unfolding owner_in same
own_hostile set t = go (has set t) refl
  where
    go : (b : Bool) → has set t ≡ b → has set t ≡ same (owner_in set t) hostile
    go true e = rw (e, owner_in)
    go false e = rw (e, owner_in)

pub own_friendly : (set t : ℕ) → not (has set t) ≡ same (owner_in set t) friendly
unfolding owner_in same
own_friendly set t = go (has set t) refl
  where
    go : (b : Bool) → has set t ≡ b → not (has set t) ≡ same (owner_in set t) friendly
    go true e = rw (e, owner_in)
    go false e = rw (e, owner_in)

-- a side in the code
pub own_by : (s : Code.Side) (set t : ℕ) → beq (has set t) (sameb the_type s Hostile) ≡ same (owner_in set t) (side_of s)
unfolding side_of
own_by Hostile set t = same_flag (has set t) ∙ own_hostile set t
  where
    same_flag : (b : Bool) → beq b true ≡ b
    same_flag true = refl
    same_flag false = refl
own_by Friendly set t = not_flag (has set t) ∙ own_friendly set t
  where
    not_flag : (b : Bool) → beq b false ≡ not b
    not_flag true = refl
    not_flag false = refl

-- what the code asks of a thread: whether it has not ended and is the side's
abbrev pub asks_own : List ℕ → Machine → ℕ → Side → ℕ → Bool
asks_own lengths m set y t = enabled_by lengths m t && same (owner_in set t) y

pub own_mine : (set : ℕ) (y : Side) (σ : State) (code lengths : List ℕ) (m : Machine) → Holds code lengths m σ → (t : ℕ) → asks_own lengths m set y t ≡ mine (game_of set) y σ t
unfolding mine
own_mine set y σ code lengths m held t = go (enabled_by lengths m t) (enabled σ t) (enabled_by_lem held t)
  where
    go : (a b : Bool) → a ≡ b → (a && same (owner_in set t) y) ≡ both b (same (owner_in set t) y)
    go true true e = sym (true_both (same (owner_in set t) y))
    go false false e = sym (false_both (same (owner_in set t) y))
    go true false e = cc
    go false true e = cc

-- the library's question whether some member passes
any_by : (f g : ℕ → Bool) → ((t : ℕ) → f t ≡ g t) → (l : List ℕ) → list_any f l ≡ any g l
unfolding any
any_by f g h [] = refl
any_by f g h (t ∷ l) = go (f t) (g t) (h t) (any_by f g h l)
  where
    go : (a b : Bool) → a ≡ b → list_any f l ≡ any g l → (a || list_any f l) ≡ elim b [ true ↦ true | false ↦ any g l ]
    go true true e r = refl
    go false false e r = r
    go true false e r = cc
    go false true e r = cc

-- whether the side has such a thread, by the library's question of the six
pub able_by : (set : ℕ) (y : Side) (σ : State) (code lengths : List ℕ) (m : Machine) → Holds code lengths m σ
    → list_any (asks_own lengths m set y) (range_with_len 0 6) ≡ able (game_of set) y σ
unfolding able range
able_by set y σ code lengths m held = any_by (asks_own lengths m set y) (mine (game_of set) y σ) (own_mine set y σ code lengths m held) SC.names

-- a side wins where the other does not
pub same_other : (a y : Side) → not (same a (other y)) ≡ same a y
unfolding same other
same_other hostile hostile = refl
same_other hostile friendly = refl
same_other friendly hostile = refl
same_other friendly friendly = refl
