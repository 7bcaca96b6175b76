-- Steps that come late, among any actions: `who` is an action's byte, and `dependent` says of two that stand in this order that they must
-- keep it.
use Rattle.std.specs.Prelude.{ℕ, ◌≡◌, Bool, false, List, ◌∷◌, ◌++◌, reverse, ltb}
use Rattle.theory_search.specs.Back.{back}

module _ {D : Type 0} (who : D → ℕ) (dependent : D → D → Bool) where
  -- R1, d comes late: going back over actions of other bytes that need not stay before it, it passes one of a greater byte, so that it
  -- could have been taken earlier. The actions are given latest first.
  abbrev pub late : List D → D → Bool
  late = back who dependent (λ e c. ltb c (who e))

  -- each of these actions is on time: none comes late behind those before it
  abbrev pub Timely : List D → Type 0
  Timely acts = (u : List D) (d : D) (z : List D) → acts ≡ u ++ (d ∷ z) → late (reverse u) d ≡ false
