-- A dialogue: each call did what it must after the answers before it.
use Prim.Native.Nat.{ℕ}
use mathlib.Core.Path.{◌≡◌}
use mathlib.Core.Option.{Option}
use mathlib.Core.List.{List, [], ◌∷◌}
use Rattle.spec_schedules.specs.Order.{Schedule}
use Rattle.spec_schedules.specs.Calls.{Result, called, last}

-- to each output its result, each as its call must give it after the answers before
abbrev pub Dialogue : ℕ → List Schedule → Option Schedule → List (List ℕ) → List Result → Type 0
Dialogue need l o [] [] = Unit {0}
Dialogue need l o [] (r ∷ rs) = ⊥
Dialogue need l o (out ∷ outs) [] = ⊥
Dialogue need l o (out ∷ outs) (r ∷ rs) = (r ≡ called need l o out) × Dialogue need l (last o r.0) outs rs
