-- The eight final values, one by one.
use Prim.Native.Nat.{ℕ, ◌<◌}
use mathlib.Core.Path.{◌≡◌, sym, ◌∙◌}
use mathlib.Core.List.{List}
use native.Mathlib.Omega.{arith}
use lib.ListN.{length, get_or, length-map, get_or-map}
use lib.Seq.{ext_get_or}
use Rattle.spec_sc.specs.State.{State, fresh_cell, cell_of, value_of, memory_of}

pub values_memory : (σ : State) (m : List ℕ) → length σ.cells ≡ 8 → length m ≡ 8 → ((l : ℕ) → l < 8 → (cell_of σ l).value ≡ get_or m l 0) → m ≡ memory_of σ
unfolding memory_of value_of cell_of fresh_cell
values_memory σ m n e h =
    ext_get_or 0 m (memory_of σ) (e ∙ sym n ∙ sym (length-map σ.cells value_of))
    (λ l b. sym (h l (omega (arith, b, e))) ∙ sym (get_or-map value_of σ.cells l (fresh_cell 0)))
