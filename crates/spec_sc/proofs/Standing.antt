-- Threads that are silent.
use Prim.Native.Nat.{ℕ}
use mathlib.Core.Path.{◌≡◌}
use mathlib.Core.Logic.{◌≢◌}
use mathlib.Core.Bool.{Bool, true, not, false≢true}
use mathlib.Core.List.{List, Memᴰ}
use lib.Dec.{eqb}
use borrow.Author.Tests.{eq-eqb}
use Rattle.spec_file.specs.declared.instruction.Instruction.{Instruction}
use Rattle.spec_sc.specs.Local.{Local}
use Rattle.spec_sc.specs.State.{Event, Cell, State}

abbrev pub mk_local : List ℕ → List Instruction → Bool → Local
mk_local rs is b = record { registers = rs; rest = is; failed = b }

-- thread u has written nothing
abbrev pub Silent : State → ℕ → Type 0
Silent σ u = (c : Cell) → Memᴰ c σ.cells → (e : Event) → Memᴰ e c.writes → e.0 ≢ u

pub not_own : (u : ℕ) (e : Event) → not (eqb e.0 u) ≡ true → e.0 ≢ u
not_own u e q i = false≢true (let k = eq-eqb e.0 u i in rw k at q)
