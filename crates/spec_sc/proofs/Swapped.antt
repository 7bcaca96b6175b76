-- Exchanging two threads of one `02` line, and when that leaves a state as it is: they stand alike, and neither has written.
use Prim.Native.Nat.{ℕ, ◌<◌}
use mathlib.Core.Path.{◌≡◌, refl, sym}
use mathlib.Core.Logic.{◌≢◌}
use native.Mathlib.Omega.{arith}
use lib.ListN.{length}
use Rattle.spec_file.specs.Program.{Program}
use Rattle.spec_file.specs.WellFormed.{WellFormed}
use Rattle.spec_sc.specs.State.{State, thread_of}
use Rattle.spec_sc.specs.Exchange.{Moves}
use Rattle.spec_sc.proofs.Regular.{Regular}
use Rattle.spec_sc.proofs.FixedState.{fixed_state}
use Rattle.spec_model.proofs.Swapped.{swapped}
use Rattle.spec_model.proofs.Swapped.{swapped_else, swapped_cases, swapped_exchange}
-- a thread that has written nothing
use Rattle.spec_sc.proofs.Standing.{Silent}
use Rattle.spec_model.specs.Exchange.{Together}
use Rattle.spec_sc.proofs.Laws.{within}

-- THE STATE STAYS when two silent threads that stand alike are exchanged
pub swapped_state : (p : Program) → WellFormed p → (σ : State) → Regular σ → length σ.threads ≡ length p.threads → (u t : ℕ) → u ≢ t → u < 6 → t < 6 → Together p u t →
    thread_of σ u ≡ thread_of σ t → Silent σ u → Silent σ t → Moves (swapped u t) σ σ
swapped_state p w σ g size u t ne hu ht k equal quiet quiet' =
    let x = swapped_exchange p u t ne hu ht k in
    fixed_state (swapped u t) x.0 σ g
    (λ y. swapped_cases u t ne (λ a b. thread_of σ b ≡ thread_of σ a) (sym equal) equal (λ a i j. refl) y)
    (λ c m e i. swapped_else u t ne e.0 (quiet c m e i) (quiet' c m e i))
    (λ y h. let b = within p w (swapped u t) x y (omega arith) in omega arith)
