-- What counting all accesses needs and gives.
use Prim.Native.Nat.{ℕ, ◌<◌, ◌≤◌}
use native.Mathlib.Omega.{arith}
use mathlib.Core.Path.{◌≡◌, ap, ◌∙◌}
use mathlib.Core.List.{List}
use lib.Dec.{ltb}
use lib.ListN.{get_or}
use Rattle.spec_file.specs.Program.{Program}
use Rattle.spec_file.specs.WellFormed.{all_accesses}
use Rattle.machine.specs.Held.{Loaded}
use Rattle.machine.proofs.HeldStart.{threads_held, short_held}
use Rattle.machine_access.specs.Counted.{accesses_below}
use Rattle.machine.proofs.HeldStart.{accesses_held}

module _ (code lengths : List ℕ) (threads : ℕ) (p : Program) (loaded : Loaded code lengths threads p) where
  pub all_few : (threads ≤ 6) × ((t : ℕ) → t < threads → get_or lengths t 0 ≤ 16)
  all_few = (omega (arith, threads_held code lengths threads p loaded, loaded.well_formed.six), short_held code lengths threads p loaded)

  pub all_counted : (n : ℕ) → n ≡ accesses_below code lengths threads → ltb 16 n ≡ ltb 16 (all_accesses p.threads)
  all_counted n e = ap (ltb 16) (e ∙ accesses_held code lengths threads p loaded)
