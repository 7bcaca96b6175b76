-- Whether the set names threads of the program only.
use Prim.Native.Nat.{ℕ}
use native.Mathlib.Omega.{arith}
use mathlib.Core.Path.{◌≡◌}
use lib.ListN.{length}
use Rattle.spec_file.specs.WellFormed.{WellFormed}
use Rattle.file_decoder.specs.Compiled.{program_of}
use Rattle.file_decoder.specs.declared.file.Compiled.{Compiled}
use Rattle.machine.proofs.HeldStart.{loaded_compiled, threads_held}
use Rattle.spec_force.specs.Forced.{Names, LowestMissing}
use Rattle.std.specs.Prelude.{Some, None}
use Rattle.force.specs.Answered.{FirstMissing}

module _ (c : Compiled) (w : WellFormed (program_of c)) (set : ℕ) where
  count : length (program_of c).threads ≡ c.threads
  count = threads_held c.code c.lengths c.threads (program_of c) (loaded_compiled c w)

  pub all_named : FirstMissing set c.threads None → Names set (program_of c)
  all_named f k b m = omega (arith, f k b m, count)

  pub lowest_missing : (k : ℕ) → FirstMissing set c.threads (Some k) → LowestMissing set (program_of c) k
  lowest_missing k f = record { eight = f.0; named = f.1.0; missing = omega (arith, f.1.1, count); lowest = λ j b m. omega (arith, f.2 j b m, count) }
