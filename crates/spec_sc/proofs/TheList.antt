-- The list of sequential consistency is short enough that its length fits 64 bits.
use Prim.Native.Nat.{ℕ, ◌^◌, ◌<◌, ◌≤◌}
use mathlib.Core.Path.{refl, subst}
use native.Mathlib.Omega.{arith}
use lib.ListN.{length}
use Rattle.spec_file.specs.Program.{Program}
use Rattle.spec_file.specs.WellFormed.{WellFormed}
use Rattle.spec_schedules.specs.Lists.{range}
use Rattle.spec_schedules.proofs.Group.{member_permutation, identity_member}
use Rattle.spec_model.specs.Alike.{list_of}
use Rattle.spec_model.proofs.TheList as Model
use Rattle.spec_sc.proofs.Lawful.{fits_64_bits}
use Rattle.spec_sc.specs.Sequential.{sc}
use Rattle.spec_sc.proofs.Laws.{sc_laws}

pub list_length : (p : Program) → WellFormed p → length (list_of sc p) ≤ 6 ^ 24
list_length p w = subst (λ (n : ℕ). length (list_of sc p) ≤ n ^ 24) (member_permutation (range 0 6) identity_member).six (Model.list_length sc sc_laws p (w, refl))

pub list_fits : (p : Program) → WellFormed p → length (list_of sc p) < 2 ^ 63
list_fits p w = omega (arith, list_length p w, fits_64_bits)
