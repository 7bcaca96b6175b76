-- Which programs total store order turns away.
use Prim.Native.Nat.{ℕ, ◌<◌, ◌≤◌}
use mathlib.Core.Path.{◌≡◌, refl, ap}
use mathlib.Core.Option.{none, some}
use borrow.Author.Tests.{lt-ltb, le-ltb}
use Rattle.spec_file.specs.Program.{Program}
use Rattle.spec_file.specs.WellFormed.{all_accesses}
use Rattle.spec_file.specs.Decode.{accepted}
use Rattle.spec_file.specs.Decode as File
use Rattle.spec_model.specs.OnFile.{unless, admit}
use Rattle.spec_tso.specs.TotalStoreOrder.{too_many, tso}

-- 41 AT PLACE 0, exactly above 16 accesses, right behind the program's own refusals
pub many_41 : (p : Program) → 16 < all_accesses p.threads → too_many p ≡ some (41, 0)
unfolding too_many
many_41 p h = let q = lt-ltb 16 (all_accesses p.threads) h in rw (q, too_many)

pub few_none : (p : Program) → all_accesses p.threads ≤ 16 → too_many p ≡ none
unfolding too_many
few_none p h = let q = le-ltb 16 (all_accesses p.threads) h in rw (q, too_many)

pub refused_41 : (p : Program) → 16 < all_accesses p.threads → admit tso (accepted p) ≡ File.refused 41 0
unfolding admit unless
refused_41 p h = ap (unless p) (many_41 p h)

pub admitted_16 : (p : Program) → all_accesses p.threads ≤ 16 → admit tso (accepted p) ≡ accepted p
unfolding admit unless
admitted_16 p h = ap (unless p) (few_none p h)

pub refused_first : (n k : ℕ) → admit tso (File.refused n k) ≡ File.refused n k
unfolding admit
refused_first n k = refl
