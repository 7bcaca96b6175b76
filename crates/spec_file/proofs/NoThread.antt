-- A file without a thread: the file of 0 bytes is the program of no thread, and 9 refuses no file.
use Prim.Native.Nat.{ℕ}
use native.Mathlib.Omega.{arith}
use mathlib.Core.Path.{◌≡◌, refl, subst}
use mathlib.Core.Logic.{⊎_elim}
use mathlib.Core.List.{List, []}
use Rattle.spec_file.specs.TextLines.{split}
use Rattle.spec_file.specs.Program.{zeros}
use Rattle.spec_file.specs.Decode.{fresh, value_at, first_far_skip, program_in, accepted, refused, finish, read_lines, decode}
use Rattle.spec_file.proofs.Places.{Within, decode_within}

-- THE FILE OF 0 BYTES
pub no_bytes : decode [] ≡ accepted (record { threads = []; groups = []; starting = zeros })
unfolding split fresh value_at first_far_skip program_in finish read_lines decode
no_bytes = refl

-- NO FILE IS REFUSED BY 9
pub never_9 : (file : List ℕ) (k : ℕ) → decode file ≡ refused 9 k → ⊥
never_9 file k e = let w = subst (Within 4096) e (decode_within file) in ⊎_elim (λ h. omega (arith, h)) (λ h. omega (arith, h)) w.0
