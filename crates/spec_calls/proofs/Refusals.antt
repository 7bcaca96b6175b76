-- The refusal of a program file fits every call's word.
use Prim.Native.Nat.{ℕ, ◌^◌, ◌<◌, ◌≤◌}
use mathlib.Core.Logic.{⊎_elim}
use mathlib.Core.Path.{◌≡◌}
use mathlib.Core.List.{List}
use native.Mathlib.Omega.{arith}
use Rattle.spec_file.specs.Decode.{refused, decode}
use Rattle.spec_file.proofs.Places.{decode_within}

pub refusal_fits : (file : List ℕ) (n k : ℕ) → decode file ≡ refused n k → (n < 256) × (k < 2 ^ 48)
refusal_fits file n k e =
    let h = rw e at (decode_within file) in
    (⊎_elim (λ (a : n ≤ 8). let z : n < 256 = omega arith in z) (λ (a : n ≡ 40). omega arith) h.0, omega (arith, h.1))
