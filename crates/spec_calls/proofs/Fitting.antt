-- What the check and the graph call say fits their word, whatever they are lent. The judge's call stands by itself, in JudgeFits.
use Prim.Native.Nat.{ℕ, ◌^◌, ◌<◌, ◌≤◌}
use mathlib.Core.Path.{◌≡◌, refl}
use mathlib.Core.List.{List}
use native.Mathlib.Omega.{arith}
use lib.ListN.{length}
use Rattle.spec_file.specs.Decode.{Decoded, accepted, refused, decode}
use Rattle.spec_model.specs.GraphCall.{GraphResult, texted, refusing}
use Rattle.spec_calls.specs.Word.{Fits}
use Rattle.spec_calls.proofs.Refusals.{refusal_fits}
use Rattle.spec_calls.specs.Check.{check_reply}

-- THE CHECK
pub check_fits : (file : List ℕ) → Fits (check_reply (decode file))
unfolding check_reply
check_fits file = go (decode file) refl
  where
    go : (d : Decoded) → decode file ≡ d → Fits (check_reply d)
    go (accepted p) e = omega arith
    go (refused n k) e = refusal_fits file n k e

-- THE GRAPH CALL: a text has at most 400 bytes, and is answered only where there is room for 512
abbrev pub GraphWithin : ℕ → GraphResult → Type 0
GraphWithin room (texted t) = (length t ≤ 400) × (512 ≤ room)
GraphWithin room (refusing n k) = (n < 256) × (k < 2 ^ 48)
