-- WHAT THE COVERS CALL LEAVES IN THE SCRATCH that it is lent: zeros, as many as there were words, where it answered; what was there where it refused.
use Rattle.std.specs.Prelude.{ℕ, List}
use Rattle.spec_covers.specs.Answer.{Answer, covered, lacking, first_refused, second_refused, output_refused}
use Rattle.spec_calls.specs.Scratch.{zeros}

unfoldable pub covers_scratch : Answer → List ℕ → List ℕ
covers_scratch covered scratch = zeros scratch
covers_scratch (lacking s) scratch = zeros scratch
covers_scratch (first_refused n k) scratch = scratch
covers_scratch (second_refused n k) scratch = scratch
covers_scratch (output_refused n k) scratch = scratch
