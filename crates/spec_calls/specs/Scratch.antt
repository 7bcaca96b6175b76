-- WHAT A CALL LEAVES IN THE SCRATCH that it is lent: zeros, as many as there were words, where it answered; what was there where it refused.
use Rattle.std.specs.Prelude.{ℕ, List, length, replicate}
use Rattle.spec_model.specs.Answers.{Violation, fails_first, none_fails, refused_by}
use Rattle.spec_model.specs.OnFile.{Count, counted, refused_count}
use Rattle.spec_force.specs.Forced.{Answer, hostile_can, friendly_can, refusing}

abbrev pub zeros : List ℕ → List ℕ
zeros scratch = replicate (length scratch) 0

-- count
unfoldable pub count_scratch : Count → List ℕ → List ℕ
count_scratch (counted c) scratch = zeros scratch
count_scratch (refused_count n k) scratch = scratch

-- violation
unfoldable pub violation_scratch : Violation → List ℕ → List ℕ
violation_scratch (fails_first s) scratch = zeros scratch
violation_scratch none_fails scratch = zeros scratch
violation_scratch (refused_by n k) scratch = scratch

-- force
unfoldable pub force_scratch : Answer → List ℕ → List ℕ
force_scratch (hostile_can o) scratch = zeros scratch
force_scratch friendly_can scratch = zeros scratch
force_scratch (refusing n k) scratch = scratch
