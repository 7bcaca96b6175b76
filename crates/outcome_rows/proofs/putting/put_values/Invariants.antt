-- `put_values` writes one value after the other.
use Rattle.std.proofs.Common.{◌≡◌, take}
use mathlib.Core.List.{flat_map}
use Rattle.spec_file.specs.Over.{over}
use Rattle.spec_outcomes.specs.OutcomesCall.{four_bytes}
use Rattle.outcome_rows.proofs.putting.put_values.Given as goal

abbrev pub invariant-loop-k : goal.invariant-loop-k
invariant-loop-k l = l.out ≡ over (flat_map four_bytes (take l.k l.memory)) l.initial.out
