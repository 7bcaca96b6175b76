-- THE MEMBER NUMBER k of a list, from 0.
use Rattle.std.specs.Prelude.{ℕ, List, drop}
use Rattle.std.proofs.Math.Option.{Option}
use Rattle.spec_schedules.specs.Lists.{head_of}

abbrev pub kth : {A : Type 0} → ℕ → List A → Option A
kth k l = head_of (drop k l)
