-- What two graph texts are read as, and how they are judged, that differ at most in the place of a refusal.
use Rattle.std.specs.Prelude.{◌≡◌}
use Rattle.spec_judge.specs.Reading.{Parsed, parsed, refused_at}
use Rattle.spec_judge.specs.Answer.{Answer, consistent, inconsistent, refusing}

-- two texts give the same graph, or are refused by the same number
abbrev pub ReadSame : Parsed → Parsed → Type 0
ReadSame (parsed g) (parsed h) = g ≡ h
ReadSame (parsed g) (refused_at m j) = ⊥
ReadSame (refused_at n k) (parsed h) = ⊥
ReadSame (refused_at n k) (refused_at m j) = n ≡ m

-- yes with the same schedule, no and no, or refusals by the same number
abbrev pub JudgedSame : Answer → Answer → Type 0
JudgedSame (consistent s) (consistent r) = s ≡ r
JudgedSame (consistent s) inconsistent = ⊥
JudgedSame (consistent s) (refusing m j) = ⊥
JudgedSame inconsistent (consistent r) = ⊥
JudgedSame inconsistent inconsistent = Unit {0}
JudgedSame inconsistent (refusing m j) = ⊥
JudgedSame (refusing n k) (consistent r) = ⊥
JudgedSame (refusing n k) inconsistent = ⊥
JudgedSame (refusing n k) (refusing m j) = n ≡ m
