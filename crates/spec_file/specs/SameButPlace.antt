-- Answers to two files that differ at most in the place of a refusal.
use Rattle.std.specs.Prelude.{◌≡◌}
use Rattle.spec_file.specs.Decode.{Decoded, accepted, refused}

-- two files are read as the same program, or refused by the same number
abbrev pub SameButPlace : Decoded → Decoded → Type 0
SameButPlace (accepted p) (accepted q) = p ≡ q
SameButPlace (accepted p) (refused m j) = ⊥
SameButPlace (refused n k) (accepted q) = ⊥
SameButPlace (refused n k) (refused m j) = n ≡ m
