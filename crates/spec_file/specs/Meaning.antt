-- What a line says: a remark, which begins with the byte 23 (`#`) and may hold anything behind it; a frame; or neither. Every line has its
-- 0a, remarks too: a line without it is broken, whatever it holds.
use Rattle.std.specs.Prelude.{ℕ, Bool, false, cond, List, [], ◌∷◌, eqb}
use Rattle.std.proofs.Math.Option.{none, some}
use Rattle.spec_file.specs.Frame.{frame}
use Rattle.spec_file.specs.TextLines.{TextLine}

-- the line begins with `#`
unfoldable pub remark : List ℕ → Bool
remark [] = false
remark (x ∷ l) = eqb x 0x23

pub data Meaning : Type 0 where
  remarked : Meaning
  framed : List ℕ → Meaning
  broken : Meaning

-- what the bytes in front of a line's 0a say
unfoldable pub spelt : List ℕ → Meaning
spelt l = cond (remark l) remarked (elim (frame l) [ none ↦ broken | some f ↦ framed f ])

-- what a line of a text says
unfoldable pub meaning : TextLine → Meaning
meaning l = cond l.ended (spelt l.bytes) broken
