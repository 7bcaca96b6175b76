-- A text without its remarks and with its capitals lowered: what two texts that differ only in remarks and capitals have in common.
use Rattle.std.specs.Prelude.{ℕ, Bool, cond, ◌&&◌, List, [], ◌∷◌, ◌++◌, map}
use Rattle.spec_file.specs.Digit.{lower}
use Rattle.spec_file.specs.TextLines.{TextLine, split}
use Rattle.spec_file.specs.Meaning.{remark}

-- lines one after the other as a text, each with its 0a if it has one
unfoldable pub joined : List TextLine → List ℕ
joined [] = []
joined (l ∷ ls) = l.bytes ++ (cond l.ended (10 ∷ []) [] ++ joined ls)

-- a remark line: it begins with `#`, and has its 0a
unfoldable pub is_remark : TextLine → Bool
is_remark l = l.ended && remark l.bytes

-- the lines that are left once the remark lines are taken out
unfoldable pub kept : List TextLine → List TextLine
kept [] = []
kept (l ∷ ls) = cond (is_remark l) (kept ls) (l ∷ kept ls)

-- the text with its remark lines taken out, each with its 0a
unfoldable pub without_remarks : List ℕ → List ℕ
without_remarks text = joined (kept (split text))

-- the text with A to F as a to f
unfoldable pub lowered : List ℕ → List ℕ
lowered text = map lower text

-- the text without remarks, with A to F as a to f
unfoldable pub plain : List ℕ → List ℕ
plain text = lowered (without_remarks text)
