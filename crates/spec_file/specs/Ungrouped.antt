-- A program without its groups, and a file with its `02` lines taken out. A `02` line is one that spells a frame whose first byte is 02;
-- capitals make no difference, and what begins with `#`, is broken or lacks its 0a is none.
use Rattle.std.specs.Prelude.{ℕ, Bool, false, cond, List, [], ◌∷◌}
use Rattle.spec_file.specs.TextLines.{TextLine, split}
use Rattle.spec_file.specs.Meaning.{Meaning, remarked, framed, broken, meaning}
use Rattle.spec_file.specs.Plain.{joined}
use Rattle.spec_file.specs.Program.{Program}
use Rattle.spec_file.specs.Frames.{declares}

-- the program whose threads are alike to themselves only
unfoldable pub ungrouped : Program → Program
ungrouped p = record { threads = p.threads; groups = []; starting = p.starting }

-- whether what a line says is a `02` frame
unfoldable pub declaring : Meaning → Bool
declaring remarked = false
declaring (framed f) = declares f
declaring broken = false

-- the lines that are left once the `02` lines are taken out
unfoldable pub undeclared : List TextLine → List TextLine
undeclared [] = []
undeclared (l ∷ ls) = cond (declaring (meaning l)) (undeclared ls) (l ∷ undeclared ls)

-- the file with its `02` lines taken out, each with its 0a
unfoldable pub without_alike : List ℕ → List ℕ
without_alike file = joined (undeclared (split file))
