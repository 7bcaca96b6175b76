-- FAR SKIPS of a file: instructions that may skip more instructions than their thread has behind them, by the file's lines alone. What 7
-- refuses, and where, is said by them.
use Rattle.std.specs.Prelude.{ℕ, suc, ◌+◌, ◌≤◌, ◌<◌, ◌≡◌, ◌⊎◌, cond, ◌||◌, List, [], ◌∷◌}
use Rattle.spec_file.specs.TextLines.{TextLine, split}
use Rattle.spec_file.specs.Meaning.{remarked, framed, broken, meaning}
use Rattle.spec_file.specs.Program.{Program}
use Rattle.spec_file.specs.Frames.{Frame, opens, declares, starts, skip_of}
use Rattle.spec_file.specs.Decode.{accepted, refused, decode}

-- how many instructions stand on these lines, up to the first that opens a thread
unfoldable pub instructions_from : List TextLine → ℕ
instructions_from [] = 0
instructions_from (l ∷ ls) =
    elim (meaning l) [
      | broken ↦ instructions_from ls
      | remarked ↦ instructions_from ls
      | framed f ↦ cond (opens f) 0 (cond (declares f || starts f) (instructions_from ls) (suc (instructions_from ls)))
    ]

-- line k is a far skip, of lines of which the first has number n
abbrev pub FarSkip : ℕ → List TextLine → ℕ → Type 0
FarSkip n [] k = ⊥
FarSkip n (l ∷ ls) k = ((k ≡ n) × ((f : Frame) × (meaning l ≡ framed f) × (instructions_from ls < skip_of f))) ⊎ FarSkip (n + 1) ls k

pub record SevenExactly (file : List ℕ) : Type 0 where
  -- a file that 7 refuses at line k has a far skip there, and no far skip on an earlier line
  pub earliest : (k : ℕ) → decode file ≡ refused 7 k → FarSkip 1 (split file) k × ((j : ℕ) → FarSkip 1 (split file) j → k ≤ j)
  -- an accepted file has no far skip
  pub none : (p : Program) → decode file ≡ accepted p → (k : ℕ) → FarSkip 1 (split file) k → ⊥
