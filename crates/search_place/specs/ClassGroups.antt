-- The groups as the code knows them: for each thread the number of its `02` line, from 1, and 0 for none.
use Rattle.std.specs.Prelude.{ℕ, ◌+◌, ◌<◌, ◌≤◌, ◌≡◌, List, get_or}
use Rattle.spec_file.specs.Program.{Program}
use Rattle.file_decoder.specs.Compiled.{members_of}
use Rattle.spec_file.specs.Tabulate.{tabulate}

-- the first n groups
unfoldable pub groups_of : List ℕ → ℕ → List (List ℕ)
groups_of class n = tabulate (λ k. members_of class (k + 1)) n

-- `class` has the class of each of the program's threads, the number of one of its groups or 0 for none
pub record Lined (class : List ℕ) (groups : ℕ) (p : Program) : Type 0 where
  pub same : p.groups ≡ groups_of class groups
  pub known : (t : ℕ) → t < 6 → get_or class t 0 ≤ groups
