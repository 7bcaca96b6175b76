-- What the code answers of a thread whose move could be far.
use Rattle.std.specs.Prelude.{ℕ, ◌+◌, ◌≡◌, Bool, not, ◌&&◌, ◌||◌, List, eqb, ltb}
use Rattle.spec_file.specs.Program.{Program}
use Rattle.spec_schedules.specs.Lists.{range, any}
use Rattle.spec_schedules.specs.Sets.{has}
use Rattle.search_place.specs.ClassGroups.{Lined}
use Rattle.theory_sc.specs.ThreadWords.{twin_by_word}

-- the answer r says of every program with these lines whether thread t may move, not by b, and was in the set or has a smaller twin whose
-- move is smaller than b
pub record IsFarther (class words : List ℕ) (may before b t : ℕ) (r : Bool) : Type 0 where
  pub says : (groups : ℕ) (p : Program) → Lined class groups p
      → r ≡ (has may t && (not (eqb b (t + 16)) && (any (λ u. twin_by_word p words t u && ltb (u + 16) b) (range 0 t) || has before t)))
