-- OUTCOMES GATHERED INTO LENT WORDS by a walk: rows stand before the frame's cut, marks behind it; where the marks were true of the rows that there
-- were, they are true of those that there are, and nothing is left that is not among these.
use Rattle.std.specs.Prelude.{ℕ, Bool, List, take}
use Rattle.spec_file.specs.Program.{Program}
use Rattle.spec_sc.specs.Sequential.{sc}
use Rattle.spec_covers.specs.declared.outcome.Outcome.{Outcome}
use Rattle.theory_outcomes.specs.Gathering.{Gains}
use Rattle.states_outcomes.specs.declared.known.Frame.{Frame}
use Rattle.states_outcomes.specs.Rows.{is_new}
use Rattle.states_outcomes.specs.Swept.{Swept}

-- the frame with so many outcomes known
abbrev pub grown : Frame → ℕ → Frame
grown f k = record { width = f.width; slots = f.slots; cut = f.cut; known = k }

abbrev pub Gathers : Program → Frame → (lent lent' : List ℕ) → ℕ → ((Outcome → Bool) → Type 0) → Type 0
Gathers p f lent lent' k Left =
    Swept p f (take f.cut lent) lent
    → Gains sc p (is_new (take f.cut lent) f.known) (is_new (take f.cut lent') k) Left × Swept p (grown f k) (take f.cut lent') lent'
