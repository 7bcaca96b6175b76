-- Who can force the failure of a program's assertion, for a set of hostile threads given as one byte: bit t for thread t. Refusals in
-- order: the program's; then 48, where the set names a thread that is not there, at the lowest such number. Otherwise exactly one side can
-- force its end; where it is the hostile side and it has a step before the first one, the answer gives its least first step that keeps the
-- win.
use Rattle.std.specs.Prelude.{ℕ, ◌<◌, ◌≤◌, ◌≡◌, true, false, List, length}
use Rattle.std.proofs.Math.Option.{Option, none, some}
use Rattle.spec_file.specs.Program.{Program}
use Rattle.spec_file.specs.Decode.{accepted, refused, decode}
use Rattle.spec_sc.specs.State.{State, SC, start, fails}
use Rattle.spec_schedules.specs.Sets.{has}
use Rattle.spec_force.specs.Game.{Side, hostile, friendly, Game, able, Forces, Keeps}

-- the hostile side has the threads in the set, the friendly side the rest
unfoldable pub owner_in : ℕ → ℕ → Side
owner_in set t = elim (has set t) [ true ↦ hostile | false ↦ friendly ]

-- the game on the steps of sequential consistency
abbrev pub game_of : ℕ → Game
game_of set = record { system = SC; owner = owner_in set; fails = fails }

-- the side y can force its end where the hostile side has the first turn
abbrev pub CanForce : Side → ℕ → Program → Type 0
CanForce y set p = Forces (game_of set) y hostile (start p)

-- the hostile side has a step: some thread of its own has not ended before the first one
abbrev pub HasStep : ℕ → Program → Type 0
HasStep set p = able (game_of set) hostile (start p) ≡ true

-- t is the hostile side's least first step that keeps the win
pub record LeastFirst (set : ℕ) (p : Program) (t : ℕ) : Type 0 where
  pub keeps : Keeps (game_of set) (start p) t
  pub least : (u : ℕ) → Keeps (game_of set) (start p) u → t ≤ u

-- each number in the set, of eight, names a thread
abbrev pub Names : ℕ → Program → Type 0
Names set p = (k : ℕ) → k < 8 → has set k ≡ true → k < length p.threads

-- every thread of the program is in the set, and none is
abbrev pub AllIn : ℕ → Program → Type 0
AllIn set p = (t : ℕ) → t < length p.threads → has set t ≡ true

abbrev pub NoneIn : ℕ → Program → Type 0
NoneIn set p = (t : ℕ) → t < length p.threads → has set t ≡ false

-- k is the lowest number in the set that names no thread
pub record LowestMissing (set : ℕ) (p : Program) (k : ℕ) : Type 0 where
  pub eight : k < 8
  pub named : has set k ≡ true
  pub missing : length p.threads ≤ k
  pub lowest : (j : ℕ) → j < k → has set j ≡ true → j < length p.threads

pub data Answer : Type 0 where
  -- the hostile side can force; with its least first step that keeps the win, if it has a step
  hostile_can : Option ℕ → Answer
  -- the friendly side can
  friendly_can : Answer
  -- a refusal, with its number and place
  refusing : ℕ → ℕ → Answer

-- the file is the accepted program p, and the set names threads of it only
pub record Asked (file : List ℕ) (set : ℕ) (p : Program) : Type 0 where
  pub accepts : decode file ≡ accepted p
  pub names : Names set p

-- what the answer says of the program's game
pub data ForcedIn (set : ℕ) (p : Program) : Answer → Type 0 where
  hostile_steps : (t : ℕ) → CanForce hostile set p → HasStep set p → LeastFirst set p t → ForcedIn set p (hostile_can (some t))
  hostile_passes : CanForce hostile set p → (HasStep set p → ⊥) → ForcedIn set p (hostile_can none)
  friendly_forces : CanForce friendly set p → ForcedIn set p friendly_can

-- the answer to a program file and a set
pub data Forced (file : List ℕ) (set : ℕ) : Answer → Type 0 where
  program_refused : (n k : ℕ) → decode file ≡ refused n k → Forced file set (refusing n k)
  set_refused : (p : Program) (k : ℕ) → decode file ≡ accepted p → LowestMissing set p k → Forced file set (refusing 48 k)
  played : (p : Program) (a : Answer) → Asked file set p → ForcedIn set p a → Forced file set a
