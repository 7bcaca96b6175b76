-- A game of two sides on a step system. The sides divide the threads. They step alternately, each one of its own threads not yet ended; a
-- side with none left passes, as often as its turn comes. The hostile side wins if the full schedule fails, else the friendly side. What a
-- side can force is said by strategies: a strategy gives a step for each beginning of a play at which its side is to step.
use Rattle.std.specs.Prelude.{ℕ, ◌≡◌, ◌⊎◌, Bool, true, false, List, [], ◌∷◌, ◌++◌}
use Rattle.spec_schedules.specs.Lists.{both, any}
use Rattle.spec_schedules.specs.Order.{Schedule}
use Rattle.spec_schedules.specs.System.{System, run, ended}

pub data Side : Type 0 where
  hostile : Side
  friendly : Side

unfoldable pub other : Side → Side
other hostile = friendly
other friendly = hostile

unfoldable pub same : Side → Side → Bool
same hostile hostile = true
same hostile friendly = false
same friendly hostile = false
same friendly friendly = true

-- `owner` says whose a thread is, `fails` whether an assertion failed so far
pub record Game : Type 1 where
  pub system : System
  pub owner : ℕ → Side
  pub fails : system.State → Bool

-- a step for each beginning of a play
abbrev pub Strategy : Type 0
Strategy = Schedule → ℕ

module _ (G : Game) where
  -- t is a thread of side y that has not ended
  unfoldable pub mine : Side → G.system.State → ℕ → Bool
  mine y σ t = both (G.system.enabled σ t) (same (G.owner t) y)

  -- side y has such a thread
  unfoldable pub able : Side → G.system.State → Bool
  able y σ = any (mine y σ) G.system.names

  -- the side that steps where it is x's turn: x, or the other side if x has none left and passes
  unfoldable pub mover : Side → G.system.State → Side
  mover x σ = elim (able x σ) [ true ↦ x | false ↦ other x ]

  -- the side that wins where the play has ended
  unfoldable pub winner : G.system.State → Side
  winner σ = elim (G.fails σ) [ true ↦ hostile | false ↦ friendly ]

  -- a beginning of a play from σ on, where it is x's turn: each byte names a thread, not yet ended, of the side that steps; behind its step
  -- it is the turn of the other side
  abbrev pub Play : Side → G.system.State → Schedule → Type 0
  Play x σ [] = Unit {0}
  Play x σ (t ∷ s) = (mine (mover x σ) σ t ≡ true) × Play (other (mover x σ)) (G.system.step σ t) s

  -- a full play: in the end all threads have ended
  abbrev pub FullPlay : Side → G.system.State → Schedule → Type 0
  FullPlay x σ [] = ended G.system σ ≡ true
  FullPlay x σ (t ∷ s) = (mine (mover x σ) σ t ≡ true) × FullPlay (other (mover x σ)) (G.system.step σ t) s

  -- the side that steps behind a beginning
  unfoldable pub stepper : Side → G.system.State → Schedule → Side
  stepper x σ [] = mover x σ
  stepper x σ (t ∷ v) = stepper (other (mover x σ)) (G.system.step σ t) v

  -- f is a strategy of side y: at each beginning of a play at which y is to step it gives one of y's own threads, not yet ended
  abbrev pub IsStrategy : Side → Side → G.system.State → Strategy → Type 0
  IsStrategy y x σ f = (v : Schedule) → Play x σ v → ended G.system (run G.system σ v) ≡ false → stepper x σ v ≡ y
      → mine y (run G.system σ v) (f v) ≡ true

  -- the play s follows f: behind each beginning at which y is to step comes the step that f gives
  abbrev pub Follows : Side → Side → G.system.State → Strategy → Schedule → Type 0
  Follows y x σ f s = (v : Schedule) (t : ℕ) (z : Schedule) → s ≡ v ++ (t ∷ z) → stepper x σ v ≡ y → t ≡ f v

  -- side y can force its end where it is x's turn: it has a strategy such that every full play that follows it ends so
  pub record Forces (y x : Side) (σ : G.system.State) : Type 0 where
    pub strategy : Strategy
    pub own : IsStrategy y x σ strategy
    pub wins : (s : Schedule) → FullPlay x σ s → Follows y x σ strategy s → winner (run G.system σ s) ≡ y

  -- exactly one side can force its end
  pub record ExactlyOne (x : Side) (σ : G.system.State) : Type 0 where
    pub one : Forces hostile x σ ⊎ Forces friendly x σ
    pub not_both : Forces hostile x σ → Forces friendly x σ → ⊥

  -- a first step of the hostile side that keeps the win: behind it, where it is the friendly side's turn, the hostile side can still force
  pub record Keeps (σ : G.system.State) (t : ℕ) : Type 0 where
    pub own : mine hostile σ t ≡ true
    pub forces : Forces hostile friendly (G.system.step σ t)
