-- A memory model that runs programs: a step system with a program's state before the first step, what is noted of each step and which
-- earlier steps must stay before it, how threads are exchanged, and what is seen of a state. Sequential consistency is one, total store
-- order another.
use Rattle.std.specs.Prelude.{ℕ, ◌≡◌, Bool, List, map}
use Rattle.std.proofs.Math.Option.{Option}
use Rattle.spec_file.specs.Program.{Program}
use Rattle.spec_schedules.specs.Order.{Schedule}
use Rattle.spec_schedules.specs.System.{System, run, Allowed, FullFrom}
use Rattle.spec_schedules.specs.Orders.{trace}

pub record Model : Type 1 where
  pub system : System
  pub start : Program → system.State
  -- THE ACTION of a step: all that is needed to say which steps must keep their order
  pub Action : Type 0
  pub act : system.State → ℕ → Action
  -- the byte of an action
  pub who : Action → ℕ
  -- the first action, which comes earlier and is of another byte, must stay before the second; this need not be symmetric
  pub dependent : Action → Action → Bool
  -- THE GRAPH that led to a state
  pub Graph : Type 0
  pub graph_of : system.State → Graph
  -- the text of a graph, as the graph call writes it
  pub text : Graph → List ℕ
  -- EXCHANGE OF THREADS by a permutation of their numbers: of a byte, of an action; the second state, the second graph is the first one
  -- exchanged
  pub moved_byte : (ℕ → ℕ) → ℕ → ℕ
  pub moved_action : (ℕ → ℕ) → Action → Action
  pub Moves : (ℕ → ℕ) → system.State → system.State → Type 0
  pub Renames : (ℕ → ℕ) → Graph → Graph → Type 0
  -- the test of the last
  pub renames : (ℕ → ℕ) → Graph → Graph → Bool
  -- THE OUTCOME: whether an assertion failed so far, and what memory holds
  pub fails : system.State → Bool
  pub memory_of : system.State → List ℕ
  -- LIMITS: every byte that steps is below `top`; no schedule of a program that is not turned away has more than `steps` steps; an output
  -- that is shorter than `need` is refused
  pub top : ℕ
  pub steps : ℕ
  pub need : ℕ
  -- a program that is turned away, with the refusal's number and place
  pub away : Program → Option (ℕ × ℕ)

module _ (M : Model) (p : Program) where
  -- the state behind a schedule
  abbrev pub end_of : Schedule → M.system.State
  end_of s = run M.system (M.start p) s

  -- each byte may step in its turn; and behind the last none may
  abbrev pub Runs : Schedule → Type 0
  Runs s = Allowed M.system (M.start p) s

  abbrev pub Full : Schedule → Type 0
  Full s = FullFrom M.system (M.start p) s

  abbrev pub graph : Schedule → M.Graph
  graph s = M.graph_of (end_of s)

  -- an assertion has failed by the end of the schedule
  abbrev pub failing : Schedule → Bool
  failing s = M.fails (end_of s)

  -- what its steps did, in order
  abbrev pub actions : Schedule → List M.Action
  actions s = trace M.system M.act (M.start p) s

-- a schedule with its threads exchanged
abbrev pub moved_schedule : (M : Model) → (ℕ → ℕ) → Schedule → Schedule
moved_schedule M π s = map (M.moved_byte π) s
