-- What a memory model shows of itself. All that its listing promises follows from this.
use Rattle.std.specs.Prelude.{ℕ, ◌<◌, ◌≤◌, ◌≡◌, ◌≢◌, ◌↔◌, true, false, List, ltb, length}
use Rattle.std.proofs.Math.Option.{none}
use Rattle.spec_file.specs.Program.{Program}
use Rattle.spec_file.specs.WellFormed.{WellFormed}
use Rattle.spec_file.specs.Lists.{Ascends}
use Rattle.spec_schedules.specs.Order.{Schedule}
use Rattle.spec_schedules.specs.System.{Lawful, ended}
use Rattle.spec_schedules.specs.Orders.{OrderOf}
use Rattle.spec_model.specs.Exchange.{Permutation, Exchange}
use Rattle.spec_model.specs.Model.{Model, end_of, Runs, Full, graph, failing, actions}

-- the programs that the model lists
abbrev pub Admitted : Model → Program → Type 0
Admitted M p = WellFormed p × (M.away p ≡ none)

-- laws of single steps, from any state
pub record StepLaws (M : Model) : Type 0 where
  -- THE STEP SYSTEM: each step lowers the size, and the bytes that may step are among the names
  pub lawful : Lawful M.system
  -- the names ascend
  pub ascend : Ascends ltb M.system.names
  -- a model has some name
  pub named : 0 < length M.system.names
  -- each byte that may step is below `top`
  pub below : (σ : M.system.State) (b : ℕ) → M.system.enabled σ b ≡ true → b < M.top
  -- an action notes its byte
  pub by : (σ : M.system.State) (b : ℕ) → M.who (M.act σ b) ≡ b
  -- SWAP: a step that need not stay behind the one before it could have been taken first, with the same state behind both
  pub swap : (σ : M.system.State) (a b : ℕ) → a ≢ b → M.system.enabled σ a ≡ true → M.system.enabled (M.system.step σ a) b ≡ true →
      M.dependent (M.act σ a) (M.act (M.system.step σ a) b) ≡ false →
      (M.system.enabled σ b ≡ true) × (M.system.enabled (M.system.step σ b) a ≡ true)
      × (M.system.step (M.system.step σ a) b ≡ M.system.step (M.system.step σ b) a)
  -- two steps of which the second need not stay behind the first do the same actions in both orders
  pub waits : (σ : M.system.State) (a b : ℕ) → a ≢ b → M.system.enabled σ a ≡ true → M.system.enabled (M.system.step σ a) b ≡ true →
      M.dependent (M.act σ a) (M.act (M.system.step σ a) b) ≡ false →
      (M.act (M.system.step σ a) b ≡ M.act σ b) × (M.act (M.system.step σ b) a ≡ M.act σ a)
  -- THE TEST of exchanged graphs is exact
  pub renames_exact : (π : ℕ → ℕ) (g h : M.Graph) → (M.renames π g h ≡ true) ↔ M.Renames π g h
  -- exchanging no threads leaves a graph as it is
  pub renames_none : (g : M.Graph) → M.Renames (λ t. t) g g

-- EXCHANGE: two states of which τ is σ with its threads exchanged
pub record ExchangeLaws (M : Model) (π : ℕ → ℕ) (σ τ : M.system.State) : Type 0 where
  -- where a byte may step in σ, the exchanged byte may in τ
  pub enabled : (b : ℕ) → M.system.enabled σ b ≡ true → M.system.enabled τ (M.moved_byte π b) ≡ true
  -- exchanged bytes lead to exchanged states
  pub step : (b : ℕ) → M.system.enabled σ b ≡ true → M.Moves π (M.system.step σ b) (M.system.step τ (M.moved_byte π b))
  -- exchanged bytes do exchanged actions
  pub act : (b : ℕ) → M.system.enabled σ b ≡ true → M.act τ (M.moved_byte π b) ≡ M.moved_action π (M.act σ b)
  -- where σ has ended, τ has
  pub ends : ended M.system σ ≡ true → ended M.system τ ≡ true
  -- the graph of τ is the exchanged graph of σ
  pub graph : M.Renames π (M.graph_of σ) (M.graph_of τ)
  -- both states fail, or neither does
  pub fails : M.fails τ ≡ M.fails σ
  -- both states have the same memory
  pub memory : M.memory_of τ ≡ M.memory_of σ

-- laws of the runs of one program
pub record ProgramLaws (M : Model) (p : Program) : Type 0 where
  -- the program's schedules are not longer than `steps`
  pub bound : M.system.size (M.start p) ≤ M.steps
  -- `steps` bytes fit an output that is not refused
  pub room : M.steps ≤ M.need
  -- the program's start is unchanged by every permitted exchange
  pub start : (π : ℕ → ℕ) → Exchange p π → M.Moves π (M.start p) (M.start p)
  -- the inverse of an exchange takes the exchanged graph back
  pub renames_back : (π : ℕ → ℕ) (x : Exchange p π) (a b : Schedule) → M.Renames π (graph M p a) (graph M p b) →
      M.Renames x.0.inverse (graph M p b) (graph M p a)
  -- two exchanges, one behind the other, are one exchange of graphs
  pub renames_both : (ρ π : ℕ → ℕ) → Exchange p ρ → Exchange p π → (a b c : Schedule) → M.Renames π (graph M p a) (graph M p b) →
      M.Renames ρ (graph M p b) (graph M p c) → M.Renames (λ t. ρ (π t)) (graph M p a) (graph M p c)
  -- an exchange makes one graph of a graph
  pub renamed_once : (π : ℕ → ℕ) → Exchange p π → (a b c : Schedule) → M.Renames π (graph M p a) (graph M p b) →
      M.Renames π (graph M p a) (graph M p c) → graph M p b ≡ graph M p c
  -- ONE GRAPH, THE SAME STEPS: a full schedule with the graph of w is an order of w's steps in which dependent ones keep theirs
  pub same_graph : (v w : Schedule) → Full M p v → Full M p w → graph M p v ≡ graph M p w →
      OrderOf M.who M.dependent M.system.names (actions M p w) v
  -- a failed assertion stays failed
  pub stays_failed : (s : Schedule) (b : ℕ) → Runs M p s → M.system.enabled (end_of M p s) b ≡ true → failing M p s ≡ true →
      M.fails (M.system.step (end_of M p s) b) ≡ true

pub record Laws (M : Model) : Type 0 where
  pub steps : StepLaws M
  pub exchange : (π : ℕ → ℕ) → Permutation π → (σ τ : M.system.State) → M.Moves π σ τ → ExchangeLaws M π σ τ
  pub program : (p : Program) → Admitted M p → ProgramLaws M p
