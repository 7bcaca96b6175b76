-- A permitted permutation moves threads only within their `02` line, so between threads of equal code: it relates a program's start to
-- itself, and takes the program's full schedules to full schedules with exchanged graphs.
use Prim.Native.Nat.{ℕ, ◌<◌}
use mathlib.Core.Path.{◌≡◌, refl, sym, ap, subst, ◌∙◌}
use mathlib.Core.Logic.{◌⊎◌, inl, inr}
use mathlib.Core.List.{List, [], ◌∷◌, map}
use native.Mathlib.Omega.{arith}
use lib.ListN.{length}
use Rattle.spec_file.specs.Program.{Program, code_of, initial}
use Rattle.spec_file.specs.WellFormed.{WellFormed, Group}
use Rattle.spec_schedules.specs.Order.{Schedule}
use Rattle.spec_sc.specs.State.{Cell, no_thread, fresh_cell, thread_of, opened, start}
use Rattle.spec_sc.specs.Graph.{Full, end_of, graph}
use Rattle.spec_model.specs.Exchange.{Permutation, Together, Permitted}
use Rattle.spec_sc.specs.Exchange.{moved_reads, moved_writes, moved_thread, moved_cell, Moves, Renames}
use Rattle.spec_sc.proofs.ExchangeTerms.{moved_schedule}
use Rattle.spec_file.proofs.Everywhere.{everywhere_at}
use Rattle.spec_sc.proofs.Start.{start_threads, start_thread, start_cases, everyone}
use Rattle.spec_sc.proofs.Exchange.{moves_full, moves_graph}

-- at the start nothing has a source that could be renamed
start_fixed : (p : Program) (π : ℕ → ℕ) (t : ℕ) → thread_of (start p) t ≡ moved_thread π (thread_of (start p) t)
unfolding moved_thread moved_reads opened no_thread
start_fixed p π = start_cases p (λ c. Unit {0}) (λ h. h ≡ moved_thread π h) refl (λ c u. refl) (everyone p.threads)

cells_fixed : (π : ℕ → ℕ) (vs : List ℕ) → map fresh_cell vs ≡ map (moved_cell π) (map fresh_cell vs)
unfolding fresh_cell moved_cell moved_writes
cells_fixed π [] = refl
cells_fixed π (v ∷ vs) = ap (λ (k : List Cell). fresh_cell v ∷ k) (cells_fixed π vs)

start_cells_fixed : (p : Program) (π : ℕ → ℕ) → (start p).cells ≡ map (moved_cell π) (start p).cells
unfolding start
start_cells_fixed p π = cells_fixed π (initial p)

module _ (p : Program) (w : WellFormed p) (π : ℕ → ℕ) (m : Permitted p π) where
  -- a thread that moves exists, so does the one in whose place it comes, and both have one code
  moves_in : (t : ℕ) → Together p t (π t) → (t < length p.threads) × (π t < length p.threads) × (code_of p t ≡ code_of p (π t))
  moves_in t k =
      let g = everywhere_at (Group p) k.1 w.groups in (
        everywhere_at (λ u. u < length p.threads) k.2 g.exist,
        everywhere_at (λ u. u < length p.threads) k.3 g.exist,
        g.equal t (π t) k.2 k.3,
      )

  same_start : (t : ℕ) → thread_of (start p) (π t) ≡ thread_of (start p) t
  same_start t = go (m t)
    where
      go : (π t ≡ t) ⊎ Together p t (π t) → thread_of (start p) (π t) ≡ thread_of (start p) t
      go (inl e) = ap (thread_of (start p)) e
      go (inr k) = let r = moves_in t k in start_thread p (π t) r.1 ∙ ap opened (sym r.2) ∙ sym (start_thread p t r.0)

  stays_inside : (t : ℕ) → t < length p.threads → π t < length p.threads
  stays_inside t h = go (m t)
    where
      go : (π t ≡ t) ⊎ Together p t (π t) → π t < length p.threads
      go (inl e) = rw e h
      go (inr k) = (moves_in t k).1

  pub moves_start : Moves π (start p) (start p)
  moves_start = record {
    threads = λ t. same_start t ∙ start_fixed p π t;
    cells = start_cells_fixed p π;
    within = λ t h. let a = start_threads p in let b = stays_inside t (omega arith) in omega arith;
  }

  -- THE EXCHANGE: a full schedule, exchanged, is full, and π turns its graph into the other's
  pub exchanged : Permutation π → (s : Schedule) → Full p s → Full p (moved_schedule π s) × Moves π (end_of p s) (end_of p (moved_schedule π s))
  exchanged q s f = moves_full π q s (start p) (start p) moves_start f

  pub exchanged_graph : Permutation π → (s : Schedule) → Full p s → Renames π (graph p s) (graph p (moved_schedule π s))
  exchanged_graph q s f = moves_graph π (end_of p s) (end_of p (moved_schedule π s)) (exchanged q s f).1
