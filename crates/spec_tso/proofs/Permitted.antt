-- A permitted permutation relates a program's start to itself: it does so under sequential consistency, and nothing is pending yet.
use Prim.Native.Nat.{ℕ}
use mathlib.Core.Path.{◌≡◌, refl, sym, ap, ◌∙◌}
use native.Mathlib.Omega.{arith}
use Rattle.spec_file.specs.Program.{Program}
use Rattle.spec_file.specs.WellFormed.{WellFormed}
use Rattle.spec_sc.specs.State as SC
use Rattle.spec_sc.specs.Exchange as SCExchange
use Rattle.spec_model.specs.Exchange.{Permitted}
use Rattle.spec_sc.proofs.Permitted as SCPermitted
use Rattle.spec_tso.specs.State.{idle, drained, start}
use Rattle.spec_tso.specs.Exchange.{moved_thread, Moves}
use Rattle.spec_tso.proofs.Seen.{drained_thread, drained_count}

moved_idle : (π : ℕ → ℕ) (h : SC.Thread) → idle (SCExchange.moved_thread π h) ≡ moved_thread π (idle h)
unfolding idle moved_thread SCExchange.moved_thread
moved_idle π h = refl

drained_moves : (π : ℕ → ℕ) (σ τ : SC.State) → SCExchange.Moves π σ τ → Moves π (drained σ) (drained τ)
unfolding drained
drained_moves π σ τ m = record {
  threads = λ t. drained_thread τ (π t) ∙ ap idle (m.threads t) ∙ moved_idle π (SC.thread_of σ t) ∙ ap (moved_thread π) (sym (drained_thread σ t));
  cells = m.cells;
  within = λ t h. let a = drained_count σ in let b = drained_count τ in let c = m.within t (omega arith) in omega arith;
}

pub moves_start : (p : Program) → WellFormed p → (π : ℕ → ℕ) → Permitted p π → Moves π (start p) (start p)
unfolding start
moves_start p w π m = drained_moves π (SC.start p) (SC.start p) (SCPermitted.moves_start p w π m)
