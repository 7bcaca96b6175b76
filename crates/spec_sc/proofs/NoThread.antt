-- A program without threads: the empty schedule is its one full schedule, it does not fail, and the text of its graph is empty.
use Prim.Native.Nat.{ℕ, suc}
use native.Mathlib.Omega.{arith}
use mathlib.Core.Path.{◌≡◌, refl, sym, ap, ◌∙◌}
use mathlib.Core.Bool.{true≢false}
use mathlib.Core.List.{List, [], ◌∷◌, map}
use lib.ListN.{length}
use Rattle.spec_file.specs.declared.instruction.Instruction.{Instruction}
use Rattle.spec_file.specs.Program.{Program, initial}
use Rattle.spec_schedules.specs.Lists.{any}
use Rattle.spec_schedules.specs.Order.{Schedule}
use Rattle.spec_schedules.specs.System.{run}
use Rattle.spec_sc.specs.State.{Thread, State, no_thread, fresh_cell, start, opened, failed_of, fails}
use Rattle.spec_sc.specs.Graph.{Full, Fails, reads_of, writes_of, graph_of, graph}
use Rattle.spec_sc.specs.Text.{read_frames, write_frame, write_frames, frames, text_of, graph_text}
use Rattle.spec_sc.proofs.Steps.{missing, enabled_range}
use Rattle.spec_sc.proofs.Start.{start_threads}
use Rattle.spec_sc.proofs.Ended.{all_ended}

-- a state of these threads before the first step
abbrev begun : Program → List (List Instruction) → State
begun p cs = record { threads = map opened cs; cells = map fresh_cell (initial p) }

-- a memory that nobody wrote has no frames, whatever it holds
unwritten_frames : (vs : List ℕ) (l : ℕ) → write_frames l (map writes_of (map fresh_cell vs)) ≡ []
unfolding fresh_cell writes_of write_frame write_frames
unwritten_frames [] l = refl
unwritten_frames (v ∷ vs) l = unwritten_frames vs (suc l)

module _ (p : Program) (none : p.threads ≡ []) where
  pub none_full : Full p []
  unfolding no_thread
  none_full = all_ended (start p) (λ t q. ap (λ (h : Thread). h.local.rest) (missing (start p) t (omega (arith, start_threads p, ap (λ (cs : List (List Instruction)). length cs) none))))

  pub none_only : (s : Schedule) → Full p s → s ≡ []
  none_only [] f = refl
  none_only (t ∷ s) f = absurd (omega (arith, enabled_range (start p) t f.0, start_threads p, ap (λ (cs : List (List Instruction)). length cs) none))

  pub none_passes : Fails p [] → ⊥
  unfolding run start fails any
  none_passes e = true≢false (sym e ∙ ap (λ (cs : List (List Instruction)). fails (begun p cs)) none)

  pub none_text : graph_text (graph p []) ≡ []
  unfolding run start reads_of graph_of read_frames frames text_of graph_text
  none_text = ap (λ (cs : List (List Instruction)). graph_text (graph_of (begun p cs))) none ∙ ap text_of (unwritten_frames (initial p) 0)
