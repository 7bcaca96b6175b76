-- A fenced program is robust. So is one without a store, and one that only reads.
use Prim.Native.Nat.{ℕ, ◌≤◌}
use mathlib.Core.Path.{◌≡◌, refl, sym, subst}
use mathlib.Core.Bool.{true, false}
use mathlib.Core.List.{List}
use Rattle.spec_file.specs.Program.{Program}
use Rattle.spec_file.specs.WellFormed.{WellFormed}
use Rattle.spec_file.specs.Decode.{accepted, decode}
use Rattle.spec_file.proofs.Everywhere.{everywhere_weaken}
use Rattle.spec_model.specs.Model.{graph}
use Rattle.spec_model.specs.OnFile.{admit}
use Rattle.spec_model.proofs.Admitted.{listed_program}
use Rattle.spec_sc.specs.Local.{begin}
use Rattle.spec_sc.specs.State as SC
use Rattle.spec_sc.proofs.Start.{start_cases}
use Rattle.spec_sc.proofs.Regular.{regular_start}
use Rattle.spec_tso.specs.Queue.{is_empty}
use Rattle.spec_tso.specs.State.{idle, unqueued, start}
use Rattle.spec_tso.specs.TotalStoreOrder.{tso}
use Rattle.spec_tso.proofs.Laws.{tso_laws}
use Rattle.spec_tso.proofs.Seen.{drained_thread, drained_cells, drained_count}
use Rattle.spec_across.specs.Robust.{Robust}
use Rattle.spec_across.specs.RobustCall.{Robustness, robust, holding}
use Rattle.spec_across.proofs.Robust.{consistent_graphs}
use Rattle.spec_fenced.specs.Fenced.{fenced, storeless, only_reads, Fenced, Storeless, OnlyReads}
use Rattle.spec_fenced.proofs.Codes.{settle_fenced, storeless_fenced, reads_storeless}
use Rattle.spec_fenced.proofs.Lagging.{Near}
use Rattle.spec_fenced.proofs.Following.{Follows, followed}

-- a thread with nothing pending lags by nothing
near_idle : (g : SC.Thread) → fenced 0 false g.local.rest ≡ true → Near g (idle g)
unfolding idle unqueued is_empty
near_idle g f = record { lags = refl; fences = f }

starts_fenced : (p : Program) → Fenced p → (t : ℕ) → fenced 0 false (SC.thread_of (SC.start p) t).local.rest ≡ true
unfolding SC.opened SC.no_thread begin fenced
starts_fenced p f = start_cases p (λ c. fenced 0 false c ≡ true) (λ h. fenced 0 false h.local.rest ≡ true) refl (λ c q. settle_fenced c 0 _ false q) f

pub follows_start : (p : Program) → Fenced p → Follows (start p) (SC.start p)
unfolding start
follows_start p f = record {
  threads = drained_count (SC.start p);
  cells = drained_cells (SC.start p);
  near = λ t. subst (Near (SC.thread_of (SC.start p) t)) (sym (drained_thread (SC.start p) t)) (near_idle (SC.thread_of (SC.start p) t) (starts_fenced p f t));
}

-- A FENCED PROGRAM IS ROBUST, also where 41 turns it away from the list
pub fenced_robust : (p : Program) → WellFormed p → Fenced p → Robust p
fenced_robust p w f s e =
    let z = followed s (start p) (SC.start p) (follows_start p f) (regular_start p w) e in
    (consistent_graphs p w (graph tso p s)).1 (z.0, z.1, z.2)

-- the call answers robust on a file of a fenced program, where nothing refuses it
pub fenced_answered : (file : List ℕ) (room : ℕ) (p : Program) → admit tso (decode file) ≡ accepted p → 48 ≤ room → Fenced p → Robustness file room robust
fenced_answered file room p e h f = holding p e h (fenced_robust p (listed_program tso tso_laws file p e).0 f)

-- A PROGRAM WITHOUT A STORE IS ROBUST
pub storeless_is_fenced : (p : Program) → Storeless p → Fenced p
storeless_is_fenced p n = everywhere_weaken (λ c. storeless c ≡ true) (λ c. fenced 0 false c ≡ true) (λ c. storeless_fenced c 0) p.threads n

pub storeless_robust : (p : Program) → WellFormed p → Storeless p → Robust p
storeless_robust p w n = fenced_robust p w (storeless_is_fenced p n)

-- A PROGRAM WHOSE THREADS EACH ONLY READ IS ROBUST
pub only_reads_robust : (p : Program) → WellFormed p → OnlyReads p → Robust p
only_reads_robust p w n = storeless_robust p w (everywhere_weaken (λ c. only_reads c ≡ true) (λ c. storeless c ≡ true) reads_storeless p.threads n)
