-- Belongs to the machine, but for the names of this crate. In every state of a run the reads of a thread descend by number and no event
-- stands twice among the writes of a location.
use Prim.Native.Nat.{ℕ, ◌<◌}
use mathlib.Core.Path.{◌≡◌, sym, subst}
use mathlib.Core.Bool.{Bool, true, false}
use mathlib.Core.List.{[], ◌∷◌, Memᴰ}
use Rattle.spec_file.specs.Program.{Program}
use Rattle.spec_schedules.specs.Order.{Schedule}
use Rattle.spec_schedules.specs.System.{run, Allowed}
use Rattle.spec_sc.specs.Local.{takes}
use Rattle.spec_sc.specs.State.{Event, History, Cell, State, thread_of, cell_of, place, latest, noted, advanced, step, enabled, SC, start}
use Rattle.spec_sc.proofs.Steps.{enabled_range}
use Rattle.spec_sc.proofs.Change.{thread_cases, Change, kept, wrote}
use Rattle.spec_sc.proofs.Start.{start_writes, start_history}
use Rattle.spec_sc.proofs.Regular.{Regular, changes, regular_step}
use Rattle.spec_sc.proofs.Histories.{upcoming, upcoming_undone}
use Rattle.spec_judge.specs.Consistent.{Descends}
use Rattle.spec_schedules.specs.Lists.{Distinct}

pub record Sorted (σ : State) : Type 0 where
  pub ordered : (t : ℕ) → Descends (thread_of σ t).history.reads
  pub once : (l : ℕ) → Distinct (cell_of σ l).writes

pub sorted_start : (p : Program) → Sorted (start p)
sorted_start p = record { ordered = λ t. rw (start_history p t).1 tt; once = λ l. rw (start_writes p l) tt }

noted_descends : (b : Bool) (e : Event) (h : History) → ((r : ℕ × Event) → Memᴰ r h.reads → r.0 < h.done) → Descends h.reads → Descends (noted b e h).reads
unfolding noted
noted_descends true e h n d = (n, d)
noted_descends false e h n d = d

pub sorted_step : (σ : State) → Regular σ → (t : ℕ) → enabled σ t ≡ true → Sorted σ → Sorted (step σ t)
unfolding advanced
sorted_step σ r t m T = record {
  ordered = λ u. thread_cases (λ k h. Descends h.history.reads) σ t (enabled_range σ t m)
      (noted_descends (takes (thread_of σ t).local) (latest (cell_of σ (place σ t)).writes) (thread_of σ t).history (r.numbered t) (T.ordered t)) u (λ ne. T.ordered u);
  once = λ l. go l (changes σ r t l);
}
  where
    go : (l : ℕ) → Change σ t l → Distinct (cell_of (step σ t) l).writes
    go l (kept q) = subst (λ (c : Cell). Distinct c.writes) (sym q) (T.once l)
    go l (wrote q v e w y) = subst Distinct (sym w) ((λ k. upcoming_undone σ t (r.old l (upcoming σ t) k)), T.once l)

pub sorted_run : (z : Schedule) (σ : State) → Regular σ → Allowed SC σ z → Sorted σ → Sorted (run SC σ z)
unfolding run
sorted_run [] σ r a T = T
sorted_run (t ∷ z) σ r a T = sorted_run z (step σ t) (regular_step σ t r a.0) a.1 (sorted_step σ r t a.0 T)
