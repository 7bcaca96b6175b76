-- Along a run of total store order no write stands twice, neither at one location nor at two.
use Prim.Native.Nat.{ℕ}
use mathlib.Core.Path.{◌≡◌, refl, sym, ap, subst, ◌∙◌}
use mathlib.Core.Logic.{◌⊎◌, inl, inr, ⊎_elim}
use mathlib.Core.Bool.{true}
use mathlib.Core.List.Memᴰ
use mathlib.Core.List.{[], ◌∷◌, Memᴰ}
use lib.ListN.{length}
use Rattle.spec_file.specs.Program.{Program}
use Rattle.spec_file.specs.WellFormed.{WellFormed}
use Rattle.spec_schedules.specs.Order.{Schedule}
use Rattle.spec_schedules.specs.System.{run, Allowed}
use Rattle.spec_schedules.specs.Lists.{Distinct}
use Rattle.spec_sc.specs.State as SC
use Rattle.spec_sc.specs.State.{Event, Cell}
use Rattle.spec_sc.proofs.Start.{start_writes}
use Rattle.spec_tso.specs.State.{State, Kind, thread_of, cell_of, number_of, place, step_of, able, kind_of, owner, step, start, TSO}
use Rattle.spec_tso.proofs.Steps.{enabled_able}
use Rattle.spec_tso.proofs.Seen.{drained_cell}
use Rattle.spec_tso.proofs.Change.{Change, kept, wrote}
use Rattle.spec_tso.proofs.StoreOrder.{put_new}
use Rattle.spec_tso.proofs.Regular.{Regular, changes, regular_start, regular_step}

pub record Separate (σ : State) : Type 0 where
  pub once : (l : ℕ) → Distinct (cell_of σ l).writes
  pub apart : (l k : ℕ) (e : Event) → Memᴰ e (cell_of σ l).writes → Memᴰ e (cell_of σ k).writes → l ≡ k

module _ (σ : State) (k : Kind) (t : ℕ) (R : Regular σ) (m : able k (thread_of σ t) (length σ.cells) ≡ true) (S : Separate σ) where
  abbrev new : Event
  new = (t, number_of k (thread_of σ t))

  -- a write behind the step stood at this location before, or it is the step's own and this is its location
  abbrev Stood : ℕ → Event → Type 0
  Stood l e = Memᴰ e (cell_of σ l).writes ⊎ ((e ≡ new) × (l ≡ place σ k t))

  stood : (l : ℕ) (e : Event) → Change σ k t l → Memᴰ e (cell_of (step_of σ k t) l).writes → Stood l e
  stood l e (kept q) i = inl (subst (λ (c : Cell). Memᴰ e c.writes) q i)
  stood l e (wrote q v o w y) i =
      ⊎_elim (λ (j : e ≡ new). inr (j, q)) (λ (j : Memᴰ e (cell_of σ l).writes). inl j) (Memᴰ.cases_cons (subst (Memᴰ e) w i))

  -- the step's own write is new
  fresh : (l : ℕ) (e : Event) → e ≡ new → Memᴰ e (cell_of σ l).writes → ⊥
  fresh l e q i = put_new σ k t (R.stores t) m l (subst (λ (x : Event). Memᴰ x (cell_of σ l).writes) q i)

  both : (l j : ℕ) (e : Event) → Stood l e → Stood j e → l ≡ j
  both l j e (inl a) (inl b) = S.apart l j e a b
  both l j e (inl a) (inr b) = absurd (fresh l e b.0 a)
  both l j e (inr a) (inl b) = absurd (fresh j e a.0 b)
  both l j e (inr a) (inr b) = a.1 ∙ sym b.1

  distinct : (l : ℕ) → Change σ k t l → Distinct (cell_of (step_of σ k t) l).writes
  distinct l (kept q) = subst (λ (c : Cell). Distinct c.writes) (sym q) (S.once l)
  distinct l (wrote q v o w y) = subst Distinct (sym w) (fresh l new refl, S.once l)

  separate_step : Separate (step_of σ k t)
  separate_step = record {
    once = λ l. distinct l (changes σ R k t m l);
    apart = λ l j e a b. both l j e (stood l e (changes σ R k t m l) a) (stood j e (changes σ R k t m j) b);
  }

separate_run : (z : Schedule) (σ : State) → Regular σ → Allowed TSO σ z → Separate σ → Separate (run TSO σ z)
unfolding run step
separate_run [] σ R a S = S
separate_run (b ∷ z) σ R a S =
    separate_run z (step σ b) (regular_step σ b R a.0) a.1 (separate_step σ (kind_of b) (owner b) R (enabled_able σ b a.0) S)

-- before the first step there are no writes
unwritten : (p : Program) (l : ℕ) → (cell_of (start p) l).writes ≡ []
unfolding start
unwritten p l = ap (λ (c : Cell). c.writes) (drained_cell (SC.start p) l) ∙ start_writes p l

pub separate : (p : Program) → WellFormed p → (s : Schedule) → Allowed TSO (start p) s → Separate (run TSO (start p) s)
separate p w s a = separate_run s (start p) (regular_start p w) a (record {
  once = λ l. subst Distinct (sym (unwritten p l)) tt;
  apart = λ l k e i j. absurd (Memᴰ.not-nil (subst (Memᴰ e) (unwritten p l) i));
})
