-- What the graph at the end of a run says of an access on the way: a thread that has not ended takes a turn, until then its local state and history
-- wait, and the source of a read stands at its place in the reads of the end.
use Prim.Native.Nat.{ℕ, ◌<◌}
use mathlib.Core.Path.{◌≡◌, refl, sym, ap, ap₂, subst, ◌∙◌}
use mathlib.Core.Logic.{◌≢◌, ⊎_elim}
use mathlib.Core.Bool.{Bool, true, false, true≢false}
use mathlib.Core.List.Memᴰ
use mathlib.Core.List.{List, [], ◌∷◌, ◌++◌, Memᴰ}
use native.Mathlib.Omega.{arith}
use native.Mathlib.Decide.{ℕ_discrete}
use borrow.Author.Tests.{lt-ltb}
use lib.ListN.{length}
use Rattle.spec_schedules.specs.Order.{Schedule}
use Rattle.spec_schedules.specs.System.{run, ended, Allowed, FullFrom}
use Rattle.spec_schedules.proofs.Runs.{ended_none}
use Rattle.spec_sc.specs.Local.{Local, pending, place_of, takes, puts, next}
use Rattle.spec_sc.specs.State.{Event, History, Cell, noted}
use Rattle.spec_sc.proofs.Access.{blind_next, blind_puts}
use Rattle.spec_sc.proofs.Change.{added_read, noted_reads}
use Rattle.spec_sc.proofs.Reading.{before_end}
use Rattle.spec_tso.specs.Queue.{Entry, movable, is_empty, free}
use Rattle.spec_tso.specs.State.{Thread, State, thread_of, cell_of, locked, finds, target, thread_behind, place, step_of, able, kind_of, owner, byte_for, step, enabled, TSO, Kind, access, move}
use Rattle.spec_tso.proofs.Steps.{enabled_able, enabled_for, step_access, enabled_access, access_able, able_range, thread_own, thread_other}
use Rattle.spec_tso.proofs.Bytes.{owner_access}
use Rattle.spec_tso.proofs.Lawful.{lawful}
use Rattle.spec_tso.proofs.SameStep.{noted_blind}
use Rattle.spec_tso.proofs.Regular.{Regular, regular_step}
use Rattle.spec_tso.proofs.Growth.{run_row}

-- the same thread up to what is pending
abbrev pub Core : Thread → Thread → Type 0
Core h k = (h.local ≡ k.local) × (h.history ≡ k.history)

pub core_same : (h k : Thread) → h ≡ k → Core h k
core_same h k e = (ap (λ (x : Thread). x.local) e, ap (λ (x : Thread). x.history) e)

pub core_sym : (h k : Thread) → Core h k → Core k h
core_sym h k a = (sym a.0, sym a.1)

pub core_trans : (h k j : Thread) → Core h k → Core k j → Core h j
core_trans h k j a b = (a.0 ∙ b.0, a.1 ∙ b.1)

move_core : (t : ℕ) (h : Thread) (c : Cell) → Core (thread_behind move t h c) h
unfolding thread_behind
move_core t h c = (refl, refl)

-- only its own access changes it
pub step_of_core : (σ : State) (k : Kind) (t u : ℕ) → able k (thread_of σ t) (length σ.cells) ≡ true → (k ≡ access → u ≡ t → ⊥) → Core (thread_of (step_of σ k t) u) (thread_of σ u)
step_of_core σ k t u m ne = go (ℕ_discrete u t) k refl
  where
    go : Dec (u ≡ t) → (j : Kind) → k ≡ j → Core (thread_of (step_of σ k t) u) (thread_of σ u)
    go (no d) j e = core_same _ _ (thread_other σ k t u d)
    go (yes d) access e = absurd (ne e d)
    go (yes d) move e =
        subst (λ (x : ℕ). Core (thread_of (step_of σ k t) x) (thread_of σ x)) (sym d)
        (subst (λ (h : Thread). Core h (thread_of σ t)) (sym (thread_own σ k t (able_range σ k t (length σ.cells) m)))
        (subst (λ (j : Kind). Core (thread_behind j t (thread_of σ t) (cell_of σ (place σ k t))) (thread_of σ t)) (sym e) (move_core t (thread_of σ t) (cell_of σ (place σ k t)))))

pub step_core : (σ : State) (a t : ℕ) → enabled σ a ≡ true → a ≢ t → Core (thread_of (step σ a) t) (thread_of σ t)
unfolding step
step_core σ a t m ne = step_of_core σ (kind_of a) (owner a) t (enabled_able σ a m) (λ e q. ne (sym (q ∙ (owner_access a e).0)))

-- a thread that has not ended is not at the end
free_not : (b : Bool) (q : List Entry) → b ≡ false → free b q ≡ true
unfolding free
free_not b q e = rw e

free_nil : (b : Bool) (q : List Entry) → q ≡ [] → free b q ≡ true
unfolding free is_empty
free_nil true q e = rw e
free_nil false q e = refl

pub moves_cons : (p : List Entry) (x : Entry) (q : List Entry) (n : ℕ) → p ≡ x ∷ q → x.location < n → movable p n ≡ true
unfolding movable
moves_cons p x q n e h = rw e (lt-ltb x.location n h)

free_or_moves : (h : Thread) (n : ℕ) → pending h.local ≡ true → ((x : Entry) → Memᴰ x h.queue → x.location < n) → able access h n ≡ false → able move h n ≡ false → ⊥
unfolding able
free_or_moves h n p f a b = go (locked h.local) refl h.queue refl
  where
    go : (x : Bool) → locked h.local ≡ x → (q : List Entry) → h.queue ≡ q → ⊥
    go false e q i = true≢false (sym (access_able h n p (free_not (locked h.local) h.queue e)) ∙ a)
    go true e [] i = true≢false (sym (access_able h n p (free_nil (locked h.local) h.queue i)) ∙ a)
    go true e (x ∷ q) i = true≢false (sym (moves_cons h.queue x q n i (f x (subst (Memᴰ x) (sym i) (Memᴰ.head refl)))) ∙ b)

pub pending_goes_on : (σ : State) → Regular σ → (t : ℕ) → t < 6 → pending (thread_of σ t).local ≡ true → ended TSO σ ≡ true → ⊥
pending_goes_on σ r t h p e = free_or_moves (thread_of σ t) (length σ.cells) p (λ x m. omega (arith, r.places t x m, r.eight))
    (sym (enabled_for σ access t h) ∙ ended_none TSO lawful σ (byte_for access t) e) (sym (enabled_for σ move t h) ∙ ended_none TSO lawful σ (byte_for move t) e)

-- the first access of a thread in a schedule; until then it waits
pub record FirstAccess (σ : State) (w : Schedule) (t : ℕ) : Type 0 where
  pub front : Schedule
  pub rest : Schedule
  pub split : w ≡ front ++ (t ∷ rest)
  pub not_yet : Memᴰ t front → ⊥
  pub waits : Core (thread_of (run TSO σ front) t) (thread_of σ t)

pub first_access : (w : Schedule) (σ : State) (t : ℕ) → Regular σ → t < 6 → FullFrom TSO σ w → pending (thread_of σ t).local ≡ true → FirstAccess σ w t
unfolding run
first_access [] σ t r h f e = absurd (pending_goes_on σ r t h e f)
first_access (a ∷ w) σ t r h f e = go (ℕ_discrete t a) (λ ne. first_access w (step σ a) t (regular_step σ a r f.0) h f.1 (ap pending (step_core σ a t f.0 (λ q. ne (sym q))).0 ∙ e))
  where
    go : Dec (t ≡ a) → ((t ≢ a) → FirstAccess (step σ a) w t) → FirstAccess σ (a ∷ w) t
    go (yes q) ih = record { front = []; rest = w; split = ap (λ (x : ℕ). x ∷ w) (sym q); not_yet = λ m. Memᴰ.not-nil m; waits = (refl, refl) }
    go (no q) ih =
        let r = ih q in record {
          front = a ∷ r.front;
          rest = r.rest;
          split = ap {B = List ℕ} (λ k. a ∷ k) r.split;
          not_yet = λ m. ⊎_elim (λ (i : t ≡ a). q i) (λ (k : Memᴰ t r.front). r.not_yet k) (Memᴰ.cases_cons m);
          waits = core_trans (thread_of (run TSO (step σ a) r.front) t) (thread_of (step σ a) t) (thread_of σ t) r.waits (step_core σ a t f.0 (λ i. q (sym i)));
        }

-- the source that a thread's next access would read from
abbrev pub source : State → ℕ → Event
source σ t = (finds t (thread_of σ t) (cell_of σ (place σ access t))).source

pub same_place : (τ ρ : State) (t : ℕ) → Core (thread_of τ t) (thread_of ρ t) → place τ access t ≡ place ρ access t
unfolding place target
same_place τ ρ t q = ap place_of q.0

-- a read's source stands at its place in the reads of the end
added_true : (b : Bool) (i : ℕ) (e : Event) → b ≡ true → added_read b i e ≡ (i, e) ∷ []
unfolding added_read
added_true true i e q = refl
added_true false i e q = absurd (true≢false (sym q))

own_read : (t : ℕ) (h : Thread) (c : Cell) → takes h.local ≡ true → (thread_behind access t h c).history.reads ≡ (h.history.done, (finds t h c).source) ∷ h.history.reads
unfolding thread_behind
own_read t h c e = noted_reads (takes h.local) (finds t h c).source h.history ∙ ap (λ (x : List (ℕ × Event)). x ++ h.history.reads) (added_true (takes h.local) h.history.done (finds t h c).source e)

source_at : (τ : State) (t : ℕ) (y : Schedule) → t < 6 → Allowed TSO τ (t ∷ y) → takes (thread_of τ t).local ≡ true →
    (new : List (ℕ × Event)) × ((thread_of (run TSO τ (t ∷ y)) t).history.reads ≡ new ++ (((thread_of τ t).history.done, source τ t) ∷ (thread_of τ t).history.reads))
unfolding run
source_at τ t y h v e =
    let g = run_row y (step τ t) v.1 t in
    let m = sym (enabled_access τ t h) ∙ v.0 in
    let s = step_access τ t (omega arith) in (
      g.0,
      g.1 ∙ ap (λ (k : List (ℕ × Event)). g.0 ++ k)
          (ap (λ (x : State). (thread_of x t).history.reads) s ∙ ap (λ (x : Thread). x.history.reads) (thread_own τ access t (able_range τ access t (length τ.cells) m)) ∙ own_read t (thread_of τ t) (cell_of τ (place τ access t)) e),
    )

-- where two runs come to one thread's state, and end with the same reads of it, its next access has the same source in both
pub same_source_lem : (τ ρ : State) (t : ℕ) (y x : Schedule) → t < 6 → Allowed TSO τ (t ∷ y) → Allowed TSO ρ (t ∷ x) → Core (thread_of τ t) (thread_of ρ t) → takes (thread_of ρ t).local ≡ true →
    (thread_of (run TSO τ (t ∷ y)) t).history.reads ≡ (thread_of (run TSO ρ (t ∷ x)) t).history.reads → source τ t ≡ source ρ t
same_source_lem τ ρ t y x h v w q e r =
    let a = source_at τ t y h v (ap takes q.0 ∙ e) in
    let c = source_at ρ t x h w e in
    let k = before_end a.0 c.0 ((thread_of τ t).history.done, source τ t) ((thread_of ρ t).history.done, source ρ t) (thread_of ρ t).history.reads
    (ap (λ (i : History). a.0 ++ (((thread_of τ t).history.done, source τ t) ∷ i.reads)) (sym q.1) ∙ sym a.1 ∙ r ∙ c.1) in
    ap (λ (z : ℕ × Event). z.1) k

-- a thread that finds the same does the same; one that does not read does so in any case
pub same_finding : (t : ℕ) (h k : Thread) (c d : Cell) → Core h k → pending k.local ≡ true → (takes k.local ≡ true → ((finds t h c).value ≡ (finds t k d).value) × ((finds t h c).source ≡ (finds t k d).source)) →
    Core (thread_behind access t h c) (thread_behind access t k d) × (puts h.local (finds t h c).value ≡ puts k.local (finds t k d).value)
unfolding thread_behind
same_finding t h k c d q p f = go (takes k.local) refl
  where
    hi : (b : Bool) (s : Event) → noted (takes h.local) s h.history ≡ noted (takes k.local) s k.history
    hi b s = ap₂ (λ (l : Local) (i : History). noted (takes l) s i) q.0 q.1

    go : (b : Bool) → takes k.local ≡ b → Core (thread_behind access t h c) (thread_behind access t k d) × (puts h.local (finds t h c).value ≡ puts k.local (finds t k d).value)
    go true e =
        let r = f e in
        ((ap₂ next q.0 r.0, hi true (finds t h c).source ∙ ap (λ (s : Event). noted (takes k.local) s k.history) r.1), ap₂ puts q.0 r.0)
    go false e =
        let o = blind_puts k.local (finds t h c).value (finds t k d).value p e in (
          (
            ap (λ (l : Local). next l (finds t h c).value) q.0 ∙ blind_next k.local (finds t h c).value (finds t k d).value p e,
            hi true (finds t h c).source ∙ noted_blind (takes k.local) (finds t h c).source (finds t k d).source k.history e,
          ),
          ap (λ (l : Local). puts l (finds t h c).value) q.0 ∙ o.1 ∙ sym o.2,
        )
