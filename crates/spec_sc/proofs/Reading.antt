-- What the graph at the end of a run says of a step on the way: the thread takes a turn as long as it has not ended, and the source of a
-- read stands at its place in the reads of the end.
use Prim.Native.Nat.{ℕ}
use mathlib.Core.Path.{◌≡◌, refl, sym, ap, ap₂, ◌∙◌}
use mathlib.Core.Logic.{◌≢◌, ⊎_elim}
use mathlib.Core.Bool.{Bool, true, false, true≢false}
use mathlib.Core.List.Memᴰ
use mathlib.Core.List.{List, [], ◌∷◌, ◌++◌, append_assoc, append_cancel_right, Memᴰ}
use native.Mathlib.Decide.{ℕ_discrete}
use Rattle.spec_schedules.specs.Order.{Schedule}
use Rattle.spec_schedules.specs.System.{run, Allowed, FullFrom}
use Rattle.spec_schedules.proofs.Runs.{ended_none}
use Rattle.spec_sc.specs.Local.{Local, pending, place_of, takes, puts, next}
use Rattle.spec_sc.specs.State.{Event, History, Thread, Cell, State, thread_of, cell_of, place, latest, noted, advanced, step, enabled, SC}
use Rattle.spec_sc.proofs.Access.{blind_next, blind_puts}
use Rattle.spec_sc.proofs.Steps.{enabled_range, enabled_other, thread_own, thread_other}
use Rattle.spec_sc.proofs.Change.{added_read, noted_reads}
use Rattle.spec_sc.proofs.Lawful.{lawful}
use Rattle.spec_sc.proofs.Histories.{run_row}

-- the element before a common end
last_or : {A : Type 0} → A → List A → A
last_or d [] = d
last_or d (x ∷ xs) = last_or x xs

last_of : {A : Type 0} (d : A) (a : List A) (x : A) → last_or d (a ++ (x ∷ [])) ≡ x
unfolding last_or
last_of d [] x = refl
last_of d (y ∷ a) x = last_of y a x

pub before_end : {A : Type 0} (a b : List A) (x y : A) (r : List A) → a ++ (x ∷ r) ≡ b ++ (y ∷ r) → x ≡ y
before_end a b x y r e =
    let k = append_cancel_right (a ++ (x ∷ [])) (b ++ (y ∷ [])) r (append_assoc a (x ∷ []) r ∙ e ∙ sym (append_assoc b (y ∷ []) r)) in
    sym (last_of x a x) ∙ ap (last_or x) k ∙ last_of x b y

-- the first turn of a thread in a schedule; until then it waits
pub record FirstStep (σ : State) (w : Schedule) (t : ℕ) : Type 0 where
  pub front : Schedule
  pub rest : Schedule
  pub split : w ≡ front ++ (t ∷ rest)
  pub not_yet : Memᴰ t front → ⊥
  pub waits : thread_of (run SC σ front) t ≡ thread_of σ t

-- a thread that may step takes a turn in every full schedule
pub first_step_of : (w : Schedule) (σ : State) (t : ℕ) → FullFrom SC σ w → enabled σ t ≡ true → FirstStep σ w t
unfolding run
first_step_of [] σ t f e = absurd (true≢false (sym e ∙ ended_none SC lawful σ t f))
first_step_of (a ∷ w) σ t f e = go (ℕ_discrete t a) (λ ne. first_step_of w (step σ a) t f.1 (enabled_other σ a t ne ∙ e))
  where
    go : Dec (t ≡ a) → ((t ≢ a) → FirstStep (step σ a) w t) → FirstStep σ (a ∷ w) t
    go (yes q) ih = record { front = []; rest = w; split = ap (λ (x : ℕ). x ∷ w) (sym q); not_yet = λ m. Memᴰ.not-nil m; waits = refl }
    go (no q) ih =
        let r = ih q in record {
          front = a ∷ r.front;
          rest = r.rest;
          split = ap {B = List ℕ} (λ k. a ∷ k) r.split;
          not_yet = λ m. ⊎_elim (λ (i : t ≡ a). q i) (λ (k : Memᴰ t r.front). r.not_yet k) (Memᴰ.cases_cons m);
          waits = r.waits ∙ thread_other σ a t q;
        }

pub same_place : (τ ρ : State) (b : ℕ) → thread_of τ b ≡ thread_of ρ b → place τ b ≡ place ρ b
unfolding place
same_place τ ρ b q = ap (λ (h : Thread). place_of h.local) q

-- the source that a thread's next access would read from
abbrev pub source : State → ℕ → Event
source σ t = latest (cell_of σ (place σ t)).writes

-- a read's source stands at its place in the reads of the end
added_true : (b : Bool) (i : ℕ) (e : Event) → b ≡ true → added_read b i e ≡ (i, e) ∷ []
unfolding added_read
added_true true i e q = refl
added_true false i e q = absurd (true≢false (sym q))

pub source_at : (τ : State) (b : ℕ) (y : Schedule) → Allowed SC τ (b ∷ y) → takes (thread_of τ b).local ≡ true →
    (new : List (ℕ × Event)) × ((thread_of (run SC τ (b ∷ y)) b).history.reads ≡ new ++ (((thread_of τ b).history.done, source τ b) ∷ (thread_of τ b).history.reads))
unfolding run advanced
source_at τ b y v e =
    let g = run_row y (step τ b) v.1 b in
    let h = (thread_of τ b).history in (
      g.0,
      g.1 ∙ ap (λ (k : List (ℕ × Event)). g.0 ++ k)
          (ap (λ (x : Thread). x.history.reads) (thread_own τ b (enabled_range τ b v.0)) ∙ noted_reads (takes (thread_of τ b).local) (source τ b) h ∙ ap (λ (x : List (ℕ × Event)). x ++ h.reads) (added_true (takes (thread_of τ b).local) h.done (source τ b) e)),
    )

-- where two runs come to one thread's state, and end with the same reads of it, its next access has the same source in both
pub same_source_lem : (τ ρ : State) (b : ℕ) (y x : Schedule) → Allowed SC τ (b ∷ y) → Allowed SC ρ (b ∷ x) → thread_of τ b ≡ thread_of ρ b → takes (thread_of ρ b).local ≡ true →
    (thread_of (run SC τ (b ∷ y)) b).history.reads ≡ (thread_of (run SC ρ (b ∷ x)) b).history.reads → source τ b ≡ source ρ b
same_source_lem τ ρ b y x v w q e r =
    let a = source_at τ b y v (ap (λ (h : Thread). takes h.local) q ∙ e) in
    let c = source_at ρ b x w e in
    let k = before_end a.0 c.0 ((thread_of τ b).history.done, source τ b) ((thread_of ρ b).history.done, source ρ b) (thread_of ρ b).history.reads
    (ap (λ (h : Thread). a.0 ++ (((thread_of τ b).history.done, source τ b) ∷ h.history.reads)) (sym q) ∙ sym a.1 ∙ r ∙ c.1) in
    ap (λ (z : ℕ × Event). z.1) k

noted_blind : (b : Bool) (d e : Event) (h : History) → b ≡ false → noted b d h ≡ noted b e h
unfolding noted
noted_blind true d e h q = absurd (true≢false q)
noted_blind false d e h q = refl

abbrev built : Thread → ℕ → Event → Thread
built h x s = record { local = next h.local x; history = noted (takes h.local) s h.history }

-- a thread that finds the same does the same; one that does not read does so in any case
pub same_finding : (h : Thread) (c d : Cell) → pending h.local ≡ true → (takes h.local ≡ true → (c.value ≡ d.value) × (latest c.writes ≡ latest d.writes)) →
    (advanced h c ≡ advanced h d) × (puts h.local c.value ≡ puts h.local d.value)
unfolding advanced
same_finding h c d p f = go (takes h.local) refl
  where
    go : (b : Bool) → takes h.local ≡ b → (built h c.value (latest c.writes) ≡ built h d.value (latest d.writes)) × (puts h.local c.value ≡ puts h.local d.value)
    go true e = let k = f e in (ap₂ (built h) k.0 k.1, ap (puts h.local) k.0)
    go false e =
        let k = blind_puts h.local c.value d.value p e in (
          ap (λ (y : History). let z : Thread = record { local = next h.local c.value; history = y } in z) (noted_blind (takes h.local) (latest c.writes) (latest d.writes) h.history e)
              ∙ ap (λ (y : Local). let z : Thread = record { local = y; history = noted (takes h.local) (latest d.writes) h.history } in z) (blind_next h.local c.value d.value p e),
          k.1 ∙ sym k.2,
        )
