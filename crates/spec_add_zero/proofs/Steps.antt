-- The machine with events, for any account of what is written that leaves the right values, goes as the machine of values does.
use Prim.Native.Nat.{ℕ, zero, suc}
use mathlib.Core.Path.{◌≡◌, refl, sym, ap, ap₂, subst, ◌∙◌}
use mathlib.Core.Bool.{Bool, true, false}
use mathlib.Core.List.{List, [], ◌∷◌, map}
use mathlib.Core.Option.{Option, none, some}
use lib.Dec.{ltb}
use lib.ListN.{get_or, set, get_or-map}
use Rattle.spec_schedules.specs.Order.{Schedule}
use Rattle.spec_schedules.specs.System.{run, none_enabled, ended, FullFrom}
use Rattle.spec_sc.specs.Local.{Local, pending, place_of, next}
use Rattle.spec_sc.specs.State.{Event, Thread, Cell, State, no_thread, fresh_cell, thread_of, cell_of, place, advanced, written, enabled, value_of}
use Rattle.spec_sc.proofs.Words.{Word, Words, next_words}
use Rattle.spec_sc.proofs.Exchange.{map_set}
use Rattle.spec_add_zero.specs.Values.{leaves, Values, local_at, step_of, may_step, ByValues}
use Rattle.spec_add_zero.specs.Writing.{Writing, step_by, By, local_of, values_of}
use Rattle.spec_add_zero.proofs.Leaving.{left_by, Leaves, leaves_word}

-- ---- values are 32-bit
pub record Fine (v : Values) : Type 0 where
  pub threads : (t : ℕ) → Words (local_at v t)
  pub memory : (l : ℕ) → Word (get_or v.memory l 0)

pub set_keeps : {A : Type 0} (P : A → Type 0) (l : List A) (i k : ℕ) (a d : A) → P (get_or l k d) → P a → P (get_or (set l i a) k d)
set_keeps P [] i k a d h q = h
set_keeps P (x ∷ xs) zero zero a d h q = q
set_keeps P (x ∷ xs) zero (suc k) a d h q = h
set_keeps P (x ∷ xs) (suc i) zero a d h q = h
set_keeps P (x ∷ xs) (suc i) (suc k) a d h q = set_keeps P xs i k a d h q

fine_step : (v : Values) (t : ℕ) → Fine v → Fine (step_of v t)
unfolding step_of local_at
fine_step v t f =
    let h : Local = get_or v.threads t no_thread.local in
    let x : ℕ = get_or v.memory (place_of h) 0 in
    record {
      threads = λ u. set_keeps Words v.threads t u (next h x) no_thread.local (f.threads u) (next_words h x (f.threads t) (f.memory (place_of h)));
      memory = λ l. set_keeps Word v.memory (place_of h) l (leaves h x) 0 (f.memory l) (leaves_word h x (f.threads t) (f.memory (place_of h)));
    }

-- ---- a state by its values
pub local_same : (σ : State) (t : ℕ) → local_at (values_of σ) t ≡ (thread_of σ t).local
unfolding local_at values_of thread_of local_of
local_same σ t = get_or-map local_of σ.threads t no_thread

pub value_same : (σ : State) (l : ℕ) → get_or (values_of σ).memory l 0 ≡ (cell_of σ l).value
unfolding values_of cell_of value_of fresh_cell
value_same σ l = get_or-map value_of σ.cells l (fresh_cell 0)

written_value : (e : Event) (o : Option ℕ) (c : Cell) → value_of (written e o c) ≡ left_by c.value o
unfolding value_of written left_by
written_value e none c = refl
written_value e (some v) c = refl

-- the values of threads hs and a memory m
abbrev pub made : List Local → List ℕ → Values
made hs m = record { threads = hs; memory = m }

-- the values behind a thread h that found x
abbrev behind : Values → ℕ → Local → ℕ → Values
behind v t h x = made (set v.threads t (next h x)) (set v.memory (place_of h) (leaves h x))

behind_own : (σ : State) (t : ℕ) → step_of (values_of σ) t ≡ behind (values_of σ) t (thread_of σ t).local (cell_of σ (place σ t)).value
unfolding step_of place
behind_own σ t =
    ap (λ (h : Local). behind (values_of σ) t h (get_or (values_of σ).memory (place_of h) 0)) (local_same σ t)
    ∙ ap (λ (x : ℕ). behind (values_of σ) t (thread_of σ t).local x) (value_same σ (place_of (thread_of σ t).local))

module _ (w : Writing) (good : Leaves w) where
  pub step_same : (σ : State) (t : ℕ) → Fine (values_of σ) → values_of (step_by w σ t) ≡ step_of (values_of σ) t
  unfolding values_of step_by local_of value_of advanced place
  step_same σ t f =
      let h : Thread = thread_of σ t in
      let c : Cell = cell_of σ (place σ t) in
      let word : Word c.value = subst Word (value_same σ (place σ t)) (f.memory (place σ t)) in
      let threads : map local_of (set σ.threads t (advanced h c)) ≡ set (map local_of σ.threads) t (next h.local c.value) =
      sym (map_set local_of σ.threads t (advanced h c)) in
      let event : Event = (t, h.history.done) in
      let memory : map value_of (set σ.cells (place σ t) (written event (w h.local c.value) c)) ≡ set (map value_of σ.cells) (place σ t) (leaves h.local c.value) =
      sym (map_set value_of σ.cells (place σ t) (written event (w h.local c.value) c))
      ∙ ap (λ (x : ℕ). set (map value_of σ.cells) (place σ t) x) (written_value event (w h.local c.value) c ∙ good h.local c.value word) in
      ap₂ made threads memory ∙ sym (behind_own σ t)

  pub fine_same : (σ : State) (t : ℕ) → Fine (values_of σ) → Fine (values_of (step_by w σ t))
  fine_same σ t f = subst Fine (sym (step_same σ t f)) (fine_step (values_of σ) t f)

  pub run_same : (s : Schedule) (σ : State) → Fine (values_of σ) → values_of (run (By w) σ s) ≡ run ByValues (values_of σ) s
  unfolding run
  run_same [] σ f = refl
  run_same (t ∷ s) σ f = run_same s (step_by w σ t) (fine_same σ t f) ∙ ap (λ (v : Values). run ByValues v s) (step_same σ t f)

  -- ---- who may step
  may_same : (σ : State) (t : ℕ) → enabled σ t ≡ may_step (values_of σ) t
  unfolding enabled may_step
  may_same σ t = ap (λ (h : Local). elim (ltb t 6) [ true ↦ pending h | false ↦ false ]) (sym (local_same σ t))

  none_same : (σ : State) (ts : List ℕ) → none_enabled (By w) σ ts ≡ none_enabled ByValues (values_of σ) ts
  unfolding none_enabled
  none_same σ [] = refl
  none_same σ (t ∷ ts) =
      ap (λ (b : Bool). elim b [ true ↦ false | false ↦ none_enabled (By w) σ ts ]) (may_same σ t)
      ∙ ap (λ (r : Bool). elim (may_step (values_of σ) t) [ true ↦ false | false ↦ r ]) (none_same σ ts)

  ended_same : (σ : State) → ended (By w) σ ≡ ended ByValues (values_of σ)
  unfolding ended
  ended_same σ = none_same σ ByValues.names

  pub full_values : (s : Schedule) (σ : State) → Fine (values_of σ) → FullFrom (By w) σ s → FullFrom ByValues (values_of σ) s
  full_values [] σ f e = sym (ended_same σ) ∙ e
  full_values (t ∷ s) σ f e =
      (sym (may_same σ t) ∙ e.0, subst (λ (v : Values). FullFrom ByValues v s) (step_same σ t f) (full_values s (step_by w σ t) (fine_same σ t f) e.1))

  pub full_events : (s : Schedule) (σ : State) → Fine (values_of σ) → FullFrom ByValues (values_of σ) s → FullFrom (By w) σ s
  full_events [] σ f e = ended_same σ ∙ e
  full_events (t ∷ s) σ f e =
      (may_same σ t ∙ e.0, full_events s (step_by w σ t) (fine_same σ t f) (subst (λ (v : Values). FullFrom ByValues v s) (sym (step_same σ t f)) e.1))
