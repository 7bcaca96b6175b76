-- Values under total store order are 32-bit: in registers, in memory and pending.
use Prim.Native.Nat.{ℕ}
use native.Mathlib.Omega.{arith}
use mathlib.Core.Path.{◌≡◌, refl, sym, subst, ap}
use mathlib.Core.Bool.{Bool, true, false}
use mathlib.Core.List.{List, [], ◌∷◌, ◌++◌, map}
use mathlib.Core.Option.{Option, none, some}
use lib.ListN.{get_or, set, get_or-map}
use lib.Dec.{eqb}
use Rattle.spec_file.specs.Program.{Program, initial}
use Rattle.spec_file.specs.WellFormed.{WellFormed, Everywhere}
use Rattle.spec_file.proofs.Everywhere.{everywhere_append}
use Rattle.spec_sc.specs.Local.{Local, place_of, puts, next}
use Rattle.spec_sc.specs.State as SC
use Rattle.spec_sc.specs.State.{Event, Cell, fresh_cell, written}
use Rattle.spec_sc.proofs.Words.{Word, Words, next_words, puts_word, start_words, initial_word}
use Rattle.spec_tso.specs.Queue.{Entry, newest, found_in, queued, at_once, oldest_value, newer}
use Rattle.spec_tso.specs.State.{Thread, State, idle, drained, start, no_thread, thread_of, cell_of, locked, finds, Kind, access, move, reaches, thread_behind, cell_behind, place, step_of}
use Rattle.spec_add_zero.proofs.Steps.{set_keeps}

abbrev pub Pending : List Entry → Type 0
Pending q = Everywhere (λ (e : Entry). Word e.value) q

-- a thread's registers and pending stores
abbrev pub Own : Thread → Type 0
Own h = Words h.local × Pending h.queue

pub record Fine (σ : State) : Type 0 where
  pub threads : (t : ℕ) → Own (thread_of σ t)
  pub cells : (l : ℕ) → Word (cell_of σ l).value

-- ---- what an access finds
abbrev WordIn : Option Entry → Type 0
WordIn none = Unit {0}
WordIn (some e) = Word e.value

newest_word : (q : List Entry) (l : ℕ) → Pending q → WordIn (newest q l)
unfolding newest
newest_word [] l h = tt
newest_word (f ∷ q) l h = go (newest q l) (newest_word q l h.1)
  where
    own : (b : Bool) → WordIn (elim b [ true ↦ some f | false ↦ none ])
    own true = h.0
    own false = tt

    go : (o : Option Entry) → WordIn o → WordIn (elim o [ some g ↦ some g | none ↦ elim (eqb f.location l) [ true ↦ some f | false ↦ none ] ])
    go none w = own (eqb f.location l)
    go (some g) w = w

pub finds_word : (t : ℕ) (h : Thread) (c : Cell) → Own h → Word c.value → Word (finds t h c).value
unfolding finds found_in
finds_word t h c o w = go (newest h.queue (place_of h.local)) (newest_word h.queue (place_of h.local) o.1)
  where
    go : (o : Option Entry) → WordIn o → Word (found_in t o c).value
    go none v = w
    go (some e) v = v

-- ---- a step
queued_word : (b : Bool) (i l : ℕ) (o : Option ℕ) → ((v : ℕ) → o ≡ some v → Word v) → Pending (queued b i l o)
unfolding queued
queued_word b i l none h = tt
queued_word true i l (some v) h = tt
queued_word false i l (some v) h = (h v refl, tt)

newer_word : (q : List Entry) → Pending q → Pending (newer q)
unfolding newer
newer_word [] h = tt
newer_word (e ∷ q) h = h.1

own_step : (k : Kind) (t : ℕ) (h : Thread) (c : Cell) → Own h → Word c.value → Own (thread_behind k t h c)
unfolding thread_behind
own_step access t h c o w =
    let x = (finds t h c).value in
    let v = finds_word t h c o w in (
      next_words h.local x o.0 v,
      everywhere_append (λ (e : Entry). Word e.value) h.queue (queued (locked h.local) h.history.done (place_of h.local) (puts h.local x)) o.1
          (queued_word (locked h.local) h.history.done (place_of h.local) (puts h.local x) (λ y e. puts_word h.local x y o.0 e)),
    )
own_step move t h c o w = (o.0, newer_word h.queue o.1)

written_word : (e : Event) (o : Option ℕ) (c : Cell) → Word c.value → ((v : ℕ) → o ≡ some v → Word v) → Word (written e o c).value
unfolding written
written_word e none c w h = w
written_word e (some v) c w h = h v refl

reaches_word : (k : Kind) (t : ℕ) (h : Thread) (c : Cell) → Own h → (v : ℕ) → reaches k t h c ≡ some v → Word v
unfolding reaches at_once oldest_value
reaches_word access t h c o v e = go (locked h.local) e
  where
    go : (b : Bool) → at_once b (puts h.local (finds t h c).value) ≡ some v → Word v
    go true i = puts_word h.local (finds t h c).value v o.0 i
    go false i = absurd (let z : ◌≡◌ {A = ℕ} 0 1 = cc in omega (arith, z))
reaches_word move t h c o v e = go h.queue o.1 e
  where
    go : (q : List Entry) → Pending q → oldest_value q ≡ some v → Word v
    go [] p i = absurd (let z : ◌≡◌ {A = ℕ} 0 1 = cc in omega (arith, z))
    go (x ∷ q) p i = let same : x.value ≡ v = cc in subst Word same p.0

pub fine_step : (σ : State) (k : Kind) (t : ℕ) → Fine σ → Fine (step_of σ k t)
unfolding step_of cell_behind thread_of cell_of
fine_step σ k t f =
    let h : Thread = thread_of σ t in
    let c : Cell = cell_of σ (place σ k t) in
    record {
      threads = λ u. set_keeps Own σ.threads t u (thread_behind k t h c) no_thread (f.threads u) (own_step k t h c (f.threads t) (f.cells (place σ k t)));
      cells = λ l. set_keeps (λ (d : Cell). Word d.value) σ.cells (place σ k t) l (cell_behind k t h c) (fresh_cell 0) (f.cells l)
          (written_word _ (reaches k t h c) c (f.cells (place σ k t)) (reaches_word k t h c (f.threads t)));
    }

-- ---- the start
pub fine_start : (p : Program) → WellFormed p → Fine (start p)
unfolding start drained thread_of cell_of no_thread idle fresh_cell SC.start SC.thread_of
fine_start p wf = record {
  threads = λ t. subst Own (sym (get_or-map idle (SC.start p).threads t SC.no_thread)) (start_words p wf t, tt);
  cells = λ l. subst (λ (c : Cell). Word c.value) (sym (get_or-map fresh_cell (initial p) l 0)) (initial_word p wf l);
}
