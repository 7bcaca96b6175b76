-- One value for each write of a run: what stands in a queue or in memory holds the value of its event. β l e is the value of e at location l; for
-- the initial write it is what the location started with.
use Prim.Native.Nat.{ℕ, ◌<◌}
use mathlib.Core.Path.{◌≡◌, refl, sym, ap, ap₂, subst, ◌∙◌}
use mathlib.Core.Logic.{◌≢◌, ◌⊎◌, inl, inr, ⊎_elim}
use mathlib.Core.Bool.{Bool, true, false, cond}
use mathlib.Core.Option.{Option, none, some}
use mathlib.Core.List.Memᴰ
use mathlib.Core.List.{List, [], ◌∷◌, Memᴰ}
use native.Mathlib.Omega.{arith}
use borrow.Author.Tests.{eqb-true}
use lib.Dec.{eqb}
use lib.ListN.{length}
use Rattle.spec_sc.specs.Local.{place_of, puts}
use Rattle.spec_sc.specs.State.{Event, initial_write, Cell, latest}
use Rattle.spec_tso.specs.Queue.{Entry, newest, found_in, queued, at_once, newer, oldest_number, oldest_place, oldest_value}
use Rattle.spec_tso.specs.State.{State, thread_of, cell_of, locked, finds, target, number_of, thread_behind, reaches, place, step_of, able, Kind, access, move}
use Rattle.spec_sc.specs.Same.{same_event}
use Rattle.spec_sc.proofs.Same.{same_event_is, is_same_event}
use Rattle.spec_sc.proofs.Regular.{latest_of}
use Rattle.spec_tso.proofs.Bytes.{move≢access}
use Rattle.spec_tso.proofs.Steps.{able_range, putting}
use Rattle.spec_tso.proofs.Change.{thread_cases, Change, kept, wrote}
use Rattle.spec_tso.proofs.StoreOrder.{StoresInOrder, within_le, within_in}

abbrev pub Values : Type 0
Values = ℕ → Event → ℕ

pub record Agrees (β : Values) (σ : State) : Type 0 where
  pub entries : (t : ℕ) (x : Entry) → Memᴰ x (thread_of σ t).queue → x.value ≡ β x.location (t, x.number)
  pub cells : (l : ℕ) → (cell_of σ l).value ≡ β l (latest (cell_of σ l).writes)

-- the newest entry is one of the queue, and goes to that location
pub newest_in : (q : List Entry) (l : ℕ) (x : Entry) → newest q l ≡ some x → Memᴰ x q × (x.location ≡ l)
unfolding newest
newest_in [] l x e = absurd (let z : ◌≡◌ {A = ℕ} 0 1 = cc in omega arith)
newest_in (y ∷ q) l x e = go (newest q l) refl (λ i. newest_in q l x i)
  where
    go : (o : Option Entry) → newest q l ≡ o → (newest q l ≡ some x → Memᴰ x q × (x.location ≡ l)) → Memᴰ x (y ∷ q) × (x.location ≡ l)
    go (some z) i ih = let r = ih (let k : newest (y ∷ q) l ≡ some z = rw (i, newest) in i ∙ sym k ∙ e) in (Memᴰ.tail r.0, r.1)
    go none i ih = here (eqb y.location l) refl
      where
        here : (b : Bool) → eqb y.location l ≡ b → Memᴰ x (y ∷ q) × (x.location ≡ l)
        here true p =
            let k : newest (y ∷ q) l ≡ some y = rw (i, newest, p) in
            let j : x ≡ y = let z : some y ≡ some x = sym k ∙ e in cc in
            (Memᴰ.head j, ap (λ (w : Entry). w.location) j ∙ eqb-true y.location l p)
        here false p = let k : newest (y ∷ q) l ≡ none = rw (i, newest, p) in absurd (let z : ◌≡◌ {A = ℕ} 0 1 = cc in omega arith)

-- WHAT AN ACCESS FINDS is the value of its source
pub finds_value : (β : Values) (σ : State) → Agrees β σ → (t : ℕ) → (finds t (thread_of σ t) (cell_of σ (place σ access t))).value ≡ β (place σ access t) (finds t (thread_of σ t) (cell_of σ (place σ access t))).source
unfolding finds found_in place target
finds_value β σ a t = go (newest (thread_of σ t).queue (place_of (thread_of σ t).local)) refl
  where
    c : Cell
    c = cell_of σ (place_of (thread_of σ t).local)

    go : (o : Option Entry) → newest (thread_of σ t).queue (place_of (thread_of σ t).local) ≡ o → (found_in t (newest (thread_of σ t).queue (place_of (thread_of σ t).local)) (cell_of σ (place_of (thread_of σ t).local))).value
        ≡ β (place_of (thread_of σ t).local) (found_in t (newest (thread_of σ t).queue (place_of (thread_of σ t).local)) (cell_of σ (place_of (thread_of σ t).local))).source
    go none e = rw e (a.cells (place_of (thread_of σ t).local))
    go (some x) e = let r = newest_in (thread_of σ t).queue (place_of (thread_of σ t).local) x e in rw e (a.entries t x r.0 ∙ ap (λ (l : ℕ). β l (t, x.number)) r.1)

-- what a step adds to its queue and to memory
pub newer_in : (q : List Entry) (x : Entry) → Memᴰ x (newer q) → Memᴰ x q
unfolding newer
newer_in [] x m = m
newer_in (y ∷ q) x m = Memᴰ.tail m

pub queued_in : (b : Bool) (i l : ℕ) (o : Option ℕ) (x : Entry) → Memᴰ x (queued b i l o) → (o ≡ some x.value) × (x.location ≡ l) × (x.number ≡ i)
unfolding queued
queued_in b i l none x m = absurd (Memᴰ.not-nil m)
queued_in true i l (some v) x m = absurd (Memᴰ.not-nil m)
queued_in false i l (some v) x m = ⊎_elim
    (λ (e : x ≡ (let y : Entry = record { number = i; location = l; value = v } in y)). (ap (λ (y : Entry). some y.value) (sym e), ap (λ (y : Entry). y.location) e, ap (λ (y : Entry). y.number) e))
    (λ (e : Memᴰ x []). absurd (Memᴰ.not-nil e)) (Memᴰ.cases_cons m)

at_once_some : (b : Bool) (o : Option ℕ) (v : ℕ) → at_once b o ≡ some v → o ≡ some v
unfolding at_once
at_once_some true o v e = e
at_once_some false o v e = absurd (let z : ◌≡◌ {A = ℕ} 0 1 = cc in omega arith)

oldest_in : (q : List Entry) (v : ℕ) → oldest_value q ≡ some v → (x : Entry) × Memᴰ x q × (x.value ≡ v) × (x.location ≡ oldest_place q) × (x.number ≡ oldest_number q)
unfolding oldest_value oldest_place oldest_number
oldest_in [] v e = absurd (let z : ◌≡◌ {A = ℕ} 0 1 = cc in omega arith)
oldest_in (y ∷ q) v e = (y, Memᴰ.head refl, (let z : some y.value ≡ some v = e in cc), refl, refl)

move_place : (σ : State) (t : ℕ) → place σ move t ≡ oldest_place (thread_of σ t).queue
unfolding place target
move_place σ t = refl

-- what a thread's next access writes
abbrev pub writing : State → ℕ → Option ℕ
writing σ t = puts (thread_of σ t).local (finds t (thread_of σ t) (cell_of σ (place σ access t))).value

-- the state behind a step agrees if the step's own event does
module _ (β : Values) (σ : State) (k : Kind) (t : ℕ) (m : able k (thread_of σ t) (length σ.cells) ≡ true) (ch : (l : ℕ) → Change σ k t l) (a : Agrees β σ)
    (new : (v : ℕ) → k ≡ access → writing σ t ≡ some v → β (place σ access t) (t, (thread_of σ t).history.done) ≡ v) where
  access_entries : k ≡ access → (x : Entry) → Memᴰ x (thread_behind access t (thread_of σ t) (cell_of σ (place σ access t))).queue → x.value ≡ β x.location (t, x.number)
  unfolding thread_behind place target
  access_entries e x i = ⊎_elim (λ (j : Memᴰ x (thread_of σ t).queue). a.entries t x j)
      (λ (j : Memᴰ x (queued (locked (thread_of σ t).local) (thread_of σ t).history.done (place_of (thread_of σ t).local) (writing σ t))).
      let r = queued_in (locked (thread_of σ t).local) (thread_of σ t).history.done (place_of (thread_of σ t).local) (writing σ t) x j in
      sym (new x.value e r.0) ∙ ap₂ (λ (l i : ℕ). β l (t, i)) (sym r.1) (sym r.2))
      (Memᴰ.append_cases (thread_of σ t).queue i)

  move_entries : (x : Entry) → Memᴰ x (thread_behind move t (thread_of σ t) (cell_of σ (place σ move t))).queue → x.value ≡ β x.location (t, x.number)
  unfolding thread_behind
  move_entries x i = a.entries t x (newer_in (thread_of σ t).queue x i)

  own_entries : (j : Kind) → k ≡ j → (x : Entry) → Memᴰ x (thread_behind j t (thread_of σ t) (cell_of σ (place σ j t))).queue → x.value ≡ β x.location (t, x.number)
  own_entries access e x i = access_entries e x i
  own_entries move e x i = move_entries x i

  put_value : (j : Kind) → k ≡ j → (v : ℕ) → putting σ j t ≡ some v → β (place σ j t) (t, number_of j (thread_of σ t)) ≡ v
  unfolding reaches number_of
  put_value access e v p = new v e (at_once_some (locked (thread_of σ t).local) (writing σ t) v p)
  put_value move e v p = move_value v p
    where
      move_value : (v : ℕ) → oldest_value (thread_of σ t).queue ≡ some v → β (place σ move t) (t, oldest_number (thread_of σ t).queue) ≡ v
      move_value v p = let r = oldest_in (thread_of σ t).queue v p in
          ap₂ (λ (l i : ℕ). β l (t, i)) (move_place σ t ∙ sym r.3) (sym r.4) ∙ sym (a.entries t r.0 r.1) ∙ r.2

  cell_value : (l : ℕ) → Change σ k t l → (cell_of (step_of σ k t) l).value ≡ β l (latest (cell_of (step_of σ k t) l).writes)
  unfolding latest
  cell_value l (kept q) = subst (λ (c : Cell). c.value ≡ β l (latest c.writes)) (sym q) (a.cells l)
  cell_value l (wrote q v p w y) = y ∙ sym (put_value k refl v p) ∙ ap (λ (x : ℕ). β x (t, number_of k (thread_of σ t))) (sym q) ∙ ap (λ (ws : List Event). β l (latest ws)) (sym w)

  pub agrees_step : Agrees β (step_of σ k t)
  agrees_step = record {
    entries = λ u. thread_cases (λ i h. (x : Entry) → Memᴰ x h.queue → x.value ≡ β x.location (i, x.number)) σ k t (able_range σ k t (length σ.cells) m) (own_entries k refl) u (λ ne. a.entries u);
    cells = λ l. cell_value l (ch l);
  }

-- events that a state knows: the initial write, and what was done
abbrev pub Old : State → Event → Type 0
Old σ e = (e ≡ initial_write) ⊎ (e.1 < (thread_of σ e.0).history.done)

-- what changes for later events only changes nothing here
pub agrees_old : (β γ : Values) (σ : State) → ((t : ℕ) → StoresInOrder σ t) → Agrees β σ → ((l : ℕ) (e : Event) → Old σ e → γ l e ≡ β l e) → Agrees γ σ
agrees_old β γ σ L a f = record {
  entries = λ t x m. a.entries t x m ∙ sym (f x.location (t, x.number) (inr (within_in (L t).floor (thread_of σ t).queue (thread_of σ t).history.done x (L t).within m).1));
  cells = λ l. a.cells l ∙ sym (f l (latest (cell_of σ l).writes) (old l (latest_of (cell_of σ l).writes)));
}
  where
    old : (l : ℕ) → (latest (cell_of σ l).writes ≡ initial_write) ⊎ Memᴰ (latest (cell_of σ l).writes) (cell_of σ l).writes → Old σ (latest (cell_of σ l).writes)
    old l (inl q) = inl q
    old l (inr i) =
        let e = latest (cell_of σ l).writes in
        let K = L e.0 in
        let p = K.below l e i refl in
        let r = within_le K.floor (thread_of σ e.0).queue (thread_of σ e.0).history.done K.within in
        inr (omega arith)

-- a value for one event more
unfoldable noting : Values → Event → ℕ → Values
noting β f v l e = cond (same_event e f) v (β l e)

noting_at : (β : Values) (f : Event) (v l : ℕ) → noting β f v l f ≡ v
unfolding noting
noting_at β f v l = rw (is_same_event f f refl)

noting_else : (β : Values) (f : Event) (v l : ℕ) (e : Event) → (e ≡ f → ⊥) → noting β f v l e ≡ β l e
unfolding noting
noting_else β f v l e ne = go (same_event e f) refl
  where
    go : (b : Bool) → same_event e f ≡ b → cond (same_event e f) v (β l e) ≡ β l e
    go true q = absurd (ne (same_event_is e f q))
    go false q = rw q

upcoming_new : (σ : State) (t : ℕ) (e : Event) → t < 6 → Old σ e → e ≡ (t, (thread_of σ t).history.done) → ⊥
unfolding initial_write
upcoming_new σ t e h (inl q) i = omega (arith, ap (λ (x : Event). x.0) (sym q ∙ i))
upcoming_new σ t e h (inr q) i = omega (arith, ap (λ (x : Event). x.1) i, ap (λ (x : Event). (thread_of σ x.0).history.done) i)

-- ONE STEP MORE: there are values that both states agree with, and nothing known changes
pub values_step : (β : Values) (σ : State) (k : Kind) (t : ℕ) → able k (thread_of σ t) (length σ.cells) ≡ true → ((l : ℕ) → Change σ k t l) → t < 6 → ((u : ℕ) → StoresInOrder σ u) → Agrees β σ →
    (γ : Values) × ((l : ℕ) (e : Event) → Old σ e → γ l e ≡ β l e) × Agrees γ (step_of σ k t)
values_step β σ move t m ch h L a = (β, λ l e o. refl, agrees_step β σ move t m ch a (λ v e. absurd (move≢access e)))
values_step β σ access t m ch h L a = go (writing σ t) refl
  where
    go : (o : Option ℕ) → writing σ t ≡ o → (γ : Values) × ((l : ℕ) (e : Event) → Old σ e → γ l e ≡ β l e) × Agrees γ (step_of σ access t)
    go none q = (β, λ l e o. refl, agrees_step β σ access t m ch a (λ v e p. absurd (let z : ◌≡◌ {A = ℕ} 0 1 = cc in omega arith)))
    go (some w) q =
        let f : Event = (t, (thread_of σ t).history.done) in
        let γ = noting β f w in
        let same : ((l : ℕ) (e : Event) → Old σ e → γ l e ≡ β l e) = λ l e o. noting_else β f w l e (upcoming_new σ t e h o) in
        (γ, same, agrees_step γ σ access t m ch (agrees_old β γ σ L a same) (λ v e p. noting_at β f w (place σ access t) ∙ (let z : some w ≡ some v = sym q ∙ p in cc)))
