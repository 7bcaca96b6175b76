-- A thread of which nothing is in memory stands where its sources led it: its local state and its queue follow from the state in which it
-- began, from the sources of its accesses, and from the values of what others wrote. An own source is in its queue.
use Prim.Native.Nat.{ℕ, suc, ◌<◌}
use mathlib.Core.Path.{◌≡◌, refl, sym, ap, ap₂, subst, ◌∙◌}
use mathlib.Core.Logic.{◌≢◌, ◌⊎◌, inl, inr, ⊎_elim}
use mathlib.Core.Bool.{Bool, true, false, cond}
use mathlib.Core.Option.{Option, none, some}
use mathlib.Core.List.{List, [], ◌∷◌, ◌++◌, Memᴰ}
use native.Mathlib.Omega.{arith}
use native.Mathlib.Decide.{ℕ_discrete}
use lib.Dec.{eqb}
use lib.ListN.{length}
use borrow.Author.Tests.{eq-eqb, ne_eqb}
use Rattle.spec_file.specs.Program.{Program}
use Rattle.spec_file.specs.WellFormed.{WellFormed}
use Rattle.spec_schedules.specs.Order.{Schedule}
use Rattle.spec_schedules.specs.System.{run, Allowed}
use Rattle.spec_sc.specs.Local.{Local, pending, place_of, takes, puts, next}
use Rattle.spec_sc.specs.State as SC
use Rattle.spec_sc.specs.State.{Event, initial_write, Cell, History, latest, noted}
use Rattle.spec_sc.proofs.Access.{blind_next, blind_puts}
use Rattle.spec_sc.proofs.Regular.{latest_of}
use Rattle.spec_tso.specs.Queue.{Entry, newest, found_in, queued}
use Rattle.spec_tso.specs.State.{Thread, State, Kind, access, move, idle, thread_of, cell_of, locked, finds, thread_behind, reaches, target, place, step_of, able, kind_of, owner, step, enabled, start, TSO}
use Rattle.spec_tso.specs.Graph.{end_of}
use Rattle.spec_tso.proofs.Steps.{enabled_able, enabled_small, able_pending, able_range, able_movable, thread_own, thread_other, putting}
use Rattle.spec_tso.proofs.Seen.{drained_thread}
use Rattle.spec_tso.proofs.Values.{Values, Agrees, finds_value}
use Rattle.spec_tso.proofs.Regular.{Regular, regular_start, regular_step}
use Rattle.spec_tso.proofs.Determined.{values_run}
use Rattle.theory_tso.specs.ReadWords.{sources_of}
use Rattle.theory_tso.proofs.ReadWords.{Numbered, source_or, sources_noted, sources_length}
use Rattle.theory_tso.proofs.Kept.{Kept, kept_step, kept_start, start_done}
use Rattle.theory_tso.proofs.Words.{Quiet, quiet_back, loud, oldest_there}

-- ---- where sources lead
pub record Track : Type 0 where
  pub local : Local
  pub queue : List Entry

unfoldable pub own_value : Option Entry → ℕ
own_value (some x) = x.value
own_value none = 0

-- what thread t finds at l from this source, with this queue
unfoldable pub found_from : Values → ℕ → List Entry → ℕ → Option Event → ℕ
found_from β t q l none = 0
found_from β t q l (some e) = cond (eqb e.0 t) (own_value (newest q l)) (β l e)

-- one access more, number n, which finds v
unfoldable pub tracked : Local → List Entry → ℕ → ℕ → Track
tracked h q n v = record { local = next h v; queue = q ++ queued (locked h) n (place_of h) (puts h v) }

unfoldable pub track : Values → ℕ → Local → List (Option Event) → Track
track β t h [] = record { local = h; queue = [] }
track β t h (o ∷ os) = let k = track β t h os in tracked k.local k.queue (length os) (found_from β t k.queue (place_of k.local) o)

-- ---- the access that a thread does
abbrev there : Thread → Track
there h = record { local = h.local; queue = h.queue }

-- what a store finds changes nothing
blind : (h : Local) (q : List Entry) (n x y : ℕ) → pending h ≡ true → takes h ≡ false → tracked h q n x ≡ tracked h q n y
unfolding tracked
blind h q n x y p e =
    let b = blind_puts h x y p e in
    ap₂ (λ (k : Local) (o : Option ℕ). let z : Track = record { local = k; queue = q ++ queued (locked h) n (place_of h) o } in z) (blind_next h x y p e) (b.1 ∙ sym b.2)

found_some : (t : ℕ) (o : Option Entry) (c : Cell) (x : Entry) → o ≡ some x → ((found_in t o c).value ≡ x.value) × ((found_in t o c).source ≡ (t, x.number))
unfolding found_in
found_some t o c x e = (rw e, rw e)

found_none : (t : ℕ) (o : Option Entry) (c : Cell) → o ≡ none → ((found_in t o c).value ≡ c.value) × ((found_in t o c).source ≡ latest c.writes)
unfolding found_in
found_none t o c e = (rw e, rw e)

pub own_found : (β : Values) (t : ℕ) (q : List Entry) (l : ℕ) (e : Event) → e.0 ≡ t → found_from β t q l (some e) ≡ own_value (newest q l)
unfolding found_from
own_found β t q l e i = let k = eq-eqb e.0 t i in rw k

pub other_found : (β : Values) (t : ℕ) (q : List Entry) (l : ℕ) (e : Event) → e.0 ≢ t → found_from β t q l (some e) ≡ β l e
unfolding found_from
other_found β t q l e i = let k = ne_eqb e.0 t i in rw k

own_some : (o : Option Entry) (x : Entry) → o ≡ some x → own_value o ≡ x.value
unfolding own_value
own_some o x e = rw e

module _ (β : Values) (σ : State) (t : ℕ) (h6 : t < 6) (agrees : Agrees β σ) (quiet : Quiet σ t) where
  abbrev h : Thread
  h = thread_of σ t

  abbrev l : ℕ
  l = place_of (thread_of σ t).local

  -- the latest write there is not t's
  not_own : (latest (cell_of σ (place_of (thread_of σ t).local)).writes).0 ≢ t
  unfolding initial_write
  not_own e = ⊎_elim (λ (q : latest (cell_of σ l).writes ≡ initial_write). omega (arith, h6, e, ap (λ (x : Event). x.0) q)) (λ (m : Memᴰ (latest (cell_of σ l).writes) (cell_of σ l).writes). quiet l (latest (cell_of σ l).writes) m e) (latest_of (cell_of σ l).writes)

  -- what a read finds is the value of its source
  read_value : found_from β t (thread_of σ t).queue (place_of (thread_of σ t).local) (some (finds t (thread_of σ t) (cell_of σ (place_of (thread_of σ t).local))).source) ≡ (finds t (thread_of σ t) (cell_of σ (place_of (thread_of σ t).local))).value
  unfolding finds
  read_value = go (newest h.queue l) refl
    where
      go : (o : Option Entry) → newest (thread_of σ t).queue (place_of (thread_of σ t).local) ≡ o →
          found_from β t (thread_of σ t).queue (place_of (thread_of σ t).local) (some (finds t (thread_of σ t) (cell_of σ (place_of (thread_of σ t).local))).source) ≡ (finds t (thread_of σ t) (cell_of σ (place_of (thread_of σ t).local))).value
      go (some x) e =
          let f = found_some t (newest h.queue l) (cell_of σ l) x e in
          ap (λ (y : Event). found_from β t h.queue l (some y)) f.1 ∙ own_found β t h.queue l (t, x.number) refl ∙ own_some (newest h.queue l) x e ∙ sym f.0
      go none e =
          let f = found_none t (newest h.queue l) (cell_of σ l) e in
          ap (λ (y : Event). found_from β t h.queue l (some y)) f.1 ∙ other_found β t h.queue l (latest (cell_of σ l).writes) not_own ∙ sym (agrees.cells l) ∙ sym f.0

  -- an access leads where its source does
  access_leads : pending (thread_of σ t).local ≡ true → (n : ℕ) → tracked (thread_of σ t).local (thread_of σ t).queue n (finds t (thread_of σ t) (cell_of σ (place_of (thread_of σ t).local))).value
      ≡ tracked (thread_of σ t).local (thread_of σ t).queue n (found_from β t (thread_of σ t).queue (place_of (thread_of σ t).local) (source_or (takes (thread_of σ t).local) (finds t (thread_of σ t) (cell_of σ (place_of (thread_of σ t).local))).source))
  unfolding source_or
  access_leads p n = go (takes h.local) refl
    where
      go : (b : Bool) → takes (thread_of σ t).local ≡ b → tracked (thread_of σ t).local (thread_of σ t).queue n (finds t (thread_of σ t) (cell_of σ (place_of (thread_of σ t).local))).value
          ≡ tracked (thread_of σ t).local (thread_of σ t).queue n (found_from β t (thread_of σ t).queue (place_of (thread_of σ t).local) (source_or (takes (thread_of σ t).local) (finds t (thread_of σ t) (cell_of σ (place_of (thread_of σ t).local))).source))
      go true e = ap (tracked h.local h.queue n) (sym read_value) ∙ ap (λ (b : Bool). tracked h.local h.queue n (found_from β t h.queue l (source_or b (finds t h (cell_of σ l)).source))) (sym e)
      go false e = blind h.local h.queue n _ _ p e

-- ---- along a run
-- the thread stands where its sources led it since ρ
abbrev Led : Values → State → State → ℕ → Type 0
Led β ρ σ t = Quiet σ t → there (thread_of σ t) ≡ track β t (thread_of ρ t).local (sources_of (thread_of σ t).history.done (thread_of σ t).history.reads)

access_there : (t : ℕ) (h : Thread) (c : Cell) → there (thread_behind access t h c) ≡ tracked h.local h.queue h.history.done (finds t h c).value
unfolding thread_behind tracked
access_there t h c = refl

access_noted : (t : ℕ) (h : Thread) (c : Cell) → (thread_behind access t h c).history ≡ noted (takes h.local) (finds t h c).source h.history
unfolding thread_behind
access_noted t h c = refl

track_more : (β : Values) (t : ℕ) (h : Local) (o : Option Event) (os : List (Option Event)) (k : Track) (n : ℕ) → k ≡ track β t h os → length os ≡ n →
    track β t h (o ∷ os) ≡ tracked k.local k.queue n (found_from β t k.queue (place_of k.local) o)
unfolding track
track_more β t h o os k n e f = ap₂ (λ (x : Track) (i : ℕ). tracked x.local x.queue i (found_from β t x.queue (place_of x.local) o)) (sym e) f

-- behind a move something of its thread is in memory
move_loud : (σ : State) (t : ℕ) → Regular σ → able move (thread_of σ t) (length σ.cells) ≡ true → Quiet (step_of σ move t) t → ⊥
unfolding reaches
move_loud σ t g m q = go (putting σ move t) refl
  where
    go : (o : Option ℕ) → putting σ move t ≡ o → ⊥
    go (some x) e = loud σ move t g m x e q
    go none e = oldest_there (thread_of σ t).queue (length σ.cells) (able_movable (thread_of σ t) (length σ.cells) m) e

own_led : (β : Values) (ρ σ : State) (k : Kind) (t : ℕ) → Regular σ → t < 6 → Kept ρ σ → able k (thread_of σ t) (length σ.cells) ≡ true → Agrees β σ → Led β ρ σ t → Quiet (step_of σ k t) t →
    there (thread_behind k t (thread_of σ t) (cell_of σ (place σ k t))) ≡ track β t (thread_of ρ t).local
    (sources_of (thread_behind k t (thread_of σ t) (cell_of σ (place σ k t))).history.done (thread_behind k t (thread_of σ t) (cell_of σ (place σ k t))).history.reads)
unfolding place target
own_led β ρ σ access t g h6 K m agrees led q =
    let before = quiet_back σ access t g m t q in
    let h = thread_of σ t in
    let c = cell_of σ (place_of h.local) in
    let os = sources_of h.history.done h.history.reads in
    access_there t h c ∙ access_leads β σ t h6 agrees before (able_pending h (length σ.cells) m) h.history.done
    ∙ sym (track_more β t (thread_of ρ t).local (source_or (takes h.local) (finds t h c).source) os (there h) h.history.done (led before) (sources_length h.history.done h.history.reads))
    ∙ ap (track β t (thread_of ρ t).local) (sym (ap (λ (y : History). sources_of y.done y.reads) (access_noted t h c) ∙ sources_noted (takes h.local) (finds t h c).source h.history (K.numbered t)))
own_led β ρ σ move t g h6 K m agrees led q = absurd (move_loud σ t g m q)

led_step : (β : Values) (ρ σ : State) (b : ℕ) → Regular σ → Kept ρ σ → enabled σ b ≡ true → Agrees β σ → ((t : ℕ) → t < 6 → Led β ρ σ t) → (t : ℕ) → t < 6 → Led β ρ (step σ b) t
unfolding step
led_step β ρ σ b g K ok agrees led t h6 = go (ℕ_discrete t (owner b))
  where
    k : Kind
    k = kind_of b

    m : able (kind_of b) (thread_of σ (owner b)) (length σ.cells) ≡ true
    m = enabled_able σ b ok

    range : owner b < length σ.threads
    range = able_range σ (kind_of b) (owner b) (length σ.cells) m

    go : Dec (t ≡ owner b) → Led β ρ (step_of σ (kind_of b) (owner b)) t
    go (no ne) = λ q.
        let e = thread_other σ (kind_of b) (owner b) t ne in
        ap there e ∙ led t h6 (quiet_back σ (kind_of b) (owner b) g m t q) ∙ ap (λ (h : Thread). track β t (thread_of ρ t).local (sources_of h.history.done h.history.reads)) (sym e)
    go (yes e) = subst (Led β ρ (step_of σ (kind_of b) (owner b))) (sym e) (λ q.
        let own = thread_own σ (kind_of b) (owner b) range in
        ap there own ∙ own_led β ρ σ (kind_of b) (owner b) g (enabled_small σ b ok) K m agrees (led (owner b) (enabled_small σ b ok)) q
        ∙ ap (λ (h : Thread). track β (owner b) (thread_of ρ (owner b)).local (sources_of h.history.done h.history.reads)) (sym own))

led_run : (β : Values) (v : Schedule) (ρ σ : State) → Regular σ → Kept ρ σ → Allowed TSO σ v → ((u r : Schedule) → v ≡ u ++ r → Agrees β (run TSO σ u)) → ((t : ℕ) → t < 6 → Led β ρ σ t) → (t : ℕ) → t < 6 → Led β ρ (run TSO σ v) t
unfolding run
led_run β [] ρ σ g K a f led t h = led t h
led_run β (b ∷ v) ρ σ g K a f led t h = led_run β v ρ (step σ b) (regular_step σ b g a.0) (kept_step ρ σ b g a.0 K) a.1 (λ u r e. f (b ∷ u) r (ap (λ (x : Schedule). b ∷ x) e))
    (led_step β ρ σ b g K a.0 (f [] (b ∷ v) refl) led) t h

start_there : (p : Program) (t : ℕ) → there (thread_of (start p) t) ≡ record { local = (thread_of (start p) t).local; queue = [] }
unfolding start idle
start_there p t = ap (λ (q : List Entry). let z : Track = record { local = (thread_of (start p) t).local; queue = q } in z) (ap (λ (h : Thread). h.queue) (drained_thread (SC.start p) t))

led_start : (β : Values) (p : Program) (t : ℕ) → Led β (start p) (start p) t
unfolding track sources_of
led_start β p t q = start_there p t ∙ ap (track β t (thread_of (start p) t).local) (sym (ap₂ sources_of (start_done p t).0 (start_done p t).1))

-- FROM THE START
pub led : (p : Program) (w : WellFormed p) (v : Schedule) → Allowed TSO (start p) v → (β : Values) × ((t : ℕ) → t < 6 → Quiet (end_of p v) t →
    ((thread_of (end_of p v) t).local ≡ (track β t (thread_of (start p) t).local (sources_of (thread_of (end_of p v) t).history.done (thread_of (end_of p v) t).history.reads)).local)
    × ((thread_of (end_of p v) t).queue ≡ (track β t (thread_of (start p) t).local (sources_of (thread_of (end_of p v) t).history.done (thread_of (end_of p v) t).history.reads)).queue))
led p w v a =
    let g = regular_start p w in
    let r = values_run v (start p) g.valued.0 g g.valued.1 a in
    (r.0, λ t h q. let e = led_run r.0 v (start p) (start p) g (kept_start p) a r.2 (λ u i. led_start r.0 p u) t h q in (ap (λ (x : Track). x.local) e, ap (λ (x : Track). x.queue) e))
