-- The step right behind another must stay there exactly when their deeds say so. Only a read and a put at its location take thought: right
-- behind a read its source is in memory, or the initial one, exactly when the read looked at memory.
use Prim.Native.Nat.{ℕ}
use mathlib.Core.Path.{◌≡◌, refl, sym, ap, ap₂, subst, ◌∙◌}
use mathlib.Core.Logic.{◌⊎◌, inl, inr, ⊎_elim}
use mathlib.Core.Bool.{Bool, true, false, not, ◌&&◌, ◌||◌}
use mathlib.Core.Option.{Option, none, some}
use mathlib.Core.List.{Memᴰ}
use native.Mathlib.Omega.{arith}
use lib.Dec.{eqb}
use borrow.Author.Tests.{eqb-true, eq-eqb}
use Rattle.spec_schedules.specs.Lists.{any}
use Rattle.spec_schedules.proofs.Lists.{any_yes, any_of}
use Rattle.spec_sc.specs.Local.{place_of, takes}
use Rattle.spec_sc.specs.State.{Event, initial_write, Cell, latest}
use Rattle.spec_sc.specs.Same.{same_event}
use Rattle.spec_sc.proofs.Same.{same_event_is, is_same_event, event_differs}
use Rattle.spec_sc.proofs.Regular.{latest_of}
use Rattle.spec_tso.specs.Queue.{Entry, newest, found_in}
use Rattle.spec_tso.specs.State.{Thread, State, Kind, access, thread_of, cell_of, finds, number_of, place, kind_of, owner, step_of, step, enabled}
use Rattle.spec_tso.specs.Actions as Tso
use Rattle.spec_tso.specs.Actions.{Action, action, action_of, reading, source_if, dependent}
use Rattle.spec_tso.proofs.Steps.{enabled_small, enabled_able, putting}
use Rattle.spec_tso.proofs.Change.{write_cases, writes_stay, wrote_own}
use Rattle.spec_tso.proofs.StoreOrder.{within_in}
use Rattle.spec_tso.proofs.Values.{newest_in}
use Rattle.spec_tso.proofs.Regular.{Regular, place_in, changes}
use Rattle.spec_tso.proofs.ActionParts.{act_location, act_puts, act_before, act_reads, act_source}
use Rattle.theory_tso.specs.Deeds.{is_none, looking, deed_of, deed, makes, empties, puts_first, looks_first, waits}

-- what holds of tests: L one location, P a put before, r a read before, q a put behind
by_tests : (L P r q X n F G : Bool) → (L ≡ true → P ≡ true → F ≡ G) → (L ≡ true → r ≡ true → q ≡ true → X ≡ n) →
    ((L && (P && (q || F))) || (L && (r && (q && X)))) ≡ (L && ((P && (q || G)) || ((r && n) && q)))
by_tests false P r q X n F G f h = refl
by_tests true true r true X n F G f h = refl
by_tests true true false false X n F G f h = ap (λ (z : Bool). z || false) (f refl refl)
by_tests true true true false X true F G f h = ap (λ (z : Bool). z || false) (f refl refl)
by_tests true true true false X false F G f h = ap (λ (z : Bool). z || false) (f refl refl)
by_tests true false false q X n F G f h = refl
by_tests true false true false X true F G f h = refl
by_tests true false true false X false F G f h = refl
by_tests true false true true X true F G f h = h refl refl refl
by_tests true false true true X false F G f h = h refl refl refl

or_true : (b : Bool) → (b || true) ≡ true
or_true true = refl
or_true false = refl

-- what is not its own is what u wrote last, where that is of another thread
own_or_there : (k : Kind) (t u : ℕ) (h : Thread) (c : Cell) → (latest c.writes).0 ≡ u →
    (reading k h && not (eqb (source_if (reading k h) (finds t h c)).0 t)) ≡ (looking k h && not (eqb u t))
unfolding looking source_if finds found_in is_none
own_or_there k t u h c e = go (reading k h) refl (newest h.queue (place_of h.local)) refl
  where
    go : (r : Bool) → reading k h ≡ r → (o : Option Entry) → newest h.queue (place_of h.local) ≡ o →
        (reading k h && not (eqb (source_if (reading k h) (finds t h c)).0 t)) ≡ (looking k h && not (eqb u t))
    go false i o j = rw i
    go true i none j = rw (i, j) (ap (λ (x : ℕ). not (eqb x t)) e)
    go true i (some x) j = rw (i, j) (ap not (eq-eqb t t refl))

module _ (σ : State) (b c : ℕ) (g : Regular σ) (m : enabled σ b ≡ true) where
  abbrev t : ℕ
  t = owner b

  abbrev h : Thread
  h = thread_of σ (owner b)

  abbrev l : ℕ
  l = place σ (kind_of b) (owner b)

  abbrev own : Option Entry
  own = newest (thread_of σ (owner b)).queue (place_of (thread_of σ (owner b)).local)

  found_memory : newest (thread_of σ (owner b)).queue (place_of (thread_of σ (owner b)).local) ≡ none →
      (finds (owner b) (thread_of σ (owner b)) (cell_of σ (place σ (kind_of b) (owner b)))).source ≡ latest (cell_of σ (place σ (kind_of b) (owner b))).writes
  unfolding finds found_in
  found_memory e = rw e

  found_own : (x : Entry) → newest (thread_of σ (owner b)).queue (place_of (thread_of σ (owner b)).local) ≡ some x →
      (finds (owner b) (thread_of σ (owner b)) (cell_of σ (place σ (kind_of b) (owner b)))).source ≡ (owner b, x.number)
  unfolding finds found_in
  found_own x e = rw e

  -- a write of the state behind the step is not a store that was pending
  not_there : (k : Kind) → kind_of b ≡ k → k ≡ access → (x : Entry) → newest (thread_of σ (owner b)).queue (place_of (thread_of σ (owner b)).local) ≡ some x → (i : ℕ) → Memᴰ (owner b, x.number) (cell_of (step σ b) i).writes → ⊥
  unfolding step number_of
  not_there k ek ea x e i j =
      let s = g.stores (owner b) in
      let w = within_in s.floor h.queue h.history.done x s.within (newest_in h.queue (place_of h.local) x e).0 in
      ⊎_elim (λ (y : Memᴰ (owner b, x.number) (cell_of σ i).writes). omega (arith, s.below i (owner b, x.number) y refl, w.0))
      (λ (y : ((owner b, x.number) ≡ (owner b, number_of (kind_of b) h)) × ((v : ℕ) × (putting σ (kind_of b) (owner b) ≡ some v))).
      let q : x.number ≡ number_of (kind_of b) h = ap (λ (z : Event). z.1) y.0 in
      let r : number_of (kind_of b) h ≡ h.history.done = ap (λ (z : Kind). number_of z h) (ek ∙ ea) in
      omega (arith, q, r, w.1))
      (write_cases σ (kind_of b) (owner b) i (owner b, x.number) (changes σ g (kind_of b) (owner b) (enabled_able σ b m) i) j)

  stays : (x : Event) (i : ℕ) → Memᴰ x (cell_of σ i).writes → Memᴰ x (cell_of (step σ b) i).writes
  unfolding step
  stays x i j = writes_stay σ (kind_of b) (owner b) i x (changes σ g (kind_of b) (owner b) (enabled_able σ b m) i) j

  -- the source of the read is in memory behind it exactly when it looked there
  in_memory : eqb (action σ b).location (action (step σ b) c).location ≡ true → (action σ b).reads ≡ true → (action (step σ b) c).puts ≡ true →
      (same_event (action σ b).source initial_write || any (same_event (action σ b).source) (action (step σ b) c).before) ≡ is_none (newest (thread_of σ (owner b)).queue (place_of (thread_of σ (owner b)).local))
  unfolding is_none initial_write
  in_memory here reads puts =
      let s = act_source σ b reads in
      let p = act_puts (step σ b) c puts in
      let old = act_before (step σ b) c p.0 p.1 in
      let at : l ≡ place (step σ b) (kind_of c) (owner c) = sym (act_location σ b) ∙ eqb-true (action σ b).location (action (step σ b) c).location here ∙ act_location (step σ b) c in
      go own refl s (old ∙ ap (λ (i : ℕ). (cell_of (step σ b) i).writes) (sym at))
    where
      not_any : (z : Bool) → z ≡ z → (z ≡ true → ⊥) → z ≡ false
      not_any true q n = absurd (n refl)
      not_any false q n = refl

      test : Event → Bool
      test f = same_event f initial_write || any (same_event f) (action (step σ b) c).before

      looked : (latest (cell_of σ l).writes ≡ initial_write) ⊎ Memᴰ (latest (cell_of σ l).writes) (cell_of σ l).writes → (action (step σ b) c).before ≡ (cell_of (step σ b) l).writes → test (latest (cell_of σ l).writes) ≡ true
      looked (inl q) old = ap (λ (y : Bool). y || any (same_event (latest (cell_of σ l).writes)) (action (step σ b) c).before) (is_same_event (latest (cell_of σ l).writes) initial_write q)
      looked (inr i) old =
          ap (λ (y : Bool). same_event (latest (cell_of σ l).writes) initial_write || y)
          (any_of (same_event (latest (cell_of σ l).writes)) (action (step σ b) c).before (latest (cell_of σ l).writes) (subst (Memᴰ (latest (cell_of σ l).writes)) (sym old) (stays (latest (cell_of σ l).writes) l i)) (is_same_event (latest (cell_of σ l).writes) (latest (cell_of σ l).writes) refl))
          ∙ or_true (same_event (latest (cell_of σ l).writes) initial_write)

      go : (o : Option Entry) → newest (thread_of σ (owner b)).queue (place_of (thread_of σ (owner b)).local) ≡ o →
          (action σ b).source ≡ (finds (owner b) (thread_of σ (owner b)) (cell_of σ (place σ (kind_of b) (owner b)))).source →
          (action (step σ b) c).before ≡ (cell_of (step σ b) (place σ (kind_of b) (owner b))).writes →
          (same_event (action σ b).source initial_write || any (same_event (action σ b).source) (action (step σ b) c).before) ≡ is_none (newest (thread_of σ (owner b)).queue (place_of (thread_of σ (owner b)).local))
      go none e s old = ap test (s ∙ found_memory e) ∙ looked (latest_of (cell_of σ l).writes) old ∙ sym (ap is_none e)
      go (some x) e s old =
          ap test (s ∙ found_own x e) ∙ ap₂ (λ (y z : Bool). y || z) (event_differs (owner b, x.number) initial_write (λ q. omega (arith, q, enabled_small σ b m)))
          (not_any (any (same_event (owner b, x.number)) (action (step σ b) c).before) refl (λ q.
          let r = any_yes (same_event (owner b, x.number)) (action (step σ b) c).before q in
          not_there (kind_of b) refl (act_reads σ b reads).0 x e l (subst (λ (y : Event). Memᴰ y (cell_of (step σ b) l).writes) (sym (same_event_is (owner b, x.number) r.0 r.2)) (subst (Memᴰ r.0) old r.1))))
          ∙ sym (ap is_none e)

  put_latest : (v : ℕ) → putting σ (kind_of b) (owner b) ≡ some v → latest (cell_of (step σ b) (place σ (kind_of b) (owner b))).writes ≡ (owner b, number_of (kind_of b) (thread_of σ (owner b)))
  unfolding step latest
  put_latest v e = ap latest (wrote_own σ (kind_of b) (owner b) l v (place_in σ g (kind_of b) (owner b) (enabled_able σ b m)) refl e).0

  -- what c reads there, right behind a put, is that put or an own pending store
  not_own : eqb (action σ b).location (action (step σ b) c).location ≡ true → (action σ b).puts ≡ true →
      ((action (step σ b) c).reads && not (eqb (action (step σ b) c).source.0 (action (step σ b) c).event.0)) ≡ (looking (kind_of c) (thread_of (step σ b) (owner c)) && not (eqb (owner b) (owner c)))
  unfolding action action_of
  not_own here puts =
      let at : place σ (kind_of b) (owner b) ≡ place (step σ b) (kind_of c) (owner c) = sym (act_location σ b) ∙ eqb-true (action σ b).location (action (step σ b) c).location here ∙ act_location (step σ b) c in
      let p = act_puts σ b puts in
      own_or_there (kind_of c) (owner c) (owner b) (thread_of (step σ b) (owner c)) (cell_of (step σ b) (place (step σ b) (kind_of c) (owner c)))
      (ap (λ (i : ℕ). (latest (cell_of (step σ b) i).writes).0) (sym at) ∙ ap (λ (e : Event). e.0) (put_latest p.0 p.1))

  -- EXACTLY
  pub waits_exact : dependent (action σ b) (action (step σ b) c) ≡ waits (deed σ b) (deed (step σ b) c)
  unfolding dependent Tso.makes Tso.empties Tso.puts_first Tso.reads_first waits makes empties puts_first looks_first looking deed deed_of action action_of same_event
  waits_exact = ap (λ (z : Bool). (makes (deed σ b) (deed (step σ b) c) || empties (deed σ b) (deed (step σ b) c)) || z)
      (by_tests (eqb (action σ b).location (action (step σ b) c).location) (action σ b).puts (action σ b).reads (action (step σ b) c).puts
      (same_event (action σ b).source initial_write || any (same_event (action σ b).source) (action (step σ b) c).before) (is_none own)
      ((action (step σ b) c).reads && not (eqb (action (step σ b) c).source.0 (action (step σ b) c).event.0)) (looking (kind_of c) (thread_of (step σ b) (owner c)) && not (eqb (owner b) (owner c))) not_own in_memory)
