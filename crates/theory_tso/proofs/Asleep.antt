-- R3 IS SOUND: a byte whose step is late, and which nothing left to other threads could make wait, stays late until it steps. The other byte
-- of its own thread never makes it wait.
use Prim.Native.Nat.{ℕ, ◌<◌}
use mathlib.Core.Path.{◌≡◌, refl, sym, ap, ap₂, subst, ◌∙◌}
use mathlib.Core.Logic.{◌≢◌, ◌⊎◌, inl, inr, ⊎_elim}
use mathlib.Core.Bool.{Bool, true, false, not, true≢false, false≢true, ◌||◌}
use mathlib.Core.Option.{Option, none, some}
use mathlib.Core.List.Memᴰ
use mathlib.Core.List.{List, [], ◌∷◌, ◌++◌, append_assoc, Memᴰ}
use native.Mathlib.Omega.{arith}
use native.Mathlib.Decide.{ℕ_discrete, dec_lt}
use lib.Dec.{eqb}
use lib.ListN.{length}
use borrow.Author.Tests.{eq-eqb, ne_eqb, eqb-true, not-true}
use Rattle.spec_file.specs.Program.{Program}
use Rattle.spec_file.proofs.DigitValues.{both}
use Rattle.spec_file.proofs.Tests.{neither}
use Rattle.spec_schedules.specs.Lists.{range, any}
use Rattle.spec_schedules.specs.Order.{Schedule}
use Rattle.spec_schedules.specs.System.{run, Allowed, FullFrom}
use Rattle.spec_schedules.specs.Orders.{trace}
use Rattle.spec_schedules.proofs.Lists.{in_range_lem, all_at, any_yes, any_no}
use Rattle.spec_schedules.proofs.Runs.{run_append, full_split}
use Rattle.spec_schedules.proofs.GreedyFull.{first_place_lem}
use Rattle.spec_model.specs.Laws.{Admitted}
use Rattle.spec_model.specs.Alike.{Smaller}
use Rattle.spec_model.proofs.Passing.{Passed}
use Rattle.theory_search.proofs.Late.{passing_smaller}
use Rattle.spec_sc.specs.Local.{Local, place_of, takes, puts, pending}
use Rattle.spec_sc.specs.State as SC
use Rattle.spec_sc.specs.State.{Event, initial_write, Cell, latest}
use Rattle.theory_search.specs.Ahead.{could_meet}
use Rattle.theory_search.proofs.Ahead.{elsewhere, meet_end}
use Rattle.spec_sc.proofs.Determined.{latest_cons}
use Rattle.spec_tso.specs.Queue.{Entry, newest, found_in, queued, at_once, oldest_number, oldest_place, oldest_value, movable}
use Rattle.spec_tso.specs.State.{Thread, State, Kind, access, move, idle, no_thread, thread_of, cell_of, locked, finds, target, number_of, thread_behind, reaches, place, step_of, able, kind_of, owner, step, enabled, start, TSO}
use Rattle.spec_tso.specs.Graph.{end_of, Full}
use Rattle.spec_tso.specs.Actions.{Action, action, who, dependent}
use Rattle.spec_tso.proofs.ActionTerms.{actions}
use Rattle.spec_tso.proofs.Bytes.{access≢move, byte_of}
use Rattle.spec_tso.proofs.Steps.{enabled_small, enabled_able, able_pending, able_free, able_movable, able_range, missing, thread_own, thread_other, place_other, putting, still_cell}
use Rattle.spec_tso.proofs.Queues.{number_front, place_front, free_movable}
use Rattle.spec_tso.proofs.Stays.{stays, occurs}
use Rattle.spec_tso.proofs.Depends.{Because, made, emptied, both_put, read_behind, initial_first, source_first, not_dependent}
use Rattle.spec_tso.proofs.OwnSwap.{quiet_access}
use Rattle.spec_tso.proofs.Orders.{action_who, swap}
use Rattle.spec_tso.proofs.Change.{thread_cases, wrote_own}
use Rattle.spec_tso.proofs.StoreOrder.{within_in}
use Rattle.spec_tso.proofs.Values.{newest_in, queued_in, newer_in}
use Rattle.spec_tso.proofs.Regular.{Regular, place_in, regular_start, regular_step, regular_run}
use Rattle.spec_tso.proofs.Reading.{step_of_core}
use Rattle.spec_tso.proofs.Waiting.{run_oldest}
use Rattle.spec_tso.proofs.ActionParts.{act_access, act_move, act_event, act_location, act_puts, act_before, act_reads, act_locks, act_source}
use Rattle.spec_tso.proofs.Rests.{rest_step_of}
use Rattle.spec_tso.specs.TotalStoreOrder.{tso}
use Rattle.spec_tso.proofs.Laws.{tso_laws}
use Rattle.theory_tso.specs.Rules.{late, taken, fears, wakes, unwoken, asleep}

-- nothing left to any other thread could make c wait
abbrev pub Quiet : State → ℕ → Type 0
Quiet σ c = (u : ℕ) → u ≢ owner c → wakes (fears (kind_of c) (thread_of σ (owner c))) (place σ (kind_of c) (owner c)) (thread_of σ u) ≡ false

none_some : (x : ℕ) → none ≡ some x → ⊥
none_some x e = let z : ◌≡◌ {A = ℕ} 0 1 = cc in omega arith

-- what puts fears everything, what reads fears something
put_locked : (b : Bool) (o : Option ℕ) (x : ℕ) → at_once b o ≡ some x → (b ≡ true) × (o ≡ some x)
unfolding at_once
put_locked true o x e = (refl, e)
put_locked false o x e = absurd (none_some x e)

reaches_locked : (t : ℕ) (h : Thread) (c : Cell) (x : ℕ) → reaches access t h c ≡ some x → (locked h.local ≡ true) × (puts h.local (finds t h c).value ≡ some x)
unfolding reaches
reaches_locked t h c x e = put_locked (locked h.local) (puts h.local (finds t h c).value) x e

fears_put : (k : Kind) (t : ℕ) (h : Thread) (c : Cell) (x : ℕ) → reaches k t h c ≡ some x → fears k h ≡ some true
unfolding fears
fears_put access t h c x e = let q = (reaches_locked t h c x e).0 in rw (q, fears)
fears_put move t h c x e = refl

fears_read : (h : Thread) → takes h.local ≡ true → (w : Bool) × (fears access h ≡ some w)
unfolding fears
fears_read h e = go (locked h.local) refl
  where
    go : (b : Bool) → locked h.local ≡ b → (w : Bool) × (fears access h ≡ some w)
    go true q = (true, rw (q, fears))
    go false q = (false, rw (q, e, fears))

-- what is woken by nothing of a thread
wakes_some : (w : Bool) (l : ℕ) (h : Thread) → wakes (some w) l h ≡ false → (any (λ (e : Entry). eqb e.location l) h.queue ≡ false) × (could_meet l w h.local ≡ false)
unfolding wakes
wakes_some w l h e = neither (any (λ (e : Entry). eqb e.location l) h.queue) (could_meet l w h.local) e

some_wakes : (w : Bool) (l : ℕ) (h : Thread) → any (λ (e : Entry). eqb e.location l) h.queue ≡ false → could_meet l w h.local ≡ false → wakes (some w) l h ≡ false
unfolding wakes
some_wakes w l h a b = rw (a, b)

oldest_at : (q : List Entry) (x : ℕ) → oldest_value q ≡ some x → (e : Entry) × Memᴰ e q × (e.location ≡ oldest_place q)
unfolding oldest_value oldest_place
oldest_at [] x e = absurd (none_some x e)
oldest_at (y ∷ q) x e = (y, Memᴰ.head refl, refl)

-- a thread of which nothing wakes puts nothing there
no_put : (w : Bool) (l : ℕ) (k : Kind) (t : ℕ) (h : Thread) (c : Cell) (n x : ℕ) → able k h n ≡ true → wakes (some w) l h ≡ false → target k h ≡ l → reaches k t h c ≡ some x → ⊥
unfolding target reaches
no_put w l access t h c n x m e q r = go (elsewhere l w h.local (able_pending h n m) (wakes_some w l h e).1)
  where
    go : (place_of h.local ≢ l) ⊎ ((w ≡ false) × ((y : ℕ) → puts h.local y ≡ none)) → ⊥
    go (inl i) = i q
    go (inr i) = none_some x (sym (i.1 (finds t h c).value) ∙ (put_locked (locked h.local) (puts h.local (finds t h c).value) x r).1)
no_put w l move t h c n x m e q r =
    let y = oldest_at h.queue x r in
    true≢false (sym (eq-eqb y.0.location l (y.2 ∙ q)) ∙ any_no (λ (e : Entry). eqb e.location l) h.queue y.0 (wakes_some w l h e).0 y.1)

-- a thread that wakes nothing at l, where reads are feared, does not read there
no_read : (l : ℕ) (h : Thread) → pending h.local ≡ true → wakes (some true) l h ≡ false → place_of h.local ≡ l → ⊥
no_read l h m e q = ⊎_elim (λ (i : place_of h.local ≢ l). i q) (λ (i : (true ≡ false) × ((y : ℕ) → puts h.local y ≡ none)). true≢false i.0) (elsewhere l true h.local m (wakes_some true l h e).1)

-- the newest entry at the oldest one's location
newest_some : (q : List Entry) (n l : ℕ) → movable q n ≡ true → oldest_place q ≡ l → (x : Entry) × (newest q l ≡ some x)
unfolding movable oldest_place newest
newest_some [] n l m e = absurd (false≢true m)
newest_some (y ∷ q) n l m e = go (newest q l) refl
  where
    go : (o : Option Entry) → newest q l ≡ o → (x : Entry) × (newest (y ∷ q) l ≡ some x)
    go none i = (y, rw (i, newest, eq-eqb y.location l e))
    go (some f) i = (f, rw (i, newest))

own_source : (t : ℕ) (h : Thread) (c : Cell) (x : Entry) → newest h.queue (place_of h.local) ≡ some x → (finds t h c).source ≡ (t, x.number)
unfolding finds found_in
own_source t h c x e = rw e

latest_source : (t : ℕ) (o : Option Entry) (c : Cell) → (latest c.writes).0 ≡ t → (found_in t o c).source.0 ≡ t
unfolding found_in
latest_source t none c e = e
latest_source t (some x) c e = refl

finds_latest : (t : ℕ) (h : Thread) (c : Cell) → (latest c.writes).0 ≡ t → (finds t h c).source.0 ≡ t
unfolding finds
finds_latest t h c e = latest_source t (newest h.queue (place_of h.local)) c e

target_access : (h : Thread) → target access h ≡ place_of h.local
unfolding target
target_access h = refl

target_move : (h : Thread) → target move h ≡ oldest_place h.queue
unfolding target
target_move h = refl

place_is : (σ : State) (k : Kind) (t : ℕ) → place σ k t ≡ target k (thread_of σ t)
unfolding place
place_is σ k t = refl

number_access : (h : Thread) → number_of access h ≡ h.history.done
unfolding number_of
number_access h = refl

number_move : (h : Thread) → number_of move h ≡ oldest_number h.queue
unfolding number_of
number_move h = refl

access_queue : (t : ℕ) (h : Thread) (c : Cell) → (thread_behind access t h c).queue ≡ h.queue ++ queued (locked h.local) h.history.done (place_of h.local) (puts h.local (finds t h c).value)
unfolding thread_behind
access_queue t h c = refl

oldest_member : (q : List Entry) (n : ℕ) → movable q n ≡ true → (e : Entry) × Memᴰ e q × (e.number ≡ oldest_number q)
unfolding movable oldest_number
oldest_member [] n m = absurd (false≢true m)
oldest_member (y ∷ q) n m = (y, Memᴰ.head refl, refl)

-- A STEP OF ANOTHER BYTE does not make c wait
module _ (σ : State) (g : Regular σ) (a c : ℕ) (m : enabled σ a ≡ true) (n : enabled σ c ≡ true) (ne : a ≢ c) (quiet : Quiet σ c) where
  abbrev k : Kind
  k = kind_of a

  abbrev t : ℕ
  t = owner a

  abbrev j : Kind
  j = kind_of c

  abbrev u : ℕ
  u = owner c

  abbrev τ : State
  τ = step σ a

  -- a read of another thread, and a put of c at its location
  reads_first : t ≢ u → (action σ a).location ≡ (action (step σ a) c).location → (action σ a).reads ≡ true → (action (step σ a) c).puts ≡ true → ⊥
  unfolding step
  reads_first d l p q =
      let x = act_reads σ a p in
      let y = act_puts τ c q in
      let same = thread_other σ k t u (λ i. d (sym i)) in
      let f : fears j (thread_of σ u) ≡ some true = ap (fears j) (sym same) ∙ fears_put j u (thread_of τ u) (cell_of τ (place τ j u)) y.0 y.1 in
      let at : place σ k t ≡ place σ j u = sym (act_location σ a) ∙ l ∙ act_location τ c ∙ place_other σ k t j u (λ i. d (sym i)) in
      let at' : place_of (thread_of σ t).local ≡ place σ j u = sym (target_access (thread_of σ t)) ∙ ap (λ (b : Kind). target b (thread_of σ t)) (sym x.0) ∙ sym (place_is σ k t) ∙ at in
      no_read (place σ j u) (thread_of σ t) (able_pending (thread_of σ t) (length σ.cells) (subst (λ (b : Kind). able b (thread_of σ t) (length σ.cells) ≡ true) x.0 (enabled_able σ a m)))
      (subst (λ (o : Option Bool). wakes o (place σ j u) (thread_of σ t) ≡ false) f (quiet t d)) at'

  -- of another thread
  other : t ≢ u → Because (action σ a) (action (step σ a) c) → ⊥
  unfolding step
  other d (made p q r) = d (ap (λ (x : Event). x.0) (sym (act_event σ a) ∙ r ∙ act_event τ c))
  other d (emptied p q r) = d (ap (λ (x : Event). x.0) (sym (act_event σ a)) ∙ r ∙ ap (λ (x : Event). x.0) (act_event τ c))
  other d (both_put l p q) =
      let x = act_puts σ a p in
      let y = act_puts τ c q in
      let same = thread_other σ k t u (λ i. d (sym i)) in
      let f : fears j (thread_of σ u) ≡ some true = ap (fears j) (sym same) ∙ fears_put j u (thread_of τ u) (cell_of τ (place τ j u)) y.0 y.1 in
      let at : place σ k t ≡ place σ j u = sym (act_location σ a) ∙ l ∙ act_location τ c ∙ place_other σ k t j u (λ i. d (sym i)) in
      no_put true (place σ j u) k t (thread_of σ t) (cell_of σ (place σ k t)) (length σ.cells) x.0 (enabled_able σ a m)
      (subst (λ (o : Option Bool). wakes o (place σ j u) (thread_of σ t) ≡ false) f (quiet t d)) (sym (place_is σ k t) ∙ at) x.1
  other d (read_behind l p q r) =
      let x = act_puts σ a p in
      let y = act_reads τ c q in
      let same = thread_other σ k t u (λ i. d (sym i)) in
      let f = fears_read (thread_of σ u) (ap (λ (h : Thread). takes h.local) (sym same) ∙ y.1) in
      let e : fears j (thread_of σ u) ≡ some f.0 = ap (λ (b : Kind). fears b (thread_of σ u)) y.0 ∙ f.1 in
      let at : place σ k t ≡ place σ j u = sym (act_location σ a) ∙ l ∙ act_location τ c ∙ place_other σ k t j u (λ i. d (sym i)) in
      no_put f.0 (place σ j u) k t (thread_of σ t) (cell_of σ (place σ k t)) (length σ.cells) x.0 (enabled_able σ a m)
      (subst (λ (o : Option Bool). wakes o (place σ j u) (thread_of σ t) ≡ false) e (quiet t d)) (sym (place_is σ k t) ∙ at) x.1
  other d (initial_first l p q r) = reads_first d l p q
  other d (source_first l p q r) = reads_first d l p q

  -- an access of its own thread, where c is a move
  own_access : kind_of a ≡ access → kind_of c ≡ move → owner a ≡ owner c → Because (action σ a) (action (step σ a) c) → ⊥
  unfolding step initial_write
  own_access ka kc o = go
    where
      h : Thread
      h = thread_of σ (owner a)

      able_a : able access (thread_of σ (owner a)) (length σ.cells) ≡ true
      able_a = subst (λ (b : Kind). able b (thread_of σ (owner a)) (length σ.cells) ≡ true) ka (enabled_able σ a m)

      goes : movable (thread_of σ (owner a)).queue (length σ.cells) ≡ true
      goes = able_movable (thread_of σ (owner a)) (length σ.cells)
          (subst (λ (x : ℕ). able move (thread_of σ x) (length σ.cells) ≡ true) (sym o) (subst (λ (b : Kind). able b (thread_of σ (owner c)) (length σ.cells) ≡ true) kc (enabled_able σ c n)))

      unlocked : locked (thread_of σ (owner a)).local ≡ false
      unlocked = free_movable (locked (thread_of σ (owner a)).local) (thread_of σ (owner a)).queue (length σ.cells) goes (able_free (thread_of σ (owner a)) (length σ.cells) able_a)

      puts_none : putting σ (kind_of a) (owner a) ≡ none
      puts_none = ap (λ (b : Kind). reaches b (owner a) (thread_of σ (owner a)) (cell_of σ (place σ (kind_of a) (owner a)))) ka ∙ quiet_access (owner a) (thread_of σ (owner a)) (cell_of σ (place σ (kind_of a) (owner a))) unlocked

      no_puts : (action σ a).puts ≡ true → ⊥
      no_puts p = let x = act_puts σ a p in none_some x.0 (sym puts_none ∙ x.1)

      -- the queue behind it
      old : List Entry
      old = (thread_of σ (owner a)).queue

      new : List Entry
      new = queued (locked (thread_of σ (owner a)).local) (thread_of σ (owner a)).history.done (place_of (thread_of σ (owner a)).local)
          (puts (thread_of σ (owner a)).local (finds (owner a) (thread_of σ (owner a)) (cell_of σ (place σ (kind_of a) (owner a)))).value)

      queue : (thread_of (step σ a) (owner c)).queue ≡ old ++ new
      queue =
          ap (λ (x : ℕ). (thread_of (step_of σ (kind_of a) (owner a)) x).queue) (sym o)
          ∙ ap (λ (x : Thread). x.queue) (thread_own σ (kind_of a) (owner a) (able_range σ (kind_of a) (owner a) (length σ.cells) (enabled_able σ a m)))
          ∙ ap (λ (b : Kind). (thread_behind b (owner a) (thread_of σ (owner a)) (cell_of σ (place σ (kind_of a) (owner a)))).queue) ka
          ∙ access_queue (owner a) (thread_of σ (owner a)) (cell_of σ (place σ (kind_of a) (owner a)))

      number : number_of (kind_of c) (thread_of (step σ a) (owner c)) ≡ oldest_number old
      number = ap (λ (b : Kind). number_of b (thread_of (step σ a) (owner c))) kc ∙ number_move (thread_of (step σ a) (owner c)) ∙ ap oldest_number queue ∙ number_front old new (length σ.cells) goes

      there : place (step σ a) (kind_of c) (owner c) ≡ oldest_place old
      there = place_is (step σ a) (kind_of c) (owner c) ∙ ap (λ (b : Kind). target b (thread_of (step σ a) (owner c))) kc ∙ target_move (thread_of (step σ a) (owner c)) ∙ ap oldest_place queue ∙ place_front old new (length σ.cells) goes

      made_not : (action σ a).event ≡ (action (step σ a) c).event → ⊥
      made_not r =
          let i : number_of (kind_of a) (thread_of σ (owner a)) ≡ number_of (kind_of c) (thread_of (step σ a) (owner c)) = ap (λ (x : Event). x.1) (sym (act_event σ a) ∙ r ∙ act_event (step σ a) c) in
          let d : number_of (kind_of a) (thread_of σ (owner a)) ≡ (thread_of σ (owner a)).history.done = ap (λ (b : Kind). number_of b (thread_of σ (owner a))) ka ∙ number_access (thread_of σ (owner a)) in
          let x = oldest_member old (length σ.cells) goes in
          let b = within_in (g.stores (owner a)).floor old (thread_of σ (owner a)).history.done x.0 (g.stores (owner a)).within x.1 in
          omega (arith, i, d, number, x.2, b.1)

      -- the newest entry at the move's location is its source
      source : (action σ a).location ≡ (action (step σ a) c).location → (action σ a).reads ≡ true → (x : Entry) × Memᴰ x old × ((action σ a).source ≡ (owner a, x.number))
      source l p =
          let at : place_of (thread_of σ (owner a)).local ≡ oldest_place old =
          sym (target_access (thread_of σ (owner a))) ∙ ap (λ (b : Kind). target b (thread_of σ (owner a))) (sym ka) ∙ sym (place_is σ (kind_of a) (owner a)) ∙ sym (act_location σ a) ∙ l ∙ act_location (step σ a) c ∙ there in
          let x = newest_some old (length σ.cells) (place_of (thread_of σ (owner a)).local) goes (sym at) in (
            x.0,
            (newest_in old (place_of (thread_of σ (owner a)).local) x.0 x.1).0,
            act_source σ a p ∙ own_source (owner a) (thread_of σ (owner a)) (cell_of σ (place σ (kind_of a) (owner a))) x.0 x.1,
          )

      go : Because (action σ a) (action (step σ a) c) → ⊥
      go (made p q r) = made_not r
      go (emptied p q r) = access≢move (sym ka ∙ act_move σ a p)
      go (both_put l p q) = no_puts p
      go (read_behind l p q r) = no_puts p
      go (initial_first l p q r) =
          let x = source l p in
          initial_not (owner a) x.0.number (enabled_small σ a m) (sym x.2 ∙ r)
        where
          initial_not : (t i : ℕ) → t < 6 → (t, i) ≡ initial_write → ⊥
          initial_not t i h e = omega (arith, ap (λ (x : Event). x.0) e)
      go (source_first l p q r) =
          let x = source l p in
          let y = act_puts (step σ a) c q in
          let w : (action (step σ a) c).before ≡ (cell_of σ (place (step σ a) (kind_of c) (owner c))).writes =
          act_before (step σ a) c y.0 y.1 ∙ ap (λ (d : Cell). d.writes) (kept (place (step σ a) (kind_of c) (owner c))) in
          let i = subst (Memᴰ (owner a, x.0.number)) w (subst (λ (e : Event). Memᴰ e (action (step σ a) c).before) x.2 r) in
          let b = (g.stores (owner a)).below (place (step σ a) (kind_of c) (owner c)) (owner a, x.0.number) i refl in
          let d = within_in (g.stores (owner a)).floor old (thread_of σ (owner a)).history.done x.0 (g.stores (owner a)).within x.1 in
          omega (arith, b, d.0)
        where
          kept : (l : ℕ) → cell_of (step σ a) l ≡ cell_of σ l
          kept l = still_cell σ (kind_of a) (owner a) l puts_none

  -- a move of its own thread, where c is an access
  own_move : kind_of a ≡ move → kind_of c ≡ access → owner a ≡ owner c → Because (action σ a) (action (step σ a) c) → ⊥
  unfolding step
  own_move ka kc o = go
    where
      able_c : able access (thread_of σ (owner c)) (length σ.cells) ≡ true
      able_c = subst (λ (b : Kind). able b (thread_of σ (owner c)) (length σ.cells) ≡ true) kc (enabled_able σ c n)

      goes : movable (thread_of σ (owner c)).queue (length σ.cells) ≡ true
      goes = able_movable (thread_of σ (owner c)) (length σ.cells)
          (subst (λ (x : ℕ). able move (thread_of σ x) (length σ.cells) ≡ true) o (subst (λ (b : Kind). able b (thread_of σ (owner a)) (length σ.cells) ≡ true) ka (enabled_able σ a m)))

      core : (thread_of (step σ a) (owner c)).local ≡ (thread_of σ (owner c)).local
      core = (step_of_core σ (kind_of a) (owner a) (owner c) (enabled_able σ a m) (λ e i. access≢move (sym e ∙ ka))).0

      unlocked : locked (thread_of (step σ a) (owner c)).local ≡ false
      unlocked = ap locked core ∙ free_movable (locked (thread_of σ (owner c)).local) (thread_of σ (owner c)).queue (length σ.cells) goes (able_free (thread_of σ (owner c)) (length σ.cells) able_c)

      puts_none : putting (step σ a) (kind_of c) (owner c) ≡ none
      puts_none =
          ap (λ (b : Kind). reaches b (owner c) (thread_of (step σ a) (owner c)) (cell_of (step σ a) (place (step σ a) (kind_of c) (owner c)))) kc
          ∙ quiet_access (owner c) (thread_of (step σ a) (owner c)) (cell_of (step σ a) (place (step σ a) (kind_of c) (owner c))) unlocked

      no_puts : (action (step σ a) c).puts ≡ true → ⊥
      no_puts p = let x = act_puts (step σ a) c p in none_some x.0 (sym puts_none ∙ x.1)

      no_reads : (action σ a).reads ≡ true → ⊥
      no_reads p = access≢move (sym (act_reads σ a p).0 ∙ ka)

      go : Because (action σ a) (action (step σ a) c) → ⊥
      go (made p q r) = access≢move (sym (act_access σ a p) ∙ ka)
      go (emptied p q r) = true≢false (sym (act_locks (step σ a) c q).1 ∙ unlocked)
      go (both_put l p q) = no_puts q
      go (read_behind l p q r) = r (source ∙ ap (λ (x : Event). x.0) (sym (act_event (step σ a) c)))
        where
          at : place (step σ a) (kind_of c) (owner c) ≡ place σ (kind_of a) (owner a)
          at = sym (act_location (step σ a) c) ∙ sym l ∙ act_location σ a

          cell : (latest (cell_of (step σ a) (place (step σ a) (kind_of c) (owner c))).writes).0 ≡ owner c
          cell =
              let x = act_puts σ a p in
              let w = wrote_own σ (kind_of a) (owner a) (place (step σ a) (kind_of c) (owner c)) x.0 (place_in σ g (kind_of a) (owner a) (enabled_able σ a m)) at x.1 in
              ap (λ (e : Event). e.0) (latest_cons _ (owner a, number_of (kind_of a) (thread_of σ (owner a))) _ w.0) ∙ o

          source : (action (step σ a) c).source.0 ≡ owner c
          source = ap (λ (e : Event). e.0) (act_source (step σ a) c q) ∙ finds_latest (owner c) (thread_of (step σ a) (owner c)) (cell_of (step σ a) (place (step σ a) (kind_of c) (owner c))) cell
      go (initial_first l p q r) = no_reads p
      go (source_first l p q r) = no_reads p

  pub independent : dependent (action σ a) (action (step σ a) c) ≡ false
  independent = not_dependent (action σ a) (action (step σ a) c) (go (ℕ_discrete (owner a) (owner c)) (kind_of a) refl (kind_of c) refl)
    where
      go : Dec (owner a ≡ owner c) → (x : Kind) → kind_of a ≡ x → (y : Kind) → kind_of c ≡ y → Because (action σ a) (action (step σ a) c) → ⊥
      go (no d) x p y q = other d
      go (yes d) access p move q = own_access p q d
      go (yes d) move p access q = own_move p q d
      go (yes d) access p access q = λ b. ne (byte_of a c (p ∙ sym q) d)
      go (yes d) move p move q = λ b. ne (byte_of a c (p ∙ sym q) d)

-- ---- WHAT IS LEFT TO A THREAD ONLY SHRINKS
no_entry : (l : ℕ) (q : List Entry) → ((e : Entry) → Memᴰ e q → e.location ≡ l → ⊥) → any (λ (e : Entry). eqb e.location l) q ≡ false
no_entry l q h = go (any (λ (e : Entry). eqb e.location l) q) refl
  where
    go : (b : Bool) → any (λ (e : Entry). eqb e.location l) q ≡ b → any (λ (e : Entry). eqb e.location l) q ≡ false
    go true e = let r = any_yes (λ (e : Entry). eqb e.location l) q e in absurd (h r.0 r.1 (eqb-true r.0.location l r.2))
    go false e = e

entry_not : (l : ℕ) (q : List Entry) → any (λ (e : Entry). eqb e.location l) q ≡ false → (e : Entry) → Memᴰ e q → e.location ≡ l → ⊥
entry_not l q a e m i = true≢false (sym (eq-eqb e.location l i) ∙ any_no (λ (e : Entry). eqb e.location l) q e a m)

queue_behind : (w : Bool) (l : ℕ) (k : Kind) (t : ℕ) (h : Thread) (c : Cell) (n : ℕ) → able k h n ≡ true → wakes (some w) l h ≡ false → (e : Entry) → Memᴰ e (thread_behind k t h c).queue → e.location ≡ l → ⊥
unfolding thread_behind
queue_behind w l move t h c n m q e i o = entry_not l h.queue (wakes_some w l h q).0 e (newer_in h.queue e i) o
queue_behind w l access t h c n m q e i o = ⊎_elim (λ (x : Memᴰ e h.queue). entry_not l h.queue (wakes_some w l h q).0 e x o)
    (λ (x : Memᴰ e (queued (locked h.local) h.history.done (place_of h.local) (puts h.local (finds t h c).value))). new x)
    (Memᴰ.append_cases h.queue i)
  where
    new : Memᴰ e (queued (locked h.local) h.history.done (place_of h.local) (puts h.local (finds t h c).value)) → ⊥
    new x =
        let y = queued_in (locked h.local) h.history.done (place_of h.local) (puts h.local (finds t h c).value) e x in
        ⊎_elim (λ (z : place_of h.local ≢ l). z (sym y.1 ∙ o)) (λ (z : (w ≡ false) × ((v : ℕ) → puts h.local v ≡ none)). none_some e.value (sym (z.1 (finds t h c).value) ∙ y.0))
        (elsewhere l w h.local (able_pending h n m) (wakes_some w l h q).1)

wakes_step_of : (o : Option Bool) (l : ℕ) (σ : State) (k : Kind) (t : ℕ) → able k (thread_of σ t) (length σ.cells) ≡ true → (u : ℕ) → wakes o l (thread_of σ u) ≡ false → wakes o l (thread_of (step_of σ k t) u) ≡ false
unfolding wakes
wakes_step_of none l σ k t m u e = refl
wakes_step_of (some w) l σ k t m u e = some_wakes w l (thread_of (step_of σ k t) u)
    (no_entry l (thread_of (step_of σ k t) u).queue (thread_cases (λ i x. wakes (some w) l (thread_of σ i) ≡ false → (y : Entry) → Memᴰ y x.queue → y.location ≡ l → ⊥) σ k t (able_range σ k t (length σ.cells) m)
    (λ q. queue_behind w l k t (thread_of σ t) (cell_of σ (place σ k t)) (length σ.cells) m q) u (λ d q y i. entry_not l (thread_of σ u).queue (wakes_some w l (thread_of σ u) q).0 y i) e))
    (meet_end l w (thread_of σ u).local (thread_of (step_of σ k t) u).local (rest_step_of σ k t m u) (wakes_some w l (thread_of σ u) e).1)

wakes_step : (o : Option Bool) (l : ℕ) (σ : State) (a : ℕ) → enabled σ a ≡ true → (u : ℕ) → wakes o l (thread_of σ u) ≡ false → wakes o l (thread_of (step σ a) u) ≡ false
unfolding step
wakes_step o l σ a m u e = wakes_step_of o l σ (kind_of a) (owner a) (enabled_able σ a m) u e

-- what c fears, and where, stays
fears_access : (h k : Thread) → h.local ≡ k.local → fears access h ≡ fears access k
unfolding fears
fears_access h k e = ap (λ (x : Local). elim (locked x) [ true ↦ some true | false ↦ elim (takes x) [ true ↦ some false | false ↦ none ] ]) e

fears_move : (h k : Thread) → fears move h ≡ fears move k
unfolding fears
fears_move h k = refl

module _ (σ : State) (a c : ℕ) (m : enabled σ a ≡ true) (n : enabled σ c ≡ true) (ne : a ≢ c) where
  waits : (fears (kind_of c) (thread_of (step σ a) (owner c)) ≡ fears (kind_of c) (thread_of σ (owner c))) × (place (step σ a) (kind_of c) (owner c) ≡ place σ (kind_of c) (owner c))
  unfolding step run
  waits = go (kind_of c) refl
    where
      go : (b : Kind) → kind_of c ≡ b → (fears (kind_of c) (thread_of (step σ a) (owner c)) ≡ fears (kind_of c) (thread_of σ (owner c))) × (place (step σ a) (kind_of c) (owner c) ≡ place σ (kind_of c) (owner c))
      go access e =
          let core = (step_of_core σ (kind_of a) (owner a) (owner c) (enabled_able σ a m) (λ i o. ne (byte_of a c (i ∙ sym e) (sym o)))).0 in
          let f = fears_access (thread_of (step σ a) (owner c)) (thread_of σ (owner c)) core in
          let q : place (step σ a) access (owner c) ≡ place σ access (owner c) =
          place_is (step σ a) access (owner c) ∙ target_access (thread_of (step σ a) (owner c)) ∙ ap place_of core ∙ sym (place_is σ access (owner c) ∙ target_access (thread_of σ (owner c))) in
          (subst (λ (b : Kind). fears b (thread_of (step σ a) (owner c)) ≡ fears b (thread_of σ (owner c))) (sym e) f, subst (λ (b : Kind). place (step σ a) b (owner c) ≡ place σ b (owner c)) (sym e) q)
      go move e =
          let goes = able_movable (thread_of σ (owner c)) (length σ.cells) (subst (λ (b : Kind). able b (thread_of σ (owner c)) (length σ.cells) ≡ true) e (enabled_able σ c n)) in
          let old = run_oldest (a ∷ []) σ c (length σ.cells) e (m, tt) (λ i. ⊎_elim (λ (x : c ≡ a). ne (sym x)) (λ (x : Memᴰ c []). Memᴰ.not-nil x) (Memᴰ.cases_cons i)) goes in
          let q : place (step σ a) move (owner c) ≡ place σ move (owner c) = place_is (step σ a) move (owner c) ∙ old.target ∙ sym (place_is σ move (owner c)) in (
            subst (λ (b : Kind). fears b (thread_of (step σ a) (owner c)) ≡ fears b (thread_of σ (owner c))) (sym e) (fears_move (thread_of (step σ a) (owner c)) (thread_of σ (owner c))),
            subst (λ (b : Kind). place (step σ a) b (owner c) ≡ place σ b (owner c)) (sym e) q,
          )

  quiet_step : Quiet σ c → Quiet (step σ a) c
  quiet_step quiet u d =
      ap₂ (λ (o : Option Bool) (l : ℕ). wakes o l (thread_of (step σ a) u)) waits.0 waits.1
      ∙ wakes_step (fears (kind_of c) (thread_of σ (owner c))) (place σ (kind_of c) (owner c)) σ a m u (quiet u d)

-- ---- UNTIL IT STEPS c does the same, and depends on nothing
pub quiet_passed : (x : Schedule) (σ : State) (c : ℕ) → Regular σ → Allowed TSO σ x → (Memᴰ c x → ⊥) → enabled σ c ≡ true → Quiet σ c → (action (run TSO σ x) c ≡ action σ c) × Passed who dependent (actions σ x) (action σ c)
unfolding run trace
quiet_passed [] σ c g al not_yet n q = (refl, tt)
quiet_passed (a ∷ x) σ c g al not_yet n q =
    let ne : a ≢ c = λ i. not_yet (Memᴰ.head (sym i)) in
    let d = independent σ g a c al.0 n ne q in
    let s = stays σ a c ne al.0 n in
    let e = (swap σ a c ne al.0 s d).1 in
    let r = quiet_passed x (step σ a) c (regular_step σ a g al.0) al.1 (λ i. not_yet (Memᴰ.tail i)) s (quiet_step σ a c al.0 n ne q) in (
      r.0 ∙ e,
      ((λ i. ne (sym (action_who σ a) ∙ i ∙ action_who σ c)), subst (λ (y : Action). dependent (action σ a) y ≡ false) e d, subst (Passed who dependent (actions (step σ a) x)) e r.1),
    )

-- a thread that does not exist wakes nothing
nothing_wakes : (o : Option Bool) (l : ℕ) → wakes o l no_thread ≡ false
unfolding wakes no_thread idle SC.no_thread any could_meet
nothing_wakes none l = refl
nothing_wakes (some w) l = refl

quiet_of : (σ : State) (c : ℕ) → Regular σ → unwoken σ c ≡ true → Quiet σ c
unfolding unwoken
quiet_of σ c g e u ne = go (dec_lt u 6)
  where
    test : ℕ → Bool
    test u = eqb u (owner c) || not (wakes (fears (kind_of c) (thread_of σ (owner c))) (place σ (kind_of c) (owner c)) (thread_of σ u))

    passed : test u ≡ true → wakes (fears (kind_of c) (thread_of σ (owner c))) (place σ (kind_of c) (owner c)) (thread_of σ u) ≡ false
    passed k = let q = ne_eqb u (owner c) ne in not-true _ (rw q at k)

    go : Dec (u < 6) → wakes (fears (kind_of c) (thread_of σ (owner c))) (place σ (kind_of c) (owner c)) (thread_of σ u) ≡ false
    go (yes h) = passed (all_at test (range 0 6) u e (in_range_lem 0 6 u (omega arith) h))
    go (no h) = ap (wakes (fears (kind_of c) (thread_of σ (owner c))) (place σ (kind_of c) (owner c))) (missing σ u (omega (arith, g.six))) ∙ nothing_wakes (fears (kind_of c) (thread_of σ (owner c))) (place σ (kind_of c) (owner c))

-- R3: behind a prefix that leaves a byte asleep for good
pub asleep_smaller : (p : Program) → Admitted tso p → (v z : Schedule) (c : ℕ) → asleep p v (end_of p v) c ≡ true → Full p (v ++ z) → Smaller tso p (v ++ z)
unfolding asleep
asleep_smaller p a v z c e f =
    let σ : State = end_of p v in
    let n = both (enabled σ c) _ e in
    let l = both (late (taken p v) (action σ c)) _ n.1 in
    let s = full_split TSO (start p) v z f in
    let h = first_place_lem c z (occurs σ c z n.0 s.1) in
    let g = regular_run v (start p) (regular_start p a.0) s.0 in
    let y = full_split TSO σ h.0 (c ∷ h.1) (subst (FullFrom TSO σ) h.2 s.1) in
    let r = quiet_passed h.0 σ c g y.0 h.3 n.0 (quiet_of σ c g l.1) in
    let eq : v ++ z ≡ (v ++ h.0) ++ (c ∷ h.1) = ap (λ (k : Schedule). v ++ k) h.2 ∙ sym (append_assoc v h.0 (c ∷ h.1)) in
    let same : action (end_of p (v ++ h.0)) c ≡ action σ c = ap (λ (τ : State). action τ c) (run_append TSO (start p) v h.0) ∙ r.0 in
    subst (Smaller tso p) (sym eq)
    (passing_smaller tso tso_laws p a v h.0 c h.1 (subst (λ (d : Action). late (taken p v) d ≡ true) (sym same) l.0)
    (subst (Passed who dependent (actions σ h.0)) (sym same) r.1) (subst (Full p) eq f))
