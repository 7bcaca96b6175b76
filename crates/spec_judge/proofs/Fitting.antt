-- What the judge's test of a thread says, both ways.
use Prim.Native.Nat.{ℕ, ◌<◌}
use mathlib.Core.Path.{◌≡◌, refl, sym, subst, ◌∙◌}
use mathlib.Core.Logic.{◌≢◌}
use mathlib.Core.Bool.{Bool, true, false, not, ◌&&◌, true≢false}
use mathlib.Core.Option.{Option, none, some}
use mathlib.Core.List.Memᴰ
use mathlib.Core.List.{List, [], Memᴰ}
use native.Mathlib.Omega.{arith}
use native.Mathlib.Decide.{dec_lt}
use borrow.Author.Tests.{ltb-true, lt-ltb, eqb-true, eq-eqb, not-true}
use lib.Dec.{eqb, ltb}
use lib.ListN.{length, get_or-eq_default}
use Rattle.spec_file.proofs.DigitValues.{both}
use Rattle.spec_schedules.specs.Lists.{any, all, range}
use Rattle.spec_schedules.proofs.Lists.{in_range_lem, any_yes, any_of, all_at, all_of}
use Rattle.spec_sc.specs.Local.{Local, place_of, takes, puts}
use Rattle.spec_sc.specs.State.{Event, Thread, Cell, State, thread_of, cell_of, latest, enabled}
use Rattle.spec_sc.specs.Actions.{given}
use Rattle.spec_sc.specs.Graph.{Graph}
use Rattle.spec_sc.proofs.Histories.{upcoming, Done}
use Rattle.spec_judge.specs.Consistent.{row_of, order_of, ReadsFrom}
use Rattle.spec_sc.specs.Same.{same_event, same_read}
use Rattle.spec_judge.proofs.Walk.{waits, none_waits, next_write, read_fits, write_fits, fits}
use Rattle.spec_sc.proofs.Same.{both_and, not_of, same_event_is, is_same_event, differs, is_different, same_read_is, same_read_lem}

module _ (g : Graph) (place : Event → ℕ) where
  -- the event e is next to write its location, and every other read of the last write there is done
  abbrev pub IsNext : Event → ℕ → Cell → (Event → Type 0) → Type 0
  IsNext e l c D = (next_write (order_of g l) (length c.writes) ≡ e) × ((x s : Event) → ReadsFrom g x s → s ≡ latest c.writes → place x ≡ l → x ≢ e → D x)

  -- the graph allows this thread its next access on this cell
  pub record Fit (m : Bool) (t : ℕ) (h : Thread) (c : Cell) (D : Event → Type 0) : Type 0 where
    pub live : m ≡ true
    pub reads : takes h.local ≡ true → ReadsFrom g (t, h.history.done) (latest c.writes) × (place (t, h.history.done) ≡ place_of h.local)
    pub writes : given (puts h.local c.value) ≡ true → IsNext (t, h.history.done) (place_of h.local) c D

  abbrev pub FitAt : State → ℕ → Type 0
  FitAt σ t = Fit (enabled σ t) t (thread_of σ t) (cell_of σ (place_of (thread_of σ t).local)) (Done σ)

  -- a read stands in one of the rows
  pub row_in : (x s : Event) → ReadsFrom g x s → x.0 < length g.reads
  row_in x s k = go (dec_lt x.0 (length g.reads))
    where
      go : Dec (x.0 < length g.reads) → x.0 < length g.reads
      go (yes h) = h
      go (no h) = absurd (Memᴰ.not-nil (subst (λ (w : List (ℕ × Event)). Memᴰ (x.1, s) w) (get_or-eq_default g.reads [] {n = x.0} (omega arith)) k))

  module _ (σ : State) (l : ℕ) (s e : Event) where
    abbrev Waiting : ℕ → ℕ × Event → Type 0
    Waiting u r = (r.1 ≡ s) × (place (u, r.0) ≡ l) × ((u, r.0) ≢ e) × (ltb r.0 (thread_of σ u).history.done ≡ false)

    waits_is : (u : ℕ) (r : ℕ × Event) → waits place σ l s e u r ≡ true → Waiting u r
    unfolding waits
    waits_is u r h =
        let D = not (ltb r.0 (thread_of σ u).history.done) in
        let N = not (same_event (u, r.0) e) in
        let x = both (same_event r.1 s) (eqb (place (u, r.0)) l && (N && D)) h in
        let y = both (eqb (place (u, r.0)) l) (N && D) x.1 in
        let z = both N D y.1 in
        (same_event_is r.1 s x.0, eqb-true (place (u, r.0)) l y.0, differs (u, r.0) e z.0, not-true (ltb r.0 (thread_of σ u).history.done) z.1)

    is_waits : (x q : Event) → q ≡ s → place x ≡ l → x ≢ e → (Done σ x → ⊥) → waits place σ l s e x.0 (x.1, q) ≡ true
    unfolding waits
    is_waits x q i j n d = both_and (is_same_event q s i) (both_and (eq-eqb (place x) l j)
        (both_and (is_different x e n) (not_of (ltb x.1 (thread_of σ x.0).history.done) (λ k. d (ltb-true x.1 (thread_of σ x.0).history.done k)))))

    abbrev Free : Type 0
    Free = (x q : Event) → ReadsFrom g x q → q ≡ s → place x ≡ l → x ≢ e → Done σ x

    free_is : none_waits g place σ l s e ≡ true → Free
    unfolding none_waits
    free_is h x q k i j n = go (dec_lt x.1 (thread_of σ x.0).history.done)
      where
        go : Dec (Done σ x) → Done σ x
        go (yes d) = d
        go (no d) =
            let a = all_at (λ u. all (λ r. not (waits place σ l s e u r)) (row_of g u)) (range 0 (length g.reads)) x.0 h
            (in_range_lem 0 (length g.reads) x.0 (omega arith) (omega (arith, row_in x q k))) in
            let b = all_at (λ r. not (waits place σ l s e x.0 r)) (row_of g x.0) (x.1, q) a k in
            absurd (true≢false (sym (is_waits x q i j n d) ∙ not-true (waits place σ l s e x.0 (x.1, q)) b))

    is_free_lem : Free → none_waits g place σ l s e ≡ true
    unfolding none_waits
    is_free_lem h = all_of (λ u. all (λ r. not (waits place σ l s e u r)) (row_of g u)) (range 0 (length g.reads))
        (λ u i. all_of (λ r. not (waits place σ l s e u r)) (row_of g u) (λ r k. not_of (waits place σ l s e u r) (λ w. bad u r k (waits_is u r w))))
      where
        bad : (u : ℕ) (r : ℕ × Event) → Memᴰ r (row_of g u) → Waiting u r → ⊥
        bad u r k w = true≢false (sym (lt-ltb r.0 (thread_of σ u).history.done (h (u, r.0) r.1 k w.0 w.1 w.2)) ∙ w.3)

  abbrev Sourced : Event → Local → Cell → Type 0
  Sourced e h c = ReadsFrom g e (latest c.writes) × (place e ≡ place_of h)

  read_is : (e : Event) (h : Local) (c : Cell) → read_fits g place e h c ≡ true → takes h ≡ true → Sourced e h c
  unfolding read_fits
  read_is e h c f k =
      let s : ℕ × Event = (e.1, latest c.writes) in
      let x = both (any (λ r. same_read r s) (row_of g e.0)) (eqb (place e) (place_of h)) (rw (k, read_fits) at f) in
      let y = any_yes (λ r. same_read r s) (row_of g e.0) x.0 in
      (subst (λ (r : ℕ × Event). Memᴰ r (row_of g e.0)) (same_read_is y.0 s y.2) y.1, eqb-true (place e) (place_of h) x.1)

  is_read_lem : (e : Event) (h : Local) (c : Cell) → (takes h ≡ true → Sourced e h c) → read_fits g place e h c ≡ true
  unfolding read_fits
  is_read_lem e h c f = go (takes h) refl
    where
      go : (b : Bool) → takes h ≡ b → read_fits g place e h c ≡ true
      go false k = rw (k, read_fits)
      go true k =
          let x = f k in
          rw (k, read_fits) (both_and (any_of (λ r. same_read r (e.1, latest c.writes)) (row_of g e.0) (e.1, latest c.writes) x.0
          (same_read_lem (e.1, latest c.writes))) (eq-eqb (place e) (place_of h) x.1))

  write_is : (σ : State) (e : Event) (l : ℕ) (c : Cell) (o : Option ℕ) → write_fits g place σ e l c o ≡ true → given o ≡ true → IsNext e l c (Done σ)
  unfolding write_fits given
  write_is σ e l c none f k = absurd (true≢false (sym k))
  write_is σ e l c (some x) f k =
      let y = both (same_event (next_write (order_of g l) (length c.writes)) e) (none_waits g place σ l (latest c.writes) e) f in
      (same_event_is (next_write (order_of g l) (length c.writes)) e y.0, free_is σ l (latest c.writes) e y.1)

  is_write : (σ : State) (e : Event) (l : ℕ) (c : Cell) (o : Option ℕ) → (given o ≡ true → IsNext e l c (Done σ)) → write_fits g place σ e l c o ≡ true
  unfolding write_fits given
  is_write σ e l c none f = refl
  is_write σ e l c (some x) f = let y = f refl in both_and (is_same_event (next_write (order_of g l) (length c.writes)) e y.0) (is_free_lem σ l (latest c.writes) e y.1)

  module _ (σ : State) (t : ℕ) where
    abbrev h : Local
    h = (thread_of σ t).local

    abbrev c : Cell
    c = cell_of σ (place_of h)

    pub fits_is : fits g place σ t ≡ true → FitAt σ t
    unfolding fits
    fits_is f =
        let e = upcoming σ t in
        let x = both (enabled σ t) (read_fits g place e h c && write_fits g place σ e (place_of h) c (puts h c.value)) f in
        let y = both (read_fits g place e h c) (write_fits g place σ e (place_of h) c (puts h c.value)) x.1 in
        record { live = x.0; reads = read_is e h c y.0; writes = write_is σ e (place_of h) c (puts h c.value) y.1 }

    pub is_fits : FitAt σ t → fits g place σ t ≡ true
    unfolding fits
    is_fits F = both_and F.live (both_and (is_read_lem (upcoming σ t) h c F.reads) (is_write σ (upcoming σ t) (place_of h) c (puts h c.value) F.writes))
