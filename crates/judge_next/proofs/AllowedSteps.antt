-- Whether a step fits, read off its note and the tables.
use Prim.Native.Nat.{ℕ, zero, suc, ◌+◌, ◌*◌, ◌<◌}
use mathlib.Core.Path.{◌≡◌, refl, sym, ap, ap₂, subst, ◌∙◌}
use mathlib.Core.Bool.{Bool, true, false, cond, ◌&&◌}
use mathlib.Core.Option.{Option, none, some}
use mathlib.Core.List.{List, [], ◌∷◌, reverse}
use native.Mathlib.Omega.{arith}
use borrow.Author.Tests.{ne_eqb}
use lib.Dec.{eqb}
use lib.ListN.{length, get_or}
use Rattle.spec_schedules.specs.Lists.{any}
use Rattle.machine.specs.declared.state.Machine.{Machine}
use Rattle.spec_sc.specs.Local.{place_of, takes, puts}
use Rattle.spec_sc.specs.State.{Event, initial_write, Cell, State, thread_of, cell_of, latest, place, enabled}
use Rattle.spec_sc.specs.Graph.{Graph}
use Rattle.spec_sc.specs.Actions.{given, writes}
use Rattle.graph_writer.specs.Notes.{note, note_bytes}
use Rattle.spec_judge.specs.Consistent.{row_of, order_of, Values}
use Rattle.spec_sc.specs.Same.{same_event, same_read}
use Rattle.spec_judge.proofs.Walk.{none_waits, next_write, read_fits, write_fits, fits}
use Rattle.graph_reader.specs.Held.{no_line}
use Rattle.judge_next.specs.HeldWalk.{Drawn, Ordering, Ranged, NoteOf, read_allowed, write_allowed}
use Rattle.graph_reader.proofs.TabledGraph.{read_test}

-- what stands behind a list's end does not matter to an event that is neither
default_free : (ws : List Event) (k : ℕ) (a b e : Event) → same_event a e ≡ same_event b e → same_event (get_or ws k a) e ≡ same_event (get_or ws k b) e
default_free [] k a b e q = q
default_free (w ∷ ws) zero a b e q = refl
default_free (w ∷ ws) (suc k) a b e q = default_free ws k a b e q

no_default : (e : Event) → e.0 < 6 → same_event initial_write e ≡ same_event no_line e
unfolding same_event initial_write no_line
no_default e h = rw (ne_eqb 255 e.0 (λ q. omega arith), ne_eqb 254 e.0 (λ q. omega arith))

module _ (pairs places : List ℕ) (n : ℕ) (m : Machine) (made : List ℕ) (g : Graph) (pl : Values) (σ : State) (t : ℕ) (D : Drawn pairs places n m g pl σ) (Q : Ordering pairs made g σ)
    (small : t < n) where
  abbrev d : ℕ
  d = (thread_of σ t).history.done

  abbrev c : Cell
  c = cell_of σ (place σ t)

  abbrev e : Event
  e = (t, (thread_of σ t).history.done)

  together : (x y z : Bool) → ((x && y) && z) ≡ (x && (y && z))
  together true y z = refl
  together false y z = refl

  tested : d < 16 → ((latest c.writes).0 ≡ 254 → ⊥) → any (λ r. same_read r (d, latest c.writes)) (row_of g t)
      ≡ (eqb (get_or pairs ((t * 16 + d) * 2) 0) (latest c.writes).0 && eqb (get_or pairs ((t * 16 + d) * 2 + 1) 0) (latest c.writes).1)
  unfolding same_event no_line
  tested s mark =
      let x = D.sources t d small s in
      read_test (row_of g t) (D.ordered t) d (latest c.writes) (λ q. mark (ap (λ (y : Event). y.0) q))
      ∙ ap₂ (λ (u v : ℕ). eqb u (latest c.writes).0 && eqb v (latest c.writes).1) (sym x.0) (sym x.1)

  -- the read
  read_part : d < 16 → ((latest c.writes).0 ≡ 254 → ⊥) → read_fits g pl e (thread_of σ t).local c ≡ read_allowed pairs places (note_bytes (note σ t))
  unfolding read_fits note_bytes note place
  read_part s mark = go (takes (thread_of σ t).local) refl
    where
      go : (x : Bool) → takes (thread_of σ t).local ≡ x → read_fits g pl e (thread_of σ t).local c ≡ read_allowed pairs places (note_bytes (note σ t))
      go false q = rw (q, read_fits)
      go true q = rw (q, read_fits) (ap (λ (x : Bool). x && eqb (pl (t, d)) (place_of (thread_of σ t).local)) (tested s mark)
          ∙ together (eqb (get_or pairs ((t * 16 + d) * 2) 0) (latest c.writes).0) (eqb (get_or pairs ((t * 16 + d) * 2 + 1) 0) (latest c.writes).1) (eqb (pl (t, d)) (place_of (thread_of σ t).local))
          ∙ ap (λ (x : ℕ). eqb (get_or pairs ((t * 16 + d) * 2) 0) (latest c.writes).0 && (eqb (get_or pairs ((t * 16 + d) * 2 + 1) 0) (latest c.writes).1 && eqb x (place_of (thread_of σ t).local)))
          (sym (D.places t d small s)))

  -- the write
  order_part : t < 6 → place σ t < 8 → length c.writes < 24 → same_event (next_write (order_of g (place σ t)) (length c.writes)) e ≡ write_allowed pairs made (note_bytes (note σ t))
  unfolding next_write note_bytes note same_event
  order_part six near room =
      let x = Q.orders (place σ t) (length c.writes) near room in
      let k = Q.made (place σ t) near in
      default_free (reverse (order_of g (place σ t))) (length c.writes) initial_write no_line e (no_default e six)
      ∙ ap₂ (λ (u v : ℕ). eqb u t && eqb v d) (sym x.0) (sym x.1)
      ∙ ap (λ (z : ℕ). eqb (get_or pairs ((96 + (place σ t * 24 + z)) * 2) 0) t && eqb (get_or pairs ((96 + (place σ t * 24 + z)) * 2 + 1) 0) d) (sym k)

  write_part : t < 6 → place σ t < 8 → length c.writes < 24 → write_fits g pl σ e (place σ t) c (puts (thread_of σ t).local c.value)
      ≡ cond (eqb (cond (writes σ t) 1 0) 0) true (write_allowed pairs made (note_bytes (note σ t)) && none_waits g pl σ (place σ t) (latest c.writes) e)
  unfolding write_fits writes given
  write_part six near room = go (puts (thread_of σ t).local c.value) refl
    where
      go : (o : Option ℕ) → puts (thread_of σ t).local c.value ≡ o → write_fits g pl σ e (place σ t) c (puts (thread_of σ t).local c.value)
          ≡ cond (eqb (cond (writes σ t) 1 0) 0) true (write_allowed pairs made (note_bytes (note σ t)) && none_waits g pl σ (place σ t) (latest c.writes) e)
      go none q = rw (q, write_fits, given)
      go (some v) q = rw (q, write_fits, given) (ap (λ (x : Bool). x && none_waits g pl σ (place σ t) (latest c.writes) e) (order_part six near room))

-- whether a step fits as a read and as a write, by the note's bytes
pub fits_by : (pairs places : List ℕ) (n : ℕ) (m : Machine) (made : List ℕ) (g : Graph) (pl : Values) (σ : State) (t : ℕ) (b : List ℕ) → Drawn pairs places n m g pl σ → Ordering pairs made g σ
    → enabled σ t ≡ true → t < n → NoteOf b σ t → Ranged b → ((l : ℕ) → get_or made l 0 < 24) → (get_or b 4 0 ≡ 254 → ⊥)
    → fits g pl σ t ≡ (read_allowed pairs places b && cond (eqb (get_or b 6 0) 0) true (write_allowed pairs made b && none_waits g pl σ (get_or b 2 0) (get_or b 4 0, get_or b 5 0) (get_or b 0 0, get_or b 1 0)))
unfolding fits note_bytes note place
fits_by pairs places n m made g pl σ t b D Q ok h e in_range_lem room mark =
    let near : place σ t < 8 = subst (λ (x : List ℕ). get_or x 2 0 < 8) e in_range_lem.location in
    let number : (thread_of σ t).history.done < 16 = subst (λ (x : List ℕ). get_or x 1 0 < 16) e in_range_lem.number in
    let six : t < 6 = subst (λ (x : List ℕ). get_or x 0 0 < 6) e in_range_lem.thread in
    let free : (latest (cell_of σ (place σ t)).writes).0 ≡ 254 → ⊥ = subst (λ (x : List ℕ). get_or x 4 0 ≡ 254 → ⊥) e mark in
    let k = Q.made (place σ t) near in
    rw (e, ok) (ap₂ ◌&&◌ (read_part pairs places n m made g pl σ t D Q h number free) (write_part pairs places n m made g pl σ t D Q h six near (omega (arith, room (place σ t)))))
