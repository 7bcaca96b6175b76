-- One write of a `41` line after the other, tested against the marks and marked.
use Prim.Native.Nat.{ℕ, ◌+◌, ◌*◌, ◌<◌}
use mathlib.Core.Path.{◌≡◌, sym, ap, ap₂, ◌∙◌}
use mathlib.Core.Bool.{Bool, true, false, not, ◌&&◌}
use mathlib.Core.List.{List, [], ◌∷◌}
use native.Mathlib.Omega.{arith}
use lib.ListN.{length, get_or, set, drop}
use Rattle.spec_schedules.proofs.Lists.{all_cons}
use Rattle.spec_file.proofs.DigitValues.{both}
use Rattle.spec_schedules.specs.Lists.{all}
use Rattle.spec_sc.specs.State.{Event}
use Rattle.spec_sc.specs.Text.{events_in}
use Rattle.spec_judge.specs.Reading.{Frame, byte_at, is_event, all_new}
use Rattle.graph_reader.specs.Held.{Seen, marked_by}
use Rattle.spec_judge.proofs.Readable.{Named, event_is}
use Rattle.graph_reader.proofs.LineWrites.{event_here}
use Rattle.graph_reader.proofs.Marks.{new_first}

module _ (f : Frame) (k t i : ℕ) (inside : 2 * k + 1 < length f) (first : t ≡ byte_at f (2 * k)) (second : i ≡ byte_at f (2 * k + 1)) where
  abbrev rest : List Event
  rest = events_in (drop (2 * (k + 1)) f)

  here : events_in (drop (2 * k) f) ≡ (t, i) ∷ rest
  here = event_here f k inside ∙ ap₂ (λ (x y : ℕ). let z : Event = (x, y) in z ∷ rest) (sym first) (sym second)

  -- the event at the turn is in range, and so are those behind it
  pub iteration_named : all (is_event 6) (events_in (drop (2 * k) f)) ≡ true → Named 6 (t, i) × (all (is_event 6) rest ≡ true)
  iteration_named h =
      let r = both (is_event 6 (t, i)) (all (is_event 6) rest) (sym (all_cons (is_event 6) (t, i) rest) ∙ ap (all (is_event 6)) (sym here) ∙ h) in
      (event_is 6 (t, i) r.0, r.1)

  -- the event at the turn is marked
  pub iteration_marked : (s : List Bool) → marked_by s (events_in (drop (2 * k) f)) ≡ marked_by (set s (t * 16 + i) true) rest
  unfolding marked_by
  iteration_marked s = ap (marked_by s) here

  module _ (s : List Bool) (rows : List (List Event)) (n : Named 6 (t, i)) (S : Seen s rows) where
    tested : all_new rows (events_in (drop (2 * k) f)) ≡ (not (get_or s (t * 16 + i) false) && all_new (((t, i) ∷ []) ∷ rows) rest)
    tested =
        ap (all_new rows) here ∙ new_first (t, i) rows rest
        ∙ ap (λ (b : Bool). not b && all_new (((t, i) ∷ []) ∷ rows) rest) (sym (S t i n.0 (omega (arith, n.1))))

    -- the event at the turn has a mark: some event comes twice
    pub iteration_found : get_or s (t * 16 + i) false ≡ true → all_new rows (events_in (drop (2 * k) f)) ≡ false
    iteration_found h = tested ∙ rw h

    -- the event at the turn has no mark: the events behind it decide
    pub iteration_next : get_or s (t * 16 + i) false ≡ false → all_new rows (events_in (drop (2 * k) f)) ≡ all_new (((t, i) ∷ []) ∷ rows) rest
    iteration_next h = tested ∙ rw h
