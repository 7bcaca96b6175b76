-- THE KEY OF A SPOT: what its arrays hold is what the key has, part by part; and the parts put together are its words.
use Prim.Native.Nat.{ℕ, zero, suc, ◌+◌, ◌-◌, ◌*◌, ◌^◌, ◌<◌, ◌≤◌}
use mathlib.Core.Path.{◌≡◌, refl, sym, ap, ap₂, ◌∙◌}
use mathlib.Core.Bool.{Bool, not, ◌&&◌}
use mathlib.Core.List.{List, [], ◌∷◌, ◌++◌, map, map-append}
use native.Mathlib.Omega.{arith}
use lib.Dec.{eqb}
use lib.ListN.{length, length-map, get_or, take}
use Rattle.spec_file.specs.Program.{Program}
use Rattle.spec_schedules.specs.Lists.{range}
use Rattle.spec_schedules.specs.Order.{Schedule}
use Rattle.spec_model.specs.Exchange.{together}
use Rattle.spec_model.specs.Laws.{Admitted}
use Rattle.machine.specs.Held.{idle}
use Rattle.spec_sc.specs.State.{Cell, latest}
use Rattle.theory_sc.specs.Sets.{set_of}
use Rattle.theory_sc.specs.ThreadWords.{digits}
use Rattle.theory_sc.proofs.Sets.{set_same}
use Rattle.theory_sc_key.specs.Key.{pairs, padded, left_of, values_of}
use Rattle.spec_tso.specs.Queue.{Entry}
use Rattle.spec_tso.specs.State.{State, without_queues, thread_of}
use Rattle.spec_tso.specs.Graph.{end_of}
use Rattle.spec_tso.specs.TotalStoreOrder.{tso}
use Rattle.spec_tso.proofs.Admits.{few_none}
use Rattle.spec_tso.proofs.Seen.{seen_cell}
use Rattle.tso_machine.specs.Held.{core_of, Holds}
use Rattle.tso_machine.specs.Slots.{no_store, queue_at}
use Rattle.tso_machine.proofs.HeldCore.{tail_below}
use Rattle.tso_place.specs.Reached.{machine_of}
use Rattle.theory_tso.specs.ReadWords.{source_digit, word_of}
use Rattle.theory_tso_key.specs.Views.{unnumbered, waiting}
use Rattle.theory_tso_key.specs.Near.{near}
use Rattle.theory_tso_key.specs.Ways.{way_of, last_digit, near_by_word, near_back}
use Rattle.theory_tso_key.specs.Key.{near_sets, queues_of, key_of}
use Rattle.theory_tso_key.specs.Words.{join, locations, stored, number, appended, sets_of, words_of, word_key, Shaped}
use Rattle.theory_tso_key.proofs.Rules.{Met}
use Rattle.theory_tso_key.proofs.NearBack.{near_back_lem}
use Rattle.theory_tso_key.proofs.Shape.{key_shaped}
use Rattle.states_live.specs.Live.{Live}
use Rattle.states_key.specs.Gathered.{gathered, left_at}
use Rattle.states_key.proofs.Padding.{padded_cut}
use Rattle.states_key.proofs.KeyValues.{values_held, left_held}
use Rattle.tso_key.specs.declared.spot.Spot.{Spot}
use Rattle.tso_key.specs.Stands.{Stands}
use Rattle.tso_key.specs.Carried.{last_as, carried_near, queues_to, pending_at}
use Rattle.tso_key.proofs.LowWays.{near_low}
use Rattle.tso_key.proofs.Filled.{queue_length}

-- ---- lists
same_map : {A : Type 0} (f g : ℕ → A) (d n : ℕ) → ((t : ℕ) → t < d + n → f t ≡ g t) → map f (range d n) ≡ map g (range d n)
unfolding range
same_map f g d zero h = refl
same_map {A} f g d (suc n) h = ap₂ (λ (a : A) (l : List A). a ∷ l) (h d (omega arith)) (same_map f g (suc d) n (λ t i. h t (omega (arith, i))))

map_both : {A B : Type 0} (f : A → B) (g : ℕ → A) (l : List ℕ) → map (λ t. f (g t)) l ≡ map f (map g l)
map_both f g [] = refl
map_both {A} {B} f g (x ∷ l) = ap (λ (z : List B). f (g x) ∷ z) (map_both f g l)

join_map : (qs : List (List Entry)) → join (map (map unnumbered) qs) ≡ map unnumbered (join qs)
unfolding join
join_map [] = refl
join_map (q ∷ qs) = ap (λ (z : List Entry). map unnumbered q ++ z) (join_map qs) ∙ sym (map-append unnumbered q (join qs))

stored_bare : (q : List Entry) → stored (map unnumbered q) ≡ stored q
unfolding unnumbered
stored_bare [] = refl
stored_bare (e ∷ q) = ap (λ (l : List ℕ). e.value ∷ l) (stored_bare q)

locations_bare : (q : List Entry) → locations (map unnumbered q) ≡ locations q
unfolding unnumbered
locations_bare [] = refl
locations_bare (e ∷ q) = ap (λ (l : List ℕ). e.location ∷ l) (locations_bare q)

-- ---- WHAT THE ARRAYS OF A SPOT HOLD
module _ (code lengths class : List ℕ) (threads groups : ℕ) (x : Spot) (p : Program) (v : Schedule) (at : Stands code lengths class threads groups x p v) where
  abbrev σ : State
  σ = end_of p v

  held : Holds code lengths (machine_of x.place) (end_of p v)
  held = at.reached.holds

  admitted : Admitted tso p
  admitted = (at.reached.loaded.well_formed, few_none p at.reached.few)

  met : Met p v (end_of p v)
  met = (refl, at.reached.allowed)

  pub shaped : Shaped (key_of p v (end_of p v))
  shaped = key_shaped p admitted v (end_of p v) met

  pub short_held : (t : ℕ) → t < 6 → (get_or x.place.threads t idle).at < get_or lengths t 0 → get_or lengths t 0 ≤ 16
  short_held t h = held.short t h

  -- where queues stand
  pub ends_held : (t : ℕ) → t < 6 → (get_or x.place.heads t 0 ≤ get_or x.place.tails t 0) × (get_or x.place.tails t 0 ≤ 16)
  ends_held t h = (held.ordered t h, omega (arith, tail_below held t h))

  -- ---- queues
  queue_held : (t : ℕ) → t < 6 → waiting (thread_of (end_of p v) t) ≡ map unnumbered (queue_at x.place.slots (get_or x.place.heads t 0) (get_or x.place.tails t 0 - get_or x.place.heads t 0))
  queue_held t h = ap (map unnumbered) (held.queues t h)

  queues_held : queues_of (end_of p v) ≡ map (map unnumbered) (queues_to x.place.slots x.place.heads x.place.tails 6)
  queues_held = same_map (λ t. waiting (thread_of (end_of p v) t)) (λ t. map unnumbered (queue_at x.place.slots (get_or x.place.heads t 0) (get_or x.place.tails t 0 - get_or x.place.heads t 0))) 0 6
      (λ t h. queue_held t (omega (arith, h)))
      ∙ map_both (map unnumbered) (λ t. queue_at x.place.slots (get_or x.place.heads t 0) (get_or x.place.tails t 0 - get_or x.place.heads t 0)) (range 0 6)

  all_held : join (queues_of (end_of p v)) ≡ map unnumbered (join (queues_to x.place.slots x.place.heads x.place.tails 6))
  all_held = ap join queues_held ∙ join_map (queues_to x.place.slots x.place.heads x.place.tails 6)

  pub stored_held : stored (join (queues_to x.place.slots x.place.heads x.place.tails 6)) ≡ stored (join (queues_of (end_of p v)))
  stored_held = sym (ap stored all_held ∙ stored_bare (join (queues_to x.place.slots x.place.heads x.place.tails 6)))

  pub places_held : locations (join (queues_to x.place.slots x.place.heads x.place.tails 6)) ≡ locations (join (queues_of (end_of p v)))
  places_held = sym (ap locations all_held ∙ locations_bare (join (queues_to x.place.slots x.place.heads x.place.tails 6)))

  pub count_held : length (join (queues_to x.place.slots x.place.heads x.place.tails 6)) ≡ length (join (queues_of (end_of p v)))
  count_held = sym (ap length all_held ∙ length-map (join (queues_to x.place.slots x.place.heads x.place.tails 6)) unnumbered)

  pub sixteen_held : length (join (queues_to x.place.slots x.place.heads x.place.tails 6)) ≤ 16
  sixteen_held = omega (arith, count_held, shaped.sixteen)

  pending_held : pending_at x.place.heads x.place.tails ≡ map length (queues_of (end_of p v))
  pending_held =
      same_map (λ t. get_or x.place.tails t 0 - get_or x.place.heads t 0) (λ t. length (waiting (thread_of (end_of p v) t))) 0 6 (λ t h.
      sym (ap length (queue_held t (omega (arith, h))) ∙ length-map (queue_at x.place.slots (get_or x.place.heads t 0) (get_or x.place.tails t 0 - get_or x.place.heads t 0)) unnumbered
      ∙ queue_length x.place.slots (get_or x.place.heads t 0) (get_or x.place.tails t 0 - get_or x.place.heads t 0)))
      ∙ map_both length (λ t. waiting (thread_of (end_of p v) t)) (range 0 6)

  -- ---- nearness
  last_held : (l : ℕ) → l < 8 → last_as x.place.last l ≡ last_digit (end_of p v) l
  unfolding last_digit
  last_held l h = ap (source_digit 6) (sym (held.core.sources l h) ∙ ap (λ (c : Cell). latest c.writes) (seen_cell (end_of p v) l))

  near_held : (t u : ℕ) → t < 6 → u < 6 → carried_near p x.place.last x.place.words x.ways t u ≡ near p (end_of p v) t u
  unfolding carried_near near_back
  near_held t u ht hu =
      ap₂ (λ (a b : ℕ). not (eqb t u) && (together p.groups u t && near_by_word (last_as x.place.last) a b (get_or x.ways u 0))) (at.reached.words t ht) (at.reached.words u hu)
      ∙ ap (λ (b : Bool). not (eqb t u) && (together p.groups u t && b))
      (ap (near_by_word (last_as x.place.last) (word_of (end_of p v) t) (word_of (end_of p v) u)) (at.ways u hu)
      ∙ near_low (last_as x.place.last) (last_digit (end_of p v)) last_held (word_of (end_of p v) t) (word_of (end_of p v) u) (way_of p v u))
      ∙ near_back_lem p admitted v (end_of p v) met t u

  near_set_held : (t : ℕ) → t < 6 → set_of (carried_near p x.place.last x.place.words x.ways t) 6 ≡ set_of (near p (end_of p v) t) 6
  near_set_held t h = set_same (carried_near p x.place.last x.place.words x.ways t) (near p (end_of p v) t) 6 (λ u i. near_held t u h i)

  pub nearness_held : map (λ t. set_of (carried_near p x.place.last x.place.words x.ways t) 6) (range 0 6) ≡ near_sets p (end_of p v)
  nearness_held = same_map (λ t. set_of (carried_near p x.place.last x.place.words x.ways t) 6) (λ t. set_of (near p (end_of p v) t) 6) 0 6 (λ t h. near_set_held t (omega (arith, h)))

  pub near_six : (t : ℕ) → t < 6 → set_of (carried_near p x.place.last x.place.words x.ways t) 6 ≡ set_of (near p (end_of p v) t) 6
  near_six = near_set_held

  -- ---- the words
  pub first_held : (w : ℕ) → w ≡ number 64 (set_of (carried_near p x.place.last x.place.words x.ways 0) 6 ∷ set_of (carried_near p x.place.last x.place.words x.ways 1) 6 ∷ set_of (carried_near p x.place.last x.place.words x.ways 2) 6 ∷ set_of (carried_near p x.place.last x.place.words x.ways 3) 6 ∷ set_of (carried_near p x.place.last x.place.words x.ways 4) 6 ∷ set_of (carried_near p x.place.last x.place.words x.ways 5) 6 ∷ []) → (first : ℕ) →
      first ≡ 2 ^ 63 + (((w * 64 + x.place.sets.far) * 64 + x.place.sets.overdue) * 64 + x.place.sets.late) → first ≡ 2 ^ 63 + number 64 (sets_of (key_of p v (end_of p v)))
  unfolding digits range
  first_held w en first ef =
      let s = at.reached.sets in
      let k = key_of p v (end_of p v) in
      ef ∙ ap₂ (λ (a b : ℕ). 2 ^ 63 + (((a * 64 + b) * 64 + x.place.sets.overdue) * 64 + x.place.sets.late)) (en ∙ ap (number 64) nearness_held) s.far
      ∙ ap₂ (λ (a b : ℕ). 2 ^ 63 + (((number 64 (near_sets p (end_of p v)) * 64 + k.far_moves) * 64 + a) * 64 + b)) s.overdue s.late

  pub second_held : (second : ℕ) → second ≡ number 32 (pending_at x.place.heads x.place.tails ++ left_at lengths x.place.threads) →
      second ≡ number 32 (map length (queues_of (end_of p v)) ++ left_of (without_queues (end_of p v)))
  second_held second es = es ∙ ap₂ (λ (a b : List ℕ). number 32 (a ++ b)) pending_held (left_held code lengths (core_of (machine_of x.place)) (without_queues (end_of p v)) held.core)

  -- THE WORDS OF THE KEY, with zeros behind, cut off where they fit
  pub words_held : (first second places : ℕ) (s l words : List ℕ) (n : ℕ) → first ≡ 2 ^ 63 + number 64 (sets_of (key_of p v (end_of p v))) →
      second ≡ number 32 (map length (queues_of (end_of p v)) ++ left_of (without_queues (end_of p v))) → places ≡ appended 8 0 (locations (join (queues_of (end_of p v)))) → s ≡ stored (join (queues_of (end_of p v))) →
      l ≡ values_of (without_queues (end_of p v)) → words ≡ padded 27 (first ∷ second ∷ places ∷ (pairs s ++ pairs l)) → length (words_of (key_of p v (end_of p v))) ≤ n → n ≤ 27 → take n words ≡ word_key n p v (end_of p v)
  unfolding words_of
  words_held first second places s l words n ef es ep eq el ew fits most =
      let one : first ∷ second ∷ places ∷ (pairs s ++ pairs l) ≡ words_of (key_of p v (end_of p v)) =
      ap₂ (λ (a b : ℕ). a ∷ b ∷ places ∷ (pairs s ++ pairs l)) ef es
      ∙ ap₂ (λ (a : ℕ) (b : List ℕ). (2 ^ 63 + number 64 (sets_of (key_of p v (end_of p v)))) ∷ number 32 (map length (queues_of (end_of p v)) ++ left_of (without_queues (end_of p v))) ∷ a ∷ (pairs b ++ pairs l)) ep eq
      ∙ ap (λ (b : List ℕ). (2 ^ 63 + number 64 (sets_of (key_of p v (end_of p v)))) ∷ number 32 (map length (queues_of (end_of p v)) ++ left_of (without_queues (end_of p v))) ∷ appended 8 0 (locations (join (queues_of (end_of p v)))) ∷ (pairs (stored (join (queues_of (end_of p v)))) ++ pairs b)) el in
      ap (take n) (ew ∙ ap (padded 27) one) ∙ padded_cut n 27 (words_of (key_of p v (end_of p v))) fits most

  pub places_word : (places : ℕ) → places ≡ appended 8 0 (locations (join (queues_to x.place.slots x.place.heads x.place.tails 6))) → places ≡ appended 8 0 (locations (join (queues_of (end_of p v))))
  places_word places ep = ep ∙ ap (appended 8 0) places_held

  pub slots_held : (k : ℕ) → k < 16 → (get_or x.place.slots k no_store).location < 8
  slots_held = held.places

  -- the values that matter, as they are gathered
  pub gathered_held : (masks : List ℕ) → Live code lengths masks → gathered lengths masks x.place.threads 6 ++ x.place.memory ≡ values_of (without_queues (end_of p v))
  gathered_held masks lives = values_held code lengths masks (core_of (machine_of x.place)) (without_queues (end_of p v)) held.core lives short_held
