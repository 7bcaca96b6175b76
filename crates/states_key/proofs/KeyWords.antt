-- The key of a spot: its parts put together, with zeros behind.
use Prim.Native.Nat.{ℕ, ◌+◌, ◌^◌, ◌<◌, ◌≤◌}
use mathlib.Core.Path.{◌≡◌, sym, ap, ap₂, subst, ◌∙◌}
use mathlib.Core.List.{List, ◌∷◌, [], ◌++◌}
use native.Mathlib.Omega.{arith}
use lib.ListN.{length, get_or, take, length-append}
use Rattle.spec_file.specs.Program.{Program}
use Rattle.machine.specs.Held.{idle, thread_at, Holds}
use Rattle.machine.specs.declared.state.Machine.{Machine}
use Rattle.search_place.specs.Reached.{machine_of, Reached}
use Rattle.search_place.specs.declared.place.Place.{Place}
use Rattle.search_place.proofs.ReachedStep.{reached_short}
use Rattle.spec_schedules.specs.Order.{Schedule}
use Rattle.spec_sc.specs.Graph.{end_of}
use Rattle.spec_sc.specs.State.{State}
use Rattle.theory_sc.specs.LateSet.{late_set}
use Rattle.theory_sc.specs.ThreadWords.{digits}
use Rattle.theory_sc.proofs.LateSet.{late_below}
use Rattle.theory_sc_key.specs.Key.{Key, values_of, seen_with, key_of, pairs, words_of, padded, word_key}
use Rattle.theory_sc_key.specs.Ways.{no_ways, ways_of, near_sets_by_word, carried_key}
use Rattle.theory_sc_key.proofs.Packing.{pairs_half}
use Rattle.theory_sc_key.proofs.Ways.{ways_start}
use Rattle.states_live.specs.Live.{Live}
use Rattle.states_key.specs.declared.spot.Spot.{Spot}
use Rattle.states_key.specs.Stands.{carried, Stands}
use Rattle.states_key.specs.Gathered.{gathered, left_at}
use Rattle.states_key.proofs.Padding.{pairs_padded, padded_cut, padded_front}
use Rattle.states_key.proofs.KeyValues.{gathered_few, values_held, left_held}

-- ---- before the first step
-- a place is reached by what it holds
pub stands_first : (code lengths class : List ℕ) (threads groups : ℕ) (x : Place) (p : Program) → Reached code lengths class threads groups x p []
    → Stands code lengths class threads groups (record { place = x; ways = 0 ∷ 0 ∷ 0 ∷ 0 ∷ 0 ∷ 0 ∷ [] }) p []
unfolding no_ways
stands_first code lengths class threads groups x p at = record { reached = at; ways = sym (ways_start p) }

-- ---- the words of what a machine shows of the state that it holds, with a number in front and sets
module _ (code lengths masks : List ℕ) (m : Machine) (σ : State) (held : Holds code lengths m σ) (lives : Live code lengths masks)
    (short : (t : ℕ) → t < 6 → (thread_at m t).at < get_or lengths t 0 → get_or lengths t 0 ≤ 16) (front first second n : ℕ) (sets values words : List ℕ)
    (ef : first ≡ 2 ^ 63 + digits 64 (λ n. n) (front ∷ left_at lengths m.threads)) (es : second ≡ digits 64 (λ n. n) sets)
    (ev : values ≡ padded 32 (gathered lengths masks m.threads 6 ++ m.memory)) (ew : words ≡ first ∷ second ∷ pairs values) where
  same_values : gathered lengths masks m.threads 6 ++ m.memory ≡ values_of σ
  same_values = values_held code lengths masks m σ held lives short

  few : length (values_of σ) ≤ 32
  few =
      let a = gathered_few lengths masks m.threads 6 in
      omega (arith, ap length same_values, length-append (gathered lengths masks m.threads 6) m.memory, a, held.sizes.1)

  same_words : first ∷ second ∷ pairs (values_of σ) ≡ words_of (seen_with front sets σ)
  unfolding words_of
  same_words = ap₂ (λ (y z : ℕ). y ∷ z ∷ pairs (values_of σ)) (ef ∙ ap (λ (l : List ℕ). 2 ^ 63 + digits 64 (λ n. n) (front ∷ l)) (left_held code lengths m σ held)) es

  pub seen_held : length (words_of (seen_with front sets σ)) ≤ n → n ≤ 18 → take n words ≡ padded n (words_of (seen_with front sets σ))
  seen_held h i =
      ap (take n) (ew ∙ ap (λ (l : List ℕ). first ∷ second ∷ pairs l) (ev ∙ ap (padded 32) same_values)
      ∙ ap (λ (l : List ℕ). first ∷ second ∷ l) (pairs_padded 16 (values_of σ) few) ∙ padded_front first second (pairs (values_of σ)) (omega (arith, pairs_half (values_of σ), few)) ∙ ap (padded 18) same_words)
      ∙ padded_cut n 18 (words_of (seen_with front sets σ)) h i

-- ---- behind any
module _ (code lengths class masks : List ℕ) (threads groups : ℕ) (x : Spot) (p : Program) (v : Schedule) (at : Stands code lengths class threads groups x p v) where
  abbrev σ : State
  σ = end_of p v

  abbrev own : Machine
  own = machine_of x.place at.reached.last

  pub stands_short : (t : ℕ) → t < 6 → (get_or x.place.threads t idle).at < get_or lengths t 0 → get_or lengths t 0 ≤ 16
  stands_short = reached_short code lengths class threads groups x.place p v at.reached

  pub stands_late : x.place.late < 64
  stands_late = omega (arith, at.reached.late, late_below p v)

  module _ (lives : Live code lengths masks) (by_word : carried_key p v (end_of p v) ≡ key_of p v (end_of p v)) (first second n : ℕ) (values words : List ℕ)
      (ef : first ≡ 2 ^ 63 + digits 64 (λ n. n) (x.place.late ∷ left_at lengths x.place.threads))
      (es : second ≡ digits 64 (λ n. n) (near_sets_by_word p (carried x) x.ways))
      (ev : values ≡ padded 32 (gathered lengths masks x.place.threads 6 ++ x.place.memory)) (ew : words ≡ first ∷ second ∷ pairs values) where
    abbrev near : List ℕ
    near = near_sets_by_word p (carried x) x.ways

    same_key : seen_with x.place.late near σ ≡ key_of p v (end_of p v)
    same_key =
        ap₂ (λ (l : ℕ) (w : List ℕ). seen_with l (near_sets_by_word p (carried x) w) σ) at.reached.late at.ways
        ∙ ap₂ (λ (s w : List ℕ). seen_with (late_set p v) (near_sets_by_word p (record { stamps = s; words = w }) (ways_of p v)) σ) at.reached.stamps at.reached.words ∙ by_word

    pub key_held : length (words_of (key_of p v (end_of p v))) ≤ n → n ≤ 18 → take n words ≡ word_key n p v (end_of p v)
    key_held = subst (λ (k : Key). length (words_of k) ≤ n → n ≤ 18 → take n words ≡ padded n (words_of k)) same_key
        (seen_held code lengths masks own σ at.reached.holds lives stands_short x.place.late first second n near values words ef es ev ew)
