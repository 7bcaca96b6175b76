-- All outcomes behind a prefix as the code gathers them: at the end of a run, with one next step, over the next steps in turn, with marks, and from the start.
use Prim.Native.Nat.{ℕ, ◌+◌, ◌≤◌}
use mathlib.Core.Path.{◌≡◌, refl, sym, ap, subst, ◌∙◌}
use mathlib.Core.Bool.{Bool, true, false, not}
use mathlib.Core.Option.{none, some}
use mathlib.Core.List.{List, [], ◌∷◌, ◌++◌}
use lib.ListN.{take, drop}
use Rattle.std.specs.Prelude as Prelude
use Rattle.std.specs.Prelude.{IfSome}
use Rattle.spec_file.specs.Program.{Program}
use Rattle.spec_file.specs.WellFormed.{WellFormed}
use Rattle.spec_schedules.specs.Lists.{find, head_of}
use Rattle.spec_schedules.specs.Order.{Schedule}
use Rattle.spec_schedules.specs.System.{ended}
use Rattle.spec_sc.specs.State.{SC, fails}
use Rattle.spec_sc.specs.Graph.{end_of}
use Rattle.spec_sc.specs.Sequential.{sc}
use Rattle.spec_model.specs.Alike.{list_of}
use Rattle.spec_covers.specs.Covers.{outcome_of}
use Rattle.spec_covers.specs.declared.outcome.Outcome.{Outcome}
use Rattle.theory_sc.specs.Search.{given_up}
use Rattle.theory_sc_key.specs.Key.{Wide}
use Rattle.theory_outcomes.specs.Passing.{passing_behind, passing_with, outcome_key, NonePasses}
use Rattle.theory_outcomes.specs.Gathering.{Gains}
use Rattle.theory_outcomes.proofs.Passing.{memory_eight, passes_fewer, passing_first}
use Rattle.theory_outcomes.proofs.Gathering.{Before, gains_same, gains_end, gains_start, gains_next, gains_over}
use Rattle.search_place.proofs.ReachedStep.{reached_open}
use Rattle.search_walk.specs.Tried.{tried}
use Rattle.table.specs.Places.{said}
use Rattle.table.specs.Answers.{Honest}
use Rattle.states_key.specs.Stands.{Stands}
use Rattle.states_key.specs.declared.spot.Spot.{Spot}
use Rattle.states_walk.proofs.Numbered.{Asleep, Cases}
use Rattle.states_outcomes.specs.declared.known.Frame.{Frame}
use Rattle.states_outcomes.specs.Rows.{is_new, Adds}
use Rattle.states_outcomes.specs.Swept.{Swept, Kept}
use Rattle.states_outcomes.specs.Gathered.{grown, Gathers}
use Rattle.states_outcomes.proofs.RowLists.{adds_fewer, adds_only}
use Rattle.states_outcomes.proofs.FirstNew.{asleep_new, awake_new, untried_new, spot_outcome, passed_new, marked_new}

-- of so many that are known, if there was room
pub rows_if : {P Q : ℕ → Type 0} (r : Prelude.Option ℕ) → IfSome r P → ((n : ℕ) → P n → Q n) → IfSome r Q
rows_if (Prelude.Some n) h f = f n h
rows_if Prelude.None h f = tt

-- MARKS STAY TRUE with one outcome more
pub swept_more : (p : Program) → WellFormed p → (f : Frame) (o : Outcome) (m m' : List ℕ) (k : ℕ) → drop f.cut m' ≡ drop f.cut m → Adds (take f.cut m) f.known o (take f.cut m') k
    → Swept p f (take f.cut m) m → Swept p (grown f k) (take f.cut m') m'
swept_more p w f o m m' k behind adds marks =
    subst (λ (l : List ℕ). NonePasses (is_new (take f.cut m') k) p f.width (λ j c. said f.slots 0 l j ≡ some c)) (sym behind)
    (passes_fewer p w (is_new (take f.cut m) f.known) f.width (is_new (take f.cut m') k) (adds_fewer (take f.cut m) f.known o (take f.cut m') k adds)
    (λ j c. said f.slots 0 (drop f.cut m) j ≡ some c) marks)

module _ (code lengths class : List ℕ) (f : Frame) (x : Spot) where
  -- ---- at one prefix
  module _ (threads groups : ℕ) (p : Program) (v : Schedule) (at : Stands code lengths class threads groups x p v) where
    -- THE END OF A RUN: its outcome is added
    pub end_rows : ended SC (end_of p v) ≡ true → (failed : Bool) → failed ≡ fails (end_of p v) → (m m' : List ℕ) (k : ℕ) → drop f.cut m' ≡ drop f.cut m
        → Adds (take f.cut m) f.known (record { memory = x.place.memory; fails = failed }) (take f.cut m') k → Gathers p f m m' k (λ test. none ≡ head_of (passing_behind test p x.place.steps v))
    end_rows e failed is m m' k behind adds marks = (
      gains_end sc p given_up x.place.steps v at.reached.allowed e (is_new (take f.cut m) f.known) (is_new (take f.cut m') k) o (spot_outcome code lengths class threads groups x p v at failed is)
          (ap not adds.known) (adds_fewer (take f.cut m) f.known o (take f.cut m') k adds) (adds_only (take f.cut m) f.known o (take f.cut m') k adds),
      swept_more p at.reached.loaded.well_formed f o m m' k behind adds marks,
    )
      where
        o : Outcome
        o = record { memory = x.place.memory; fails = failed }

    -- a next step behind which some are asleep
    pub asleep_rows : (t : ℕ) → tried p v t ≡ true → Asleep p v t true → (m : List ℕ) → Gathers p f m m f.known (λ test. none ≡ head_of (passing_with test p x.place.steps v t))
    asleep_rows t is e m marks = (
      gains_same sc p (is_new (take f.cut m) f.known) _ (asleep_new (is_new (take f.cut m) f.known) p x.place.steps v t is e none refl),
      marks,
    )

    -- ---- with marks
    module _ (wide : Wide f.width p) (going : ended SC (end_of p v) ≡ false) where
      -- a key that is marked
      pub passed_rows : (m k : List ℕ) → k ≡ outcome_key f.width p v (end_of p v) → said f.slots 0 (drop f.cut m) k ≡ some []
          → Gathers p f m m f.known (λ test. none ≡ head_of (passing_behind test p x.place.steps v))
      passed_rows m k e s marks = (
        gains_same sc p (is_new (take f.cut m) f.known) _
            (passed_new p at.reached.loaded.well_formed f (take f.cut m) wide v at.reached.allowed x.place.steps at.reached.counted going m k e marks s),
        marks,
      )

      -- a key behind which all are gathered may be marked
      pub marked_rows : (m m' m'' k : List ℕ) (n : ℕ) → k ≡ outcome_key f.width p v (end_of p v) → Kept f.cut m' m'' → Honest f.slots k [] (drop f.cut m') (drop f.cut m'')
          → Gathers p f m m' n (λ test. none ≡ head_of (passing_behind test p x.place.steps v)) → Gathers p f m m'' n (λ test. none ≡ head_of (passing_behind test p x.place.steps v))
      marked_rows m m' m'' k n e kept honest all marks =
          let r = all marks in
          subst (λ (rows : List ℕ). Gains sc p (is_new (take f.cut m) f.known) (is_new rows n) (λ test. none ≡ head_of (passing_behind test p x.place.steps v)) × Swept p (grown f n) rows m'') (sym kept.1)
          (r.0, marked_new p at.reached.loaded.well_formed (grown f n) (take f.cut m') wide v at.reached.allowed x.place.steps at.reached.counted going m' m'' k e r.0.nothing honest r.1)

  -- a next step behind which none is asleep: what is gathered behind the two is gathered with it
  pub awake_rows : (p : Program) (v : Schedule) (t : ℕ) → tried p v t ≡ true → Asleep p v t false → (steps : ℕ) → steps ≡ x.place.steps + 1 → (m m' : List ℕ) (n : ℕ)
      → Gathers p f m m' n (λ test. none ≡ head_of (passing_behind test p steps (v ++ (t ∷ [])))) → Gathers p f m m' n (λ test. none ≡ head_of (passing_with test p x.place.steps v t))
  awake_rows p v t is e steps one m m' n all marks =
      let r = all marks in (
        record { fewer = r.0.fewer; sound = r.0.sound; nothing = r.0.nothing ∙ ap head_of (awake_new (is_new (take f.cut m') n) p x.place.steps v t is e steps one) },
        r.1,
      )

  -- ---- OVER THE NEXT STEPS in turn
  -- what is left to the loop: all with a step before t are gathered
  abbrev pub Upto : (lent₀ lent : List ℕ) (known t : ℕ) → Type 0
  Upto lent₀ lent known t = (c : Cases code lengths class x) → Wide f.width c.2 → Gathers c.2 f lent₀ lent known (Before sc c.2 given_up x.place.steps c.3 t)

  -- what a turn with t does
  abbrev pub Turn : (lent lent' : List ℕ) (known known' t : ℕ) → Type 0
  Turn lent lent' known known' t =
      (threads groups : ℕ) (p : Program) (v : Schedule) → Stands code lengths class threads groups x p v → Wide f.width p
      → Gathers p (grown f known) lent lent' known' (λ test. none ≡ head_of (passing_with test p x.place.steps v t))

  module _ (lent₀ : List ℕ) where
    pub rows_start : Upto lent₀ lent₀ f.known 0
    rows_start c wide marks = (gains_start sc c.2 given_up x.place.steps c.3 (is_new (take f.cut lent₀) f.known), marks)

    -- with t, which is tried
    pub rows_next : (lent lent' behind : List ℕ) (k k' n t : ℕ) → Upto lent₀ lent k t → Turn lent lent' k k' t → behind ≡ lent' → n ≡ k' → Upto lent₀ behind n (t + 1)
    rows_next lent lent' behind k k' n t before turn eb en = subst (λ (l : List ℕ). Upto lent₀ l n (t + 1)) (sym eb) (subst (λ (j : ℕ). Upto lent₀ lent' j (t + 1)) (sym en) both)
      where
        both : Upto lent₀ lent' k' (t + 1)
        both c wide marks =
            let p = c.2 in
            let v = c.3 in
            let one = before c wide marks in
            let two = turn c.0 c.1 p v c.4 wide one.1 in (
              gains_next sc p given_up x.place.steps v (memory_eight p c.4.reached.loaded.well_formed) (is_new (take f.cut lent₀) f.known) (is_new (take f.cut lent) k) (is_new (take f.cut lent') k') t one.0 two.0,
              two.1,
            )

    -- with t, which is not
    pub rows_passed : (lent behind : List ℕ) (k n t : ℕ) → Upto lent₀ lent k t
        → ((threads groups : ℕ) (p : Program) (v : Schedule) → Stands code lengths class threads groups x p v → tried p v t ≡ false) → behind ≡ lent → n ≡ k → Upto lent₀ behind n (t + 1)
    rows_passed lent behind k n t before not-tried = rows_next lent lent behind k k n t before
        (λ threads groups p v at wide marks. (
          gains_same sc p (is_new (take f.cut lent) k) _ (untried_new (is_new (take f.cut lent) k) p x.place.steps v t (not-tried threads groups p v at)),
          marks,
        ))

    -- no step is left
    pub rows_over : (lent : List ℕ) (k t : ℕ) → 6 ≤ t → Upto lent₀ lent k t → (c : Cases code lengths class x) → Wide f.width c.2 → ended SC (end_of c.2 c.3) ≡ false
        → Gathers c.2 f lent₀ lent k (λ test. none ≡ head_of (passing_behind test c.2 x.place.steps c.3))
    rows_over lent k t h before c wide going marks =
        let one = before c wide marks in (
          gains_over sc c.2 given_up x.place.steps c.3 going (reached_open code lengths class c.0 c.1 x.place c.2 c.3 c.4.reached going)
              (is_new (take f.cut lent₀) f.known) (is_new (take f.cut lent) k) t h one.0,
          one.1,
        )

-- FROM THE START: nothing in the list is left
pub rows_first : (p : Program) → WellFormed p → (steps : ℕ) → 0 ≡ steps → (test behind : Outcome → Bool) → Gains sc p test behind (λ f. none ≡ head_of (passing_behind f p steps []))
    → Gains sc p test behind (λ f. none ≡ find (λ s. f (outcome_of p s)) (list_of sc p))
rows_first p w steps e test behind r = record { fewer = r.fewer; sound = r.sound; nothing = r.nothing ∙ passing_first p w behind steps e }
