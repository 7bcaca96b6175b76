-- All outcomes behind a prefix as the code gathers them: at the end of a run, with one next step, over the next steps in turn, with marks, and from the
-- start.
use Prim.Native.Nat.{ℕ, ◌+◌, ◌≤◌}
use mathlib.Core.Path.{◌≡◌, sym, ap, subst, ◌∙◌}
use mathlib.Core.Bool.{Bool, true, false, not}
use mathlib.Core.Option.{none, some}
use mathlib.Core.List.{List, [], ◌∷◌, ◌++◌}
use lib.ListN.{take, drop}
use Rattle.spec_file.specs.Program.{Program}
use Rattle.spec_schedules.specs.Lists.{find, head_of}
use Rattle.spec_schedules.specs.Order.{Schedule}
use Rattle.spec_schedules.specs.System.{ended}
use Rattle.spec_model.specs.Alike.{list_of}
use Rattle.spec_model.specs.Laws.{Admitted}
use Rattle.spec_tso.specs.State.{TSO, fails}
use Rattle.spec_tso.specs.Graph.{end_of}
use Rattle.spec_tso.specs.TotalStoreOrder.{tso}
use Rattle.spec_covers.specs.declared.outcome.Outcome.{Outcome}
use Rattle.spec_across.specs.Under.{outcome_under}
use Rattle.theory_tso.specs.Search.{given_up}
use Rattle.theory_outcomes.specs.Gathering.{Gains}
use Rattle.theory_outcomes.proofs.Gathering.{Before, gains_same, gains_end, gains_start, gains_next, gains_over}
use Rattle.theory_tso_outcomes.specs.Passing.{passing_behind, passing_with, outcome_key, NonePasses}
use Rattle.theory_tso_outcomes.proofs.Passing.{memory_eight, passes_fewer, passing_first}
use Rattle.tso_rules.specs.Tried.{tried}
use Rattle.table.specs.Places.{said}
use Rattle.table.specs.Answers.{Honest}
use Rattle.states_outcomes.specs.declared.known.Frame.{Frame}
use Rattle.states_outcomes.specs.Rows.{is_new, Adds}
use Rattle.states_outcomes.specs.Swept.{Kept}
use Rattle.states_outcomes.specs.Gathered.{grown}
use Rattle.states_outcomes.proofs.RowLists.{adds_fewer, adds_only}
use Rattle.tso_key.specs.declared.spot.Spot.{Spot}
use Rattle.tso_states.specs.Position.{Position}
use Rattle.tso_states.proofs.NextSpot.{admitted, has_room}
use Rattle.tso_states.proofs.Numbered.{Sleeps}
use Rattle.tso_outcomes.specs.Swept.{Swept}
use Rattle.tso_outcomes.specs.Gathered.{Gathers}
use Rattle.tso_outcomes.proofs.FirstNew.{asleep_new, awake_new, untried_new, spot_outcome, passed_new, marked_new}

-- MARKS STAY TRUE with one outcome more
pub swept_more : (p : Program) → Admitted tso p → (f : Frame) (o : Outcome) (m m' : List ℕ) (k : ℕ) → drop f.cut m' ≡ drop f.cut m → Adds (take f.cut m) f.known o (take f.cut m') k
    → Swept p f (take f.cut m) m → Swept p (grown f k) (take f.cut m') m'
swept_more p a f o m m' k behind adds marks =
    subst (λ (l : List ℕ). NonePasses (is_new (take f.cut m') k) p f.width (λ j c. said f.slots 0 l j ≡ some c)) (sym behind)
    (passes_fewer p a (is_new (take f.cut m) f.known) f.width (is_new (take f.cut m') k) (adds_fewer (take f.cut m) f.known o (take f.cut m') k adds)
    (λ j c. said f.slots 0 (drop f.cut m) j ≡ some c) marks)

module _ (code lengths class : List ℕ) (f : Frame) (x : Spot) where
  -- ---- at one prefix
  module _ (d : Position code lengths class f.width x) where
    abbrev p : Program
    p = d.program

    abbrev v : Schedule
    v = d.prefix

    may : Admitted tso d.program
    may = admitted code lengths class d.threads d.groups x p v d.stands

    -- none that is found behind the prefix passes
    abbrev Behind : (Outcome → Bool) → Type 0
    Behind test = none ≡ head_of (passing_behind test d.program x.place.steps d.prefix)

    -- THE END OF A RUN: its outcome is added
    pub end_rows : ended TSO (end_of d.program d.prefix) ≡ true → (failed : Bool) → failed ≡ fails (end_of d.program d.prefix) → (m m' : List ℕ) (k : ℕ) → drop f.cut m' ≡ drop f.cut m
        → Adds (take f.cut m) f.known (record { memory = x.place.memory; fails = failed }) (take f.cut m') k
        → Gathers d.program f m m' k (λ test. none ≡ head_of (passing_behind test d.program x.place.steps d.prefix))
    end_rows e failed is m m' k behind adds marks = (
      gains_end tso p given_up x.place.steps v d.stands.reached.allowed e (is_new (take f.cut m) f.known) (is_new (take f.cut m') k) o
          (spot_outcome code lengths class d.threads d.groups x p v d.stands failed is)
          (ap not adds.known) (adds_fewer (take f.cut m) f.known o (take f.cut m') k adds) (adds_only (take f.cut m) f.known o (take f.cut m') k adds),
      swept_more p may f o m m' k behind adds marks,
    )
      where
        o : Outcome
        o = record { memory = x.place.memory; fails = failed }

    -- a next step behind which some are asleep
    pub asleep_rows : (b : ℕ) → tried d.program d.prefix b ≡ true → Sleeps d.program d.prefix b true → (m : List ℕ)
        → Gathers d.program f m m f.known (λ test. none ≡ head_of (passing_with test d.program x.place.steps d.prefix b))
    asleep_rows b is e m marks =
        (gains_same tso p (is_new (take f.cut m) f.known) _ (asleep_new (is_new (take f.cut m) f.known) p x.place.steps v b is e), marks)

    -- a next step behind which none is: what is gathered behind the two is gathered with it
    pub awake_rows : (b : ℕ) → tried d.program d.prefix b ≡ true → Sleeps d.program d.prefix b false → (steps : ℕ) → steps ≡ x.place.steps + 1 → (m m' : List ℕ) (n : ℕ)
        → Gathers d.program f m m' n (λ test. none ≡ head_of (passing_behind test d.program steps (d.prefix ++ (b ∷ []))))
        → Gathers d.program f m m' n (λ test. none ≡ head_of (passing_with test d.program x.place.steps d.prefix b))
    awake_rows b is e steps one m m' n all marks =
        let r = all marks in (
          record { fewer = r.0.fewer; sound = r.0.sound; nothing = r.0.nothing ∙ ap head_of (awake_new (is_new (take f.cut m') n) p x.place.steps v b is e steps one) },
          r.1,
        )

    -- ---- with marks
    module _ (going : ended TSO (end_of d.program d.prefix) ≡ false) where
      -- a key that is marked
      pub passed_rows : (m k : List ℕ) → k ≡ outcome_key f.width d.program d.prefix (end_of d.program d.prefix) → said f.slots 0 (drop f.cut m) k ≡ some []
          → Gathers d.program f m m f.known (λ test. none ≡ head_of (passing_behind test d.program x.place.steps d.prefix))
      passed_rows m k e s marks = (
        gains_same tso p (is_new (take f.cut m) f.known) _
            (passed_new p may f (take f.cut m) d.wide v d.stands.reached.allowed x.place.steps d.stands.reached.counted going m k e marks s),
        marks,
      )

      -- a key behind which all are gathered may be marked
      pub marked_rows : (m m' m'' k : List ℕ) (n : ℕ) → k ≡ outcome_key f.width d.program d.prefix (end_of d.program d.prefix) → Kept f.cut m' m''
          → Honest f.slots k [] (drop f.cut m') (drop f.cut m'')
          → Gathers d.program f m m' n (λ test. none ≡ head_of (passing_behind test d.program x.place.steps d.prefix))
          → Gathers d.program f m m'' n (λ test. none ≡ head_of (passing_behind test d.program x.place.steps d.prefix))
      marked_rows m m' m'' k n e kept honest all marks =
          let r = all marks in
          subst (λ (rows : List ℕ). Gains tso p (is_new (take f.cut m) f.known) (is_new rows n) Behind × Swept p (grown f n) rows m'') (sym kept.1)
          (r.0, marked_new p may (grown f n) (take f.cut m') d.wide v d.stands.reached.allowed x.place.steps d.stands.reached.counted going m' m'' k e r.0.nothing honest r.1)

  -- ---- OVER THE NEXT STEPS in turn
  -- what is left to the loop: all with a step before b are gathered
  abbrev pub Upto : (lent₀ lent : List ℕ) (known b : ℕ) → Type 0
  Upto lent₀ lent known b = (d : Position code lengths class f.width x) → Gathers d.program f lent₀ lent known (Before tso d.program given_up x.place.steps d.prefix b)

  -- what a turn with b does
  abbrev pub Turn : (lent lent' : List ℕ) (known known' b : ℕ) → Type 0
  Turn lent lent' known known' b =
      (d : Position code lengths class f.width x) → Gathers d.program (grown f known) lent lent' known' (λ test. none ≡ head_of (passing_with test d.program x.place.steps d.prefix b))

  module _ (lent₀ : List ℕ) where
    pub rows_start : Upto lent₀ lent₀ f.known 0
    rows_start d marks = (gains_start tso d.program given_up x.place.steps d.prefix (is_new (take f.cut lent₀) f.known), marks)

    -- with b, which is tried
    pub rows_next : (lent lent' behind : List ℕ) (k k' n b : ℕ) → Upto lent₀ lent k b → Turn lent lent' k k' b → behind ≡ lent' → n ≡ k' → Upto lent₀ behind n (b + 1)
    rows_next lent lent' behind k k' n b before turn eb en = subst (λ (l : List ℕ). Upto lent₀ l n (b + 1)) (sym eb) (subst (λ (j : ℕ). Upto lent₀ lent' j (b + 1)) (sym en) both)
      where
        both : Upto lent₀ lent' k' (b + 1)
        both d marks =
            let one = before d marks in
            let two = turn d one.1 in (
              gains_next tso d.program given_up x.place.steps d.prefix (memory_eight d.program (may d).0) (is_new (take f.cut lent₀) f.known) (is_new (take f.cut lent) k) (is_new (take f.cut lent') k') b one.0 two.0,
              two.1,
            )

    -- with b, which is not
    pub rows_passed : (lent behind : List ℕ) (k n b : ℕ) → Upto lent₀ lent k b → ((d : Position code lengths class f.width x) → tried d.program d.prefix b ≡ false) → behind ≡ lent → n ≡ k
        → Upto lent₀ behind n (b + 1)
    rows_passed lent behind k n b before not-tried = rows_next lent lent behind k k n b before
        (λ d marks. (
          gains_same tso d.program (is_new (take f.cut lent) k) _ (untried_new (is_new (take f.cut lent) k) d.program x.place.steps d.prefix b (not-tried d)),
          marks,
        ))

    -- no step is left
    pub rows_over : (lent : List ℕ) (k b : ℕ) → 22 ≤ b → Upto lent₀ lent k b → (d : Position code lengths class f.width x) → ended TSO (end_of d.program d.prefix) ≡ false
        → Gathers d.program f lent₀ lent k (λ test. none ≡ head_of (passing_behind test d.program x.place.steps d.prefix))
    rows_over lent k b h before d going marks =
        let one = before d marks in (
          gains_over tso d.program given_up x.place.steps d.prefix going (has_room code lengths class d.threads d.groups x d.program d.prefix d.stands going)
              (is_new (take f.cut lent₀) f.known) (is_new (take f.cut lent) k) b h one.0,
          one.1,
        )

-- FROM THE START: nothing in the list is left
pub rows_first : (p : Program) → Admitted tso p → (steps : ℕ) → 0 ≡ steps → (test behind : Outcome → Bool) → Gains tso p test behind (λ f. none ≡ head_of (passing_behind f p steps []))
    → Gains tso p test behind (λ f. none ≡ find (λ s. f (outcome_under tso p s)) (list_of tso p))
rows_first p a steps e test behind r = record { fewer = r.fewer; sound = r.sound; nothing = r.nothing ∙ passing_first p a behind steps e }
