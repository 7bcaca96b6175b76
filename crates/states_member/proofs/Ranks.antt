-- HOW MANY ARE SMALLER than a full schedule, step by step: behind each of its steps those with a smaller next step are added.
use Prim.Native.Nat.{ℕ, suc, ◌+◌, ◌-◌, ◌<◌, ◌≤◌, ◌%◌, ◌^◌}
use mathlib.Core.Path.{◌≡◌, refl, sym, ap, ap₂, subst, ◌∙◌}
use mathlib.Core.Bool.{true, false}
use mathlib.Core.Option.{none}
use mathlib.Core.List.{List, [], ◌∷◌, ◌++◌}
use native.Mathlib.Omega.{arith}
use lib.ListN.{length, get_or, drop, drop_of_length-le}
use lib.Seq.{drop-cons}
use Rattle.spec_file.specs.Program.{Program}
use Rattle.spec_file.specs.WellFormed.{WellFormed}
use Rattle.spec_schedules.specs.Order.{Schedule}
use Rattle.spec_schedules.specs.System.{Allowed, FullFrom}
use Rattle.spec_schedules.proofs.Runs.{run_snoc, not_ended, full_length}
use Rattle.spec_sc.specs.State.{State, SC, enabled, start}
use Rattle.spec_sc.specs.Graph.{end_of}
use Rattle.spec_sc.specs.Sequential.{sc}
use Rattle.spec_sc.proofs.Lawful.{lawful, start_24}
use Rattle.spec_sc.proofs.Steps.{enabled_small}
use Rattle.theory_search.specs.Found.{found_from}
use Rattle.theory_search.specs.ModelSearch.{looked_for}
use Rattle.theory_sc.specs.Search.{given_up, found_behind, found_with}
use Rattle.search_place.proofs.ReachedStep.{reached_open}
use Rattle.theory_sc_key.specs.View.{breaks}
use Rattle.theory_sc_key.specs.Key.{Wide}
use Rattle.theory_states.specs.Positions.{Reached}
use Rattle.theory_states.specs.Numbers.{Numbers, sum_range}
use Rattle.theory_states.specs.Wrapped.{Wrapped}
use Rattle.theory_states.specs.Ranked.{rank}
use Rattle.theory_states.proofs.Numbers.{sum_same}
use Rattle.theory_states.proofs.Passing.{size_left}
use Rattle.theory_states.proofs.Wrapped.{add_on, last_on}
use Rattle.theory_states.proofs.Ranked.{rank_end, rank_turn, rank_live, rank_cut}
use Rattle.states_key.specs.Stands.{Stands}
use Rattle.states_key.specs.declared.spot.Spot.{Spot}
use Rattle.states_walk.specs.Known.{Numbered, numbers_by}
use Rattle.states_walk.proofs.Numbered.{Cases}
use Rattle.states_walk.proofs.FirstFound.{one_more}
use Rattle.states_member.proofs.Exact.{on, wanted, By, as_found}
use Rattle.states_member.proofs.Descent.{Goes}

module _ (p : Program) (w : WellFormed p) (v : Schedule) (a : Allowed SC (start p) v) (steps : ℕ) (counted : length v ≡ steps) (room : steps < 24) (b : ℕ) (s : Schedule)
    (ok : enabled (end_of p v) b ≡ true) where
  abbrev whole : ℕ
  whole = rank (v ++ (b ∷ s)) (found_behind false p steps none v)

  abbrev own : ℕ
  own = rank (v ++ (b ∷ s)) (found_with false p steps none v b)

  turn : whole ≡ (sum_range (numbers_by p v) b 0).listed + own
  turn =
      let e : 24 - steps ≡ suc (24 - steps - 1) = omega (arith, room) in
      ap (λ (k : ℕ). rank (v ++ (b ∷ s)) (found_from SC 6 (given_up p) (looked_for sc false p) k none v (end_of p v))) e
      ∙ rank_turn SC 6 (given_up p) (looked_for sc false p) (Reached SC (start p)) (on p) breaks (wanted p) (24 - steps - 1) b s v (end_of p v) (refl, a)
      (not_ended SC lawful (end_of p v) b ok) (enabled_small (end_of p v) b ok)
      ∙ ap (λ (n : Numbers). n.listed + own) (sum_same (By p w v a steps counted) (numbers_by p v) (as_found p w v a steps counted) b 0)

  -- ---- with what was added so far
  module _ (l d e l' : ℕ) (right : Wrapped (sum_range (numbers_by p v) b 0) d e) (more : l' ≡ (l + d) % 2 ^ 64) (all : ℕ) (so_far : (l + whole) % 2 ^ 64 ≡ all % 2 ^ 64) where
    added : (l' + own) % 2 ^ 64 ≡ all % 2 ^ 64
    added = add_on l d (sum_range (numbers_by p v) b 0).listed own l' right.0 more ∙ ap (λ (n : ℕ). (l + n) % 2 ^ 64) (sym turn) ∙ so_far

    -- its own step is given up
    pub rank_given_up : given_up p v (end_of p v) b ≡ true → l' < 2 ^ 64 → l' ≡ all % 2 ^ 64
    rank_given_up c h = last_on l' own all (rank_cut SC 6 (given_up p) (looked_for sc false p) (24 - steps - 1) b s v (end_of p v) ok c) h added

    -- the search goes on behind it
    pub rank_goes_on : given_up p v (end_of p v) b ≡ false → (next : ℕ) → next ≡ steps + 1 →
        (l' + rank ((v ++ (b ∷ [])) ++ s) (found_behind false p next none (v ++ (b ∷ [])))) % 2 ^ 64 ≡ all % 2 ^ 64
    rank_goes_on c next q =
        let i : 24 - next ≡ 24 - steps - 1 = omega (arith, q) in
        let z = ap₂ (λ (k : ℕ) (τ : State). rank ((v ++ (b ∷ [])) ++ s) (found_from SC 6 (given_up p) (looked_for sc false p) k none (v ++ (b ∷ [])) τ)) i (run_snoc SC (start p) v b)
        ∙ sym (rank_live SC 6 (given_up p) (looked_for sc false p) (24 - steps - 1) b s v (end_of p v) ok c) in
        ap (λ (n : ℕ). (l' + n) % 2 ^ 64) z ∙ added

-- what goes on behind a prefix to the end has at most 24 steps
pub full_few : (p : Program) → WellFormed p → (v s : Schedule) → Allowed SC (start p) v → FullFrom SC (end_of p v) s → length s ≤ 24
full_few p w v s a f = omega (arith, full_length SC lawful (end_of p v) s f, size_left SC lawful v (start p) a, start_24 p w)

-- ---- step by step
-- what is left to the loop: those behind x that are smaller than the rest of the schedule complete the whole; and the table stays true
abbrev pub Along : (code lengths class : List ℕ) (n slots : ℕ) (x₀ : Spot) (table₀ : List ℕ) (s : Schedule) (x : Spot) (table : List ℕ) (l i : ℕ) → Type 0
Along code lengths class n slots x₀ table₀ s x table l i =
    (c : Cases code lengths class x₀) → FullFrom SC (end_of c.2 c.3) s
    → (w : Schedule) × Stands code lengths class c.0 c.1 x c.2 w × FullFrom SC (end_of c.2 w) (drop i s)
    × (Wide n c.2 → Numbered c.2 n slots table₀
    → ((l + rank (w ++ drop i s) (found_behind false c.2 x.place.steps none w)) % 2 ^ 64 ≡ rank (c.3 ++ s) (found_behind false c.2 x₀.place.steps none c.3) % 2 ^ 64)
    × Numbered c.2 n slots table)

module _ (code lengths class : List ℕ) (n slots : ℕ) (x₀ : Spot) (table₀ : List ℕ) (s : Schedule) where
  abbrev Still : (x : Spot) (table : List ℕ) (l i : ℕ) → Type 0
  Still x table l i = Along code lengths class n slots x₀ table₀ s x table l i

  -- all that are smaller
  abbrev All : Cases code lengths class x₀ → ℕ
  All c = rank (c.3 ++ s) (found_behind false c.2 x₀.place.steps none c.3)

  pub along_start : Still x₀ table₀ 0 0
  along_start c full = (c.3, c.4, full, λ wide right. (ap (λ (k : ℕ). k % 2 ^ 64) (let e : 0 + All c ≡ All c = omega arith in e), right))

  -- the step at i may be taken
  pub along_enabled : (x : Spot) (table : List ℕ) (l i : ℕ) → Still x table l i → i < length s → (c : Cases code lengths class x₀) (full : FullFrom SC (end_of c.2 c.3) s)
      → (w : Schedule) × Stands code lengths class c.0 c.1 x c.2 w × (enabled (end_of c.2 w) (get_or s i 0) ≡ true)
  along_enabled x table l i still h c full =
      let here = still c full in
      (here.0, here.1, (subst (FullFrom SC (end_of c.2 here.0)) (drop-cons s i 0 h) here.2).0)

  -- what adding those with a smaller next step gives, and what is told of giving up its own
  abbrev pub Added : (x : Spot) (table table' : List ℕ) (b d e : ℕ) → Type 0
  Added x table table' b d e = (threads groups : ℕ) (p : Program) (v : Schedule) → Stands code lengths class threads groups x p v → Wide n p → Numbered p n slots table
      → Wrapped (sum_range (numbers_by p v) b 0) d e × Numbered p n slots table'

  module _ (x : Spot) (table table' : List ℕ) (l i d e l' : ℕ) (still : Still x table l i) (h : i < length s) (added : Added x table table' (get_or s i 0) d e) (more : l' ≡ (l + d) % 2 ^ 64) where
    -- the rest of the schedule at i
    rest : drop i s ≡ get_or s i 0 ∷ drop (i + 1) s
    rest = drop-cons s i 0 h ∙ ap (λ (k : ℕ). get_or s i 0 ∷ drop k s) (let q : suc i ≡ i + 1 = omega arith in q)

    -- its step is given up
    pub along_up : ((threads groups : ℕ) (p : Program) (v : Schedule) → Stands code lengths class threads groups x p v → enabled (end_of p v) (get_or s i 0) ≡ true → true ≡ given_up p v (end_of p v) (get_or s i 0))
        → l' < 2 ^ 64 → (c : Cases code lengths class x₀) → FullFrom SC (end_of c.2 c.3) s → Wide n c.2 → Numbered c.2 n slots table₀ → l' ≡ All c % 2 ^ 64
    along_up up few c full wide right =
        let p = c.2 in
        let here = still c full in
        let w = here.0 in
        let at = here.1.reached in
        let ok = (subst (FullFrom SC (end_of p w)) rest here.2).0 in
        let before = here.3 wide right in
        let q = added c.0 c.1 p w here.1 wide before.1 in
        rank_given_up p at.loaded.well_formed w at.allowed x.place.steps at.counted (reached_open code lengths class c.0 c.1 x.place p w at (not_ended SC lawful (end_of p w) (get_or s i 0) ok))
        (get_or s i 0) (drop (i + 1) s) ok l d e l' q.0 more (All c)
        (ap (λ (z : Schedule). (l + rank (w ++ z) (found_behind false p x.place.steps none w)) % 2 ^ 64) (sym rest) ∙ before.0)
        (sym (up c.0 c.1 p w here.1 ok)) few

    -- the search goes on behind its step
    pub along_next : ((threads groups : ℕ) (p : Program) (v : Schedule) → Stands code lengths class threads groups x p v → enabled (end_of p v) (get_or s i 0) ≡ true → false ≡ given_up p v (end_of p v) (get_or s i 0))
        → (y : Spot) → Goes code lengths class n slots x₀ table₀ 0 x y (get_or s i 0) → Still y table' l' (i + 1)
    along_next up y goes c full =
        let p = c.2 in
        let here = still c full in
        let w = here.0 in
        let at = here.1.reached in
        let f = subst (FullFrom SC (end_of p w)) rest here.2 in
        let next = goes class c.0 c.1 p w here.1 in (
          w ++ (get_or s i 0 ∷ []),
          next,
          subst (λ (τ : State). FullFrom SC τ (drop (i + 1) s)) (sym (run_snoc SC (start p) w (get_or s i 0))) f.1,
          λ wide right.
              let before = here.3 wide right in
              let q = added c.0 c.1 p w here.1 wide before.1 in (
                rank_goes_on p at.loaded.well_formed w at.allowed x.place.steps at.counted (reached_open code lengths class c.0 c.1 x.place p w at (not_ended SC lawful (end_of p w) (get_or s i 0) f.0))
                    (get_or s i 0) (drop (i + 1) s) f.0 l d e l' q.0 more (All c)
                    (ap (λ (z : Schedule). (l + rank (w ++ z) (found_behind false p x.place.steps none w)) % 2 ^ 64) (sym rest) ∙ before.0)
                    (sym (up c.0 c.1 p w here.1 f.0)) y.place.steps (one_more code lengths class c.0 c.1 x.place y.place p w (get_or s i 0) here.1.reached next.reached),
                q.1,
              ),
        )

  -- the schedule's end
  pub along_over : (x : Spot) (table : List ℕ) (l i : ℕ) → length s ≤ i → l < 2 ^ 64 → Still x table l i
      → (c : Cases code lengths class x₀) → FullFrom SC (end_of c.2 c.3) s → Wide n c.2 → Numbered c.2 n slots table₀ → l ≡ All c % 2 ^ 64
  along_over x table l i h few still c full wide right =
      let p = c.2 in
      let here = still c full in
      let w = here.0 in
      let e : drop i s ≡ [] = drop_of_length-le s {i = i} h in
      last_on l (rank (w ++ drop i s) (found_behind false p x.place.steps none w)) (All c)
      (ap (λ (z : Schedule). rank (w ++ z) (found_behind false p x.place.steps none w)) e ∙ rank_end SC 6 (given_up p) (looked_for sc false p) (24 - x.place.steps) w (end_of p w)) few (here.3 wide right).0
