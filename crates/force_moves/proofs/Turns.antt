-- A play with a table: the key of its state, what is found there and what is kept, and the next turn.
use Prim.Native.Nat.{ℕ, ◌+◌, ◌-◌, ◌<◌, ◌≤◌}
use mathlib.Core.Path.{◌≡◌, refl, sym, ap, subst, ◌∙◌}
use mathlib.Core.Bool.{Bool, true, false, not, cond}
use mathlib.Core.Option.{some}
use mathlib.Core.List.{List, [], ◌∷◌, ◌++◌}
use lib.Dec.{eqb}
use lib.ListN.{length, get_or, take}
use borrow.Author.Tests.{not-true, not-false}
use Rattle.spec_file.specs.Program.{Program}
use Rattle.spec_schedules.specs.Order.{Schedule}
use Rattle.spec_schedules.proofs.Runs.{run_snoc}
use Rattle.spec_sc.specs.State.{State, SC, place, enabled, start, fails}
use Rattle.spec_sc.specs.Graph.{end_of}
use Rattle.spec_sc.proofs.Lawful.{lawful}
use Rattle.machine.specs.declared.state.Machine.{Machine}
use Rattle.machine.specs.declared.stepping.Stepped.{Stepped}
use Rattle.machine.specs.Held.{thread_at, Holds, HoldsStep}
use Rattle.machine.specs.Asked.{fails_by}
use Rattle.machine.proofs.HeldAsking.{fails_by_lem, one_more}
use Rattle.search_place.proofs.ReachedStep.{held_short}
use Rattle.spec_force.specs.Game.{Side, other, same, mine, able}
use Rattle.spec_force.proofs.Value.{value}
use Rattle.spec_force.proofs.Sides.{mine_enabled}
use Rattle.spec_force.specs.Forced.{game_of}
use Rattle.theory_sc_key.specs.Key.{seen_with, words_of, padded}
use Rattle.theory_game.specs.Wins.{Enough}
use Rattle.theory_game.specs.Winners.{number_of, game_words, entry_of}
use Rattle.theory_game.proofs.Enough.{enough_step, enough_pass}
use Rattle.theory_game.proofs.Winners.{key_wide, winners_found, winners_put}
use Rattle.table.specs.Places.{said}
use Rattle.table.specs.Answers.{Honest}
use Rattle.states_live.specs.Live.{Live}
use Rattle.states_memory.specs.declared.tally.Shape.{Shape}
use Rattle.force_moves.specs.Standing.{Standing, Known, Playing}
use Rattle.force_moves.proofs.Steps.{standing_step}
use Rattle.force_moves.proofs.Moves.{keeps}

-- a thread that has not ended has at most sixteen instructions
pub standing_short : (code lengths tails : List ℕ) (threads : ℕ) (m : Machine) (p : Program) (v : Schedule) → Standing code lengths tails threads m p v
    → (t : ℕ) → t < 6 → (thread_at m t).at < get_or lengths t 0 → get_or lengths t 0 ≤ 16
standing_short code lengths tails threads m p v st = held_short code lengths threads p st.loaded v m st.holds

-- what the loop over x's steps keeps: none with a thread before t wins, and the table says nothing false
abbrev pub Tried : (code lengths tails masks : List ℕ) (set : ℕ) (shape : Shape) (x : Side) (m : Machine) (table₀ : List ℕ) (left : ℕ) (table : List ℕ) (t : ℕ) → Type 0
Tried code lengths tails masks set shape x m table₀ left table t =
    (threads : ℕ) (p : Program) (v : Schedule) → Playing code lengths tails masks threads set shape x m table₀ left p v
    → ((u : ℕ) → u < t → keeps set left x (end_of p v) u ≡ false) × Known set p shape table

-- one more of them, behind which x does not win
pub turn_lost : (code lengths tails masks : List ℕ) (set : ℕ) (shape : Shape) (x : Side) (m : Machine) (table₀ : List ℕ) (left : ℕ) (table next later : List ℕ) (t : ℕ)
    → Tried code lengths tails masks set shape x m table₀ left table t → later ≡ next
    → ((threads : ℕ) (p : Program) (v : Schedule) → Playing code lengths tails masks threads set shape x m table₀ left p v → Known set p shape table
    → (keeps set left x (end_of p v) t ≡ false) × Known set p shape next)
    → Tried code lengths tails masks set shape x m table₀ left later (t + 1)
turn_lost code lengths tails masks set shape x m table₀ left table next later t tried e one threads p v play =
    let before = tried threads p v play in
    let r = one threads p v play before.1 in
    (one_more (λ (u : ℕ). keeps set left x (end_of p v) u ≡ false) t before.0 r.0, subst (Known set p shape) (sym e) r.1)

module _ (code lengths tails masks : List ℕ) (threads set : ℕ) (shape : Shape) (x : Side) (m : Machine) (table : List ℕ) (left : ℕ) (p : Program) (v : Schedule)
    (play : Playing code lengths tails masks threads set shape x m table left p v) where
  abbrev σ : State
  σ = end_of p v

  abbrev st : Standing code lengths tails threads m p v
  st = play.standing

  -- ---- the next turn, with a table that says nothing false
  pub play_pass : (a : Bool) → a ≡ able (game_of set) x σ → not a ≡ true → Playing code lengths tails masks threads set shape (other x) m table (left - 1) p v
  play_pass a e n = record {
    standing = st;
    live = play.live;
    wide = play.wide;
    enough = enough_pass (game_of set) lawful left x σ play.enough (sym e ∙ not-true a n);
    known = play.known;
  }

  pub play_step : (t : ℕ) (b : Bool) → b ≡ mine (game_of set) x σ t → b ≡ true
      → (r : Stepped) → ((τ : State) → Holds code lengths m τ → enabled τ t ≡ true → place τ t < 8 → HoldsStep code lengths τ t r)
      → (n : Machine) → n ≡ r.machine → (table' : List ℕ) → Known set p shape table' → Playing code lengths tails masks threads set shape (other x) n table' (left - 1) p (v ++ (t ∷ []))
  play_step t b e y r acts n q table' known =
      let own = sym e ∙ y in record {
        standing = standing_step code lengths tails threads m p v st t (mine_enabled (game_of set) x σ t own) r acts n q;
        live = play.live;
        wide = play.wide;
        enough = subst (λ (τ : State). Enough (game_of set) (left - 1) (other x) τ) (sym (run_snoc SC (start p) v t)) (enough_step (game_of set) lawful left x σ t play.enough own);
        known = known;
      }

  -- ---- the key: the words of the state's, where x is to step
  module _ (front : ℕ) (ef : front ≡ number_of x) (words : List ℕ) (most : shape.width ≤ 18)
      (says : (code : List ℕ) (n : ℕ) (τ : State) → Holds code lengths m τ → Live code lengths masks → length (words_of (seen_with front [] τ)) ≤ n → n ≤ 18
      → take n words ≡ padded n (words_of (seen_with front [] τ))) where
    play_key : take shape.width words ≡ game_words shape.width x σ
    unfolding words_of
    play_key = subst (λ (i : ℕ). take shape.width words ≡ padded shape.width (words_of (seen_with i [] σ))) ef
        (says code shape.width σ st.holds play.live (play.wide v σ (refl, st.allowed)) most)

    module _ (b : Bool) (eb : b ≡ fails_by m) (fb : b ≡ false) (a : Bool) (ea : a ≡ able (game_of set) x σ) (na : not a ≡ false) where
      going : fails σ ≡ false
      going = sym (fails_by_lem st.holds) ∙ sym eb ∙ fb

      has_one : able (game_of set) x σ ≡ true
      has_one = sym ea ∙ not-false a na

      -- what was found is whether x wins
      pub play_found : (e : ℕ) → said shape.slots 1 table (take shape.width words) ≡ some (e ∷ []) → eqb e 1 ≡ same (value (game_of set) left x σ) x
      play_found e s =
          winners_found set p st.loaded.well_formed shape.width (λ k c. said shape.slots 1 table k ≡ some c) x v st.allowed going has_one left play.enough play.known
          e (ap (said shape.slots 1 table) (sym play_key) ∙ s)

      -- whether x wins may be kept
      pub play_kept : (r : Bool) → r ≡ same (value (game_of set) left x σ) x → (here later : List ℕ) → Known set p shape here
          → Honest shape.slots (take shape.width words) (cond r 1 0 ∷ []) here later → Known set p shape later
      play_kept r q here later known honest =
          let fit = key_wide set p st.loaded.well_formed shape.width play.wide (x, v) (st.allowed, going) in
          let own : Honest shape.slots (game_words shape.width x σ) (entry_of r) here later = subst (λ (k : List ℕ). Honest shape.slots k (entry_of r) here later) play_key honest in
          winners_put set p st.loaded.well_formed shape.width (λ k c. said shape.slots 1 here k ≡ some c) x v st.allowed going has_one left play.enough
          play.wide (λ k c. said shape.slots 1 later k ≡ some c) r q (λ j f c s. own j (f ∙ sym fit) c s) known
