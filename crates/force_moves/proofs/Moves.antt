-- The two moves, whichever side's turn it is.
use Prim.Native.Nat.{ℕ, suc, ◌-◌, ◌<◌, ◌≤◌}
use native.Mathlib.Omega.{arith}
use mathlib.Core.Path.{◌≡◌, refl, sym, ap, ◌∙◌}
use mathlib.Core.Logic.{◌≢◌}
use mathlib.Core.Bool.{Bool, true, false, not, true≢false}
use mathlib.Core.List.{List, [], ◌∷◌, ◌++◌}
use lib.ListN.{get_or}
use borrow.Author.Tests.{not-true, not-false}
use Rattle.spec_file.specs.Program.{Program}
use Rattle.spec_schedules.specs.Lists.{any}
use Rattle.spec_schedules.specs.Order.{Schedule}
use Rattle.spec_schedules.proofs.Lists.{true_both, false_both, any_yes, any_of, of_range}
use Rattle.spec_schedules.proofs.Runs.{run_snoc}
use Rattle.spec_sc.specs.State.{State, step, enabled, SC, start, fails}
use Rattle.spec_sc.specs.Graph.{end_of}
use Rattle.spec_sc.proofs.Lawful.{lawful}
use Rattle.machine.specs.declared.state.Machine.{Machine}
use Rattle.machine.specs.Held.{thread_at}
use Rattle.machine.specs.Asked.{fails_by}
use Rattle.machine.proofs.HeldAsking.{fails_by_lem}
use Rattle.spec_force.specs.Game.{Side, hostile, friendly, other, same, mine, able}
use Rattle.spec_force.proofs.Value.{keeps_by, best, value}
use Rattle.spec_force.specs.Forced.{game_of}
use Rattle.spec_force.proofs.Sides.{same_self, mine_enabled}
use Rattle.spec_force.proofs.Determined.{value_able, value_passes, value_none, best_some, best_no, keeps_mine}
use Rattle.spec_force.proofs.Decided.{winner_passes}
use Rattle.spec_force.proofs.Early.{fails_decides, silent_decides}
use Rattle.force_moves.specs.Standing.{Standing}
use Rattle.force_moves.proofs.Flags.{same_other}
use Rattle.force_moves.proofs.TailLaws.{silent_here}

-- t is a step of x behind which x wins, of so many steps and passes less one
abbrev pub keeps : ℕ → ℕ → Side → State → ℕ → Bool
keeps set left x σ t = keeps_by (game_of set) (λ τ. value (game_of set) (left - 1) (other x) τ) x σ t

-- none of the first t threads has a step behind which x wins
abbrev pub Lost : (code lengths tails : List ℕ) (set left : ℕ) (x : Side) (m : Machine) (t : ℕ) → Type 0
Lost code lengths tails set left x m t =
    (threads : ℕ) (p : Program) (v : Schedule) → Standing code lengths tails threads m p v → (u : ℕ) → u < t → keeps set left x (end_of p v) u ≡ false

not_twice : (b : Bool) → not (not b) ≡ b
not_twice true = refl
not_twice false = refl

module _ (code lengths tails : List ℕ) (threads : ℕ) (m : Machine) (p : Program) (v : Schedule) (st : Standing code lengths tails threads m p v)
    (set left : ℕ) (x : Side) where
  abbrev σ : State
  σ = end_of p v

  -- what the code is to answer
  abbrev won : Bool
  won = same (value (game_of set) left x σ) x

  pub move_failed : (b : Bool) → b ≡ fails_by m → b ≡ true → same hostile x ≡ won
  move_failed b e f = ap (λ (y : Side). same y x) (sym (fails_decides set p v st.allowed (sym (fails_by_lem st.holds) ∙ sym e ∙ f) left x))

  module _ (b : Bool) (e : b ≡ fails_by m) (f : b ≡ false) where
    goes : fails σ ≡ false
    goes = sym (fails_by_lem st.holds) ∙ sym e ∙ f

    pub move_spent : left ≡ 0 → same friendly x ≡ won
    move_spent z = ap (λ (y : Side). same y x) (sym (ap (λ (n : ℕ). value (game_of set) n x σ) z ∙ value_none (game_of set) x σ ∙ winner_passes (game_of set) σ goes))

    pub move_silent : ((t : ℕ) → t < 6 → get_or tails t 0 ≤ (thread_at m t).at) → same friendly x ≡ won
    move_silent h = ap (λ (y : Side). same y x) (sym (silent_decides set σ (silent_here code lengths tails threads m p v st goes h) left x))

  module _ (more : left ≢ 0) where
    one_more : left ≡ suc (left - 1)
    one_more = omega (arith, more)

    -- x has none left and passes
    pub move_passes : (a : Bool) → a ≡ able (game_of set) x σ → not a ≡ true → (r : Bool) → r ≡ same (value (game_of set) (left - 1) (other x) σ) (other x) → not r ≡ won
    move_passes a e n r q =
        ap not q ∙ same_other (value (game_of set) (left - 1) (other x) σ) x
        ∙ ap (λ (y : Side). same y x) (sym (ap (λ (n : ℕ). value (game_of set) n x σ) one_more ∙ value_passes (game_of set) (left - 1) x σ (sym e ∙ not-true a n)))

    module _ (a : Bool) (ea : a ≡ able (game_of set) x σ) (na : not a ≡ false) where
      by_best : won ≡ same (best (game_of set) (λ τ. value (game_of set) (left - 1) (other x) τ) x σ) x
      by_best = ap (λ (y : Side). same y x) (ap (λ (n : ℕ). value (game_of set) n x σ) one_more ∙ value_able (game_of set) (left - 1) x σ (sym ea ∙ not-false a na))

      -- none of its steps wins
      pub move_lost : same (other x) x ≡ false → ((u : ℕ) → u < 6 → keeps set left x σ u ≡ false) → false ≡ won
      move_lost d h = sym (by_best ∙ ap (λ (y : Side). same y x) (best_no (game_of set) (λ τ. value (game_of set) (left - 1) (other x) τ) x σ (none (any (keeps set left x σ) SC.names) refl)) ∙ d)
        where
          none : (b : Bool) → any (keeps set left x σ) SC.names ≡ b → any (keeps set left x σ) SC.names ≡ false
          none true q =
              let r = any_yes (keeps set left x σ) SC.names q in
              absurd (true≢false (sym r.2 ∙ h r.0 (omega (arith, (of_range 0 6 r.0 r.1).1))))
          none false q = q

      -- the step t of the side whose turn it is wins
      pub move_won : (t : ℕ) → keeps set left x σ t ≡ true → true ≡ won
      move_won t k = sym (by_best ∙ ap (λ (y : Side). same y x) (best_some (game_of set) ahead x σ
          (any_of (keeps set left x σ) SC.names t (lawful.named σ t (mine_enabled (game_of set) x σ t (keeps_mine (game_of set) ahead x σ t k))) k)) ∙ same_self x)
        where
          ahead : State → Side
          ahead τ = value (game_of set) (left - 1) (other x) τ

-- ---- a turn of the loop
module _ (set left : ℕ) (x : Side) (p : Program) (v : Schedule) (t : ℕ) where
  -- the thread is not x's, or has ended
  pub step_skipped : (b : Bool) → b ≡ mine (game_of set) x (end_of p v) t → b ≡ false → keeps set left x (end_of p v) t ≡ false
  unfolding keeps_by
  step_skipped b e n = rw (sym e ∙ n) (false_both (same (value (game_of set) (left - 1) (other x) (step (end_of p v) t)) x))

  module _ (b : Bool) (e : b ≡ mine (game_of set) x (end_of p v) t) (y : b ≡ true) where
    pub step_enabled : enabled (end_of p v) t ≡ true
    step_enabled = mine_enabled (game_of set) x (end_of p v) t (sym e ∙ y)

    kept_by_the_other : (r : Bool) → r ≡ same (value (game_of set) (left - 1) (other x) (end_of p (v ++ (t ∷ [])))) (other x) → keeps set left x (end_of p v) t ≡ not r
    unfolding keeps_by
    kept_by_the_other r q =
        rw (sym e ∙ y, true_both (same (value (game_of set) (left - 1) (other x) (step (end_of p v) t)) x))
        (sym (ap not (q ∙ ap (λ (τ : State). same (value (game_of set) (left - 1) (other x) τ) (other x)) (run_snoc SC (start p) v t))
        ∙ same_other (value (game_of set) (left - 1) (other x) (step (end_of p v) t)) x))

    pub step_won : (r : Bool) → r ≡ same (value (game_of set) (left - 1) (other x) (end_of p (v ++ (t ∷ [])))) (other x) → not r ≡ true → keeps set left x (end_of p v) t ≡ true
    step_won r q n = kept_by_the_other r q ∙ n

    pub step_lost : (r : Bool) → r ≡ same (value (game_of set) (left - 1) (other x) (end_of p (v ++ (t ∷ [])))) (other x) → not r ≡ false → keeps set left x (end_of p v) t ≡ false
    step_lost r q n = kept_by_the_other r q ∙ n
