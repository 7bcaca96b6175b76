-- From the start, with a table that says nothing: the numbers are those of the list, and the first that is found is the list's first failing member.
use Prim.Native.Nat.{ℕ, ◌%◌, ◌^◌}
use mathlib.Core.Path.{◌≡◌, sym, ap, ◌∙◌}
use mathlib.Core.Bool.{Bool, true, cond}
use mathlib.Core.Option.{none, some, none-ne-some}
use mathlib.Core.List.{List, []}
use Rattle.spec_file.specs.Program.{Program}
use Rattle.spec_file.specs.WellFormed.{WellFormed}
use Rattle.spec_schedules.specs.Lists.{head_of}
use Rattle.spec_schedules.proofs.After.{after_none}
use Rattle.spec_schedules.proofs.Runs.{run_nil}
use Rattle.spec_model.specs.Answers.{count_of}
use Rattle.spec_model.specs.Search.{sought}
use Rattle.spec_sc.specs.State.{State, SC, start, fails}
use Rattle.spec_sc.specs.Graph.{end_of}
use Rattle.spec_sc.specs.Sequential.{sc}
use Rattle.spec_sc.proofs.Lawful.{lawful}
use Rattle.theory_sc.specs.Search.{given_up, found_behind, found}
use Rattle.theory_sc.proofs.Search.{found_exactly}
use Rattle.theory_states.specs.Positions.{Reached}
use Rattle.theory_states.specs.Numbers.{charged, numbers}
use Rattle.theory_states.specs.Wrapped.{Wrapped}
use Rattle.theory_states.proofs.Wrapped.{entries_none, clean_none, charged_wrapped}
use Rattle.theory_sc_key.specs.View.{breaks}
use Rattle.theory_sc_key.specs.Key.{word_key}
use Rattle.theory_sc_key.proofs.Listed.{sc_start_listed, sc_start_failing}
use Rattle.table.specs.Said.{said_at}
use Rattle.table.specs.Places.{place_of, said}
use Rattle.states_walk.specs.Known.{Numbered, Marked, numbers_at}

-- ---- a table that says nothing
module _ (p : Program) (n slots : ℕ) (m : List ℕ) (silent : (at width : ℕ) (k : List ℕ) → said_at at width m k ≡ none) where
  pub numbered_none : Numbered p n slots m
  numbered_none = entries_none SC lawful 6 (given_up p) breaks (Reached SC (start p)) (word_key n p) (λ k c. said slots 2 m k ≡ some c) (λ k c. said slots 2 m k ≡ some c)
      (λ k c s. none-ne-some c (sym (silent (place_of slots 2 k) 2 k) ∙ s))

  pub marked_none : Marked p n slots m
  marked_none = clean_none SC lawful 6 (given_up p) breaks (Reached SC (start p)) (word_key n p) (λ k c. said slots 0 m k ≡ some c) (λ k c. said slots 0 m k ≡ some c)
      (λ k c s. none-ne-some c (sym (silent (place_of slots 0 k) 0 k) ∙ s))

-- ---- the answers
module _ (p : Program) (w : WellFormed p) where
  -- how many are listed, and how many of these fail, all of them if the start does
  pub start_count : (b : Bool) → b ≡ fails (end_of p []) → (l f l' f' : ℕ) → Wrapped (numbers_at p []) l f → l' ≡ l → f' ≡ cond b l f
      → (l' ≡ (count_of sc p).listed) × (f' ≡ (count_of sc p).failed)
  unfolding count_of
  start_count b e l f l' f' r el ef =
      let z = run_nil SC (start p) in
      let c = charged_wrapped b (numbers_at p []) l f f' r ef in (
        el ∙ r.0 ∙ ap (λ (σ : State). (numbers SC 6 (given_up p) breaks [] σ).listed % 2 ^ 64) z ∙ ap (λ (i : ℕ). i % 2 ^ 64) (sc_start_listed p w),
        c.1 ∙ ap (λ (d : Bool). (charged d (numbers_at p [])).failing % 2 ^ 64) e ∙ ap (λ (σ : State). (charged (fails σ) (numbers SC 6 (given_up p) breaks [] σ)).failing % 2 ^ 64) z
            ∙ ap (λ (i : ℕ). i % 2 ^ 64) (sc_start_failing p w),
      )

  -- the first that fails
  pub start_first : (steps : ℕ) → 0 ≡ steps → head_of (found_behind true p steps none []) ≡ head_of (sought sc true p)
  unfolding found
  start_first steps e = ap (λ (k : ℕ). head_of (found_behind true p k none [])) (sym e) ∙ ap head_of (found_exactly p w true none ∙ after_none (sought sc true p))
