-- THE KEY WITH WHETHER SOMETHING FAILED under total store order: nine sets of six bits leave its bit free, and positions with one view have one memory.
use Prim.Native.Nat.{ℕ, ◌+◌, ◌^◌, ◌<◌, ◌≤◌}
use mathlib.Core.Path.{◌≡◌, ◌∙◌}
use mathlib.Core.Bool.{Bool}
use mathlib.Core.List.{List}
use native.Mathlib.Omega.{arith}
use lib.ListN.{length}
use Rattle.spec_file.specs.Program.{Program}
use Rattle.spec_file.proofs.Everywhere.{everywhere_at}
use Rattle.spec_schedules.specs.Order.{Schedule}
use Rattle.spec_model.specs.Laws.{Admitted}
use Rattle.spec_sc.specs.State as SC
use Rattle.spec_sc.specs.State.{value_of}
use Rattle.spec_tso.specs.State.{State, TSO, start, fails, memory_of, without_queues}
use Rattle.spec_tso.specs.TotalStoreOrder.{tso}
use Rattle.spec_covers.specs.declared.outcome.Outcome.{Outcome}
use Rattle.theory_sc.proofs.ThreadWords.{digits_fit}
use Rattle.theory_sc_key.specs.Key.{padded}
use Rattle.theory_tso.specs.Search.{given_up}
use Rattle.theory_states.specs.Positions.{Reached}
use Rattle.theory_states.specs.SameKey.{Decides}
use Rattle.theory_tso_key.specs.Views.{SameView, breaks}
use Rattle.theory_tso_key.specs.Key.{key_of}
use Rattle.theory_tso_key.specs.Words.{number, sets_of, words_of, word_key, Wide}
use Rattle.theory_tso_key.proofs.Breaks.{breaks_law}
use Rattle.theory_tso_key.proofs.Decides.{OneFuture, one_future}
use Rattle.theory_tso_key.proofs.Shape.{key_shaped, words_future, as_wide}
use Rattle.theory_outcomes.specs.Ending.{ends_by}
use Rattle.theory_outcomes.specs.Outcomes.{Free, passes}
use Rattle.theory_outcomes.proofs.FlaggedKey.{flagged_length, flagged_decides}
use Rattle.theory_tso_outcomes.specs.Passing.{outcome_key}

-- one view, one memory
pub memory_seen : (σ τ : State) → SameView σ τ → memory_of σ ≡ memory_of τ
unfolding memory_of without_queues SC.memory_of
memory_seen σ τ same = same.memory

module _ (p : Program) (a : Admitted tso p) (n : ℕ) where
  -- the first word's second highest bit is free
  key_free : (v : Schedule) (σ : State) → Reached TSO (start p) v σ → Free (word_key n p v σ)
  unfolding padded words_of
  key_free v σ r =
      let shape = key_shaped p a v σ r in
      let sets : List ℕ = sets_of (key_of p v σ) in
      let nine : length sets ≤ 9 = omega (arith, shape.near) in
      let below : number 64 sets < 64 ^ 9 = digits_fit 64 (omega arith) (λ i. i) sets 9 nine (λ y m. everywhere_at (λ j. j < 64) m shape.sets) in
      (omega arith, omega (arith, below))

  -- it is as wide as the key without
  pub outcome_key_wide : Wide n p → (v : Schedule) (σ : State) → Reached TSO (start p) v σ → length (outcome_key n p v σ) ≡ n
  outcome_key_wide wide v σ r = flagged_length (fails σ) (word_key n p v σ) ∙ as_wide p n v σ (wide v σ r)

  -- THE KEY DECIDES what ends with an outcome that passes, whatever the test is
  pub outcome_key_decides : (test : Outcome → Bool) → Decides TSO (given_up p) (ends_by TSO (passes tso test)) (Reached TSO (start p)) (outcome_key n p)
  outcome_key_decides = flagged_decides tso p (given_up p) breaks (breaks_law p a.0 (given_up p)) (OneFuture p) (one_future p a) (word_key n p) (words_future p a n) key_free
      (λ v σ x τ s t r. memory_seen σ τ r.view)
