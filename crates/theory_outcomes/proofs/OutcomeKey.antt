-- THE KEY WITH WHETHER SOMETHING FAILED under sequential consistency: its bit is free, and positions with one view have one memory.
use Prim.Native.Nat.{ℕ}
use mathlib.Core.Path.{◌≡◌, sym, ◌∙◌}
use mathlib.Core.Bool.{Bool}
use mathlib.Core.List.{List, ◌∷◌}
use native.Mathlib.Omega.{arith}
use lib.ListN.{length, get_or, length-map, get_or-map}
use lib.Seq.{ext_get_or}
use Rattle.spec_file.specs.Program.{Program}
use Rattle.spec_file.specs.WellFormed.{WellFormed}
use Rattle.spec_schedules.specs.Lists.{range}
use Rattle.spec_schedules.specs.Order.{Schedule}
use Rattle.spec_sc.specs.State.{State, fresh_cell, cell_of, value_of, memory_of, fails, SC, start}
use Rattle.spec_sc.specs.Sequential.{sc}
use Rattle.spec_covers.specs.declared.outcome.Outcome.{Outcome}
use Rattle.theory_sc.specs.LateSet.{late_set}
use Rattle.theory_sc.specs.Search.{given_up}
use Rattle.theory_states.specs.Positions.{Reached}
use Rattle.theory_states.specs.SameKey.{Decides}
use Rattle.theory_sc_key.specs.View.{SameView, breaks}
use Rattle.theory_sc_key.specs.Key.{left_of, words_of, padded, word_key, Wide}
use Rattle.theory_sc_key.proofs.View.{breaks_law}
use Rattle.theory_sc_key.proofs.Traced.{traces}
use Rattle.theory_sc_key.proofs.SameFuture.{SameFuture, same_future}
use Rattle.theory_sc_key.proofs.Packing.{six_bits_below}
use Rattle.theory_sc_key.proofs.Decides.{heads_small, key_future, as_wide}
use Rattle.theory_outcomes.specs.Ending.{ends_by}
use Rattle.theory_outcomes.specs.Outcomes.{Free, passes}
use Rattle.theory_outcomes.specs.Passing.{outcome_key}
use Rattle.theory_outcomes.proofs.FlaggedKey.{flagged_length, flagged_decides}

-- one view, one memory
pub memory_seen : (σ τ : State) → length σ.cells ≡ length τ.cells → SameView σ τ → memory_of σ ≡ memory_of τ
unfolding cell_of memory_of value_of fresh_cell
memory_seen σ τ n same = ext_get_or 0 (memory_of σ) (memory_of τ) (length-map σ.cells value_of ∙ n ∙ sym (length-map τ.cells value_of)) (λ l h. at σ l ∙ same.values l ∙ sym (at τ l))
  where
    at : (ρ : State) (l : ℕ) → get_or (memory_of ρ) l 0 ≡ (cell_of ρ l).value
    at ρ l = get_or-map value_of ρ.cells l (fresh_cell 0)

module _ (p : Program) (w : WellFormed p) (n : ℕ) where
  -- the first word's second highest bit is free
  key_free : (v : Schedule) (σ : State) → Reached SC (start p) v σ → Free (word_key n p v σ)
  unfolding range padded words_of
  key_free v σ r = let a = six_bits_below (late_set p v ∷ left_of σ) (heads_small p w v σ r) in (omega arith, omega (arith, a))

  -- it is as wide as the key without
  pub outcome_key_wide : Wide n p → (v : Schedule) (σ : State) → Reached SC (start p) v σ → length (outcome_key n p v σ) ≡ n
  outcome_key_wide wide v σ r = flagged_length (fails σ) (word_key n p v σ) ∙ as_wide p n wide v σ r

  -- THE KEY DECIDES what ends with an outcome that passes, whatever the test is
  pub outcome_key_decides : (test : Outcome → Bool) → Decides SC (given_up p) (ends_by SC (passes sc test)) (Reached SC (start p)) (outcome_key n p)
  outcome_key_decides = flagged_decides sc p (given_up p) breaks (breaks_law p) (SameFuture p) (same_future p w) (word_key n p) (λ v σ x τ a b e. key_future p w v σ x τ a b n e) key_free
      (λ v σ x τ a b r. memory_seen σ τ ((traces p w v σ a).regular.eight ∙ sym (traces p w x τ b).regular.eight) r.view)
