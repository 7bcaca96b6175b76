-- R2 and R3 computed on small programs.
use Prim.Native.Nat.{ℕ}
use mathlib.Core.Path.{◌≡◌, refl}
use mathlib.Core.Bool.{Bool, true}
use mathlib.Core.List.{[], ◌∷◌}
use Rattle.spec_file.specs.Program.{Program, zeros}
use Rattle.spec_file.specs.declared.instruction.Operand.TheVariants.{Constant}
use Rattle.spec_file.specs.declared.instruction.Access.TheVariants.{Store, Load}
use Rattle.spec_file.specs.declared.instruction.Instruction.TheVariants.{Memory}
use Rattle.spec_schedules.specs.Order.{Schedule}
use Rattle.theory_search.specs.Back.{back}
use Rattle.spec_sc.specs.Actions.{given}
use Rattle.theory_search.specs.Ahead.{access_may_write, could_conflict, could_meet}
use Rattle.theory_search.specs.Standing.{same_flag, same_local, silent}
use Rattle.spec_tso.specs.Graph.{end_of}
use Rattle.spec_tso.specs.Actions.{moving, reading, locking, source_if, before_if, action_of, action, who, makes, empties, puts_first, reads_first, dependent}
use Rattle.spec_tso.specs.Exchange.{moved_byte, moved_action}
use Rattle.spec_tso.proofs.ModelExamples.{listed}
use Rattle.theory_tso.specs.Rules.{renamed, same_source, same_entry, stands_as, twin, fears, wakes, unwoken, asleep}
use Rattle.theory_search.specs.Computing.{computing}

-- what a proof names on its `unfolding` line to compute with every definition of the rules
unfoldable pub sleeps : Program → Schedule → ℕ → Bool
unfolding listed back given access_may_write could_conflict could_meet same_flag same_local silent moving reading locking source_if before_if action_of action who makes empties puts_first reads_first dependent moved_byte moved_action renamed same_source same_entry stands_as twin fears wakes unwoken asleep computing
sleeps p v c = asleep p v (end_of p v) c

-- a store and a load in each of two threads
unfoldable pub pair : Program
pair = record {
  threads = (Memory (Store 0 (Constant 1)) ∷ Memory (Load 0 1) ∷ []) ∷ (Memory (Store 1 (Constant 1)) ∷ Memory (Load 0 0) ∷ []) ∷ [];
  groups = [];
  starting = zeros;
}

-- R3: behind 1 the store of thread 0 is asleep for good
asleep_store : sleeps pair (1 ∷ []) 0 ≡ true
unfolding sleeps pair
asleep_store = refl

-- two threads declared alike, each a store and a load of one location
unfoldable pub own : Program
own = record {
  threads = (Memory (Store 0 (Constant 1)) ∷ Memory (Load 0 0) ∷ []) ∷ (Memory (Store 0 (Constant 1)) ∷ Memory (Load 0 0) ∷ []) ∷ [];
  groups = (0 ∷ 1 ∷ []) ∷ [];
  starting = zeros;
}

-- R2: each has read its own pending store, so they are twins, and 11 need not go before 10
twins_own : twin own (end_of own (0 ∷ 0 ∷ 1 ∷ 1 ∷ [])) 1 0 ≡ true
unfolding sleeps own
twins_own = refl
