-- The definitions computed: the rules on a small program, and what the search finds.
use Prim.Native.Nat.{ℕ}
use mathlib.Core.Path.{◌≡◌, refl}
use mathlib.Core.Bool.{false}
use mathlib.Core.Option.{none}
use mathlib.Core.List.{List, [], ◌∷◌}
use Rattle.spec_file.specs.Program.{Program, initial, zeros}
use Rattle.spec_file.specs.declared.instruction.Operand.TheVariants.{Constant}
use Rattle.spec_file.specs.declared.instruction.Access.TheVariants.{Store, Load}
use Rattle.spec_file.specs.declared.instruction.Instruction.TheVariants.{Memory}
use Rattle.spec_schedules.specs.Lists.{range, any, all}
use Rattle.spec_schedules.specs.Order.{Schedule}
use Rattle.spec_schedules.specs.System.{run, none_enabled, ended}
use Rattle.theory_search.specs.Search.{low, past}
use Rattle.theory_search.specs.Found.{concat_range, found_at, found_by, found_from}
use Rattle.spec_schedules.specs.Orders.{trace}
use Rattle.theory_search.specs.Back.{back}
use Rattle.theory_search.specs.LateSet.{back_at}
use Rattle.theory_search.specs.ModelSearch.{looked_for}
use Rattle.spec_sc.specs.Local.{eval, access_place, access_takes, access_puts, access_sets, settle, begins_with_access, first_place, first_takes}
use Rattle.spec_sc.specs.Local.{first_puts, first_next, pending, place_of, takes, puts, next, begin}
use Rattle.spec_sc.specs.State.{initial_write, no_thread, fresh_cell, thread_of, cell_of, place, latest, noted, advanced, written, met, step}
use Rattle.spec_sc.specs.State.{enabled, opened, start}
use Rattle.spec_sc.specs.Graph.{end_of}
use Rattle.spec_sc.specs.Actions.{given, writes, action, who, conflict}
use Rattle.theory_search.specs.Ahead.{access_may_write, first_may_write, may_write}
use Rattle.spec_sc.specs.Same.{same_event, same_read}
use Rattle.spec_file.specs.Lists.{same_list}
use Rattle.spec_model.specs.Exchange.{together}
use Rattle.theory_search.specs.Standing.{same_flag, same_local, silent}
use Rattle.theory_sc.specs.Rules.{same_history, twin}
use Rattle.spec_schedules.specs.Sets.{has}
use Rattle.theory_sc.specs.Sets.{addend, set_of, joined}
use Rattle.theory_sc.specs.LateSet.{late_set}
use Rattle.theory_sc.specs.Sleepers.{reads_left, writes_left, meets, wakes, sleeps_in, unwoken, settled, sleepers}
use Rattle.theory_sc.specs.Search.{given_up, found}

-- the late set behind a prefix, and what of it is asleep for good
pub record Seen : Type 0 where
  pub late : ℕ
  pub asleep : ℕ

unfoldable pub seen : Program → Schedule → Seen
unfolding range any all run trace eval access_place access_takes access_puts access_sets settle begins_with_access first_place first_takes first_puts first_next pending place_of takes puts next begin initial_write no_thread fresh_cell thread_of cell_of place latest noted advanced written met step enabled opened start initial given writes action conflict access_may_write first_may_write may_write has addend set_of joined back back_at who late_set reads_left writes_left meets wakes sleeps_in unwoken settled sleepers
seen p v = record { late = late_set p v; asleep = sleepers (end_of p v) (late_set p v) }

-- what the search finds, and those that fail
unfoldable pub finds : Program → List Schedule
unfolding range any all run trace none_enabled ended low past concat_range found_at found_by found_from eval access_place access_takes access_puts access_sets settle begins_with_access first_place first_takes first_puts first_next pending place_of takes puts next begin initial_write no_thread fresh_cell thread_of cell_of place latest noted advanced written met step enabled opened start initial given writes action conflict access_may_write first_may_write may_write same_event same_read same_list together same_flag same_local same_history silent twin has addend set_of joined back back_at who late_set reads_left writes_left meets wakes sleeps_in unwoken settled sleepers given_up looked_for found
finds p = found false p none

-- two stores at one location beside one elsewhere: behind thread 2's step the other two are late, and only each other's store could wake
-- them
circle : Program
circle = record {
  threads =
      (Memory (Store 0 (Constant 1)) ∷ []) ∷
      (Memory (Store 0 (Constant 2)) ∷ []) ∷
      (Memory (Store 1 (Constant 1)) ∷ []) ∷
      [];
  groups = [];
  starting = zeros;
}

in_a_circle : seen circle (2 ∷ []) ≡ record { late = 3; asleep = 3 }
unfolding seen circle
in_a_circle = refl

circle_found : finds circle ≡ (0 ∷ 1 ∷ 2 ∷ []) ∷ (1 ∷ 0 ∷ 2 ∷ []) ∷ []
unfolding finds circle
circle_found = refl

-- thread 1 is late behind thread 2's step, but the load left to thread 0 can wake it
woken : Program
woken = record {
  threads =
      (Memory (Store 0 (Constant 1)) ∷ Memory (Load 0 1) ∷ []) ∷
      (Memory (Store 1 (Constant 1)) ∷ []) ∷
      (Memory (Store 0 (Constant 2)) ∷ []) ∷
      [];
  groups = [];
  starting = zeros;
}

not_asleep : seen woken (2 ∷ 0 ∷ []) ≡ record { late = 2; asleep = 0 }
unfolding seen woken
not_asleep = refl

woken_found : finds woken ≡ (0 ∷ 0 ∷ 1 ∷ 2 ∷ []) ∷ (0 ∷ 1 ∷ 0 ∷ 2 ∷ []) ∷ (1 ∷ 2 ∷ 0 ∷ 0 ∷ []) ∷ (2 ∷ 0 ∷ 0 ∷ 1 ∷ []) ∷ []
unfolding finds woken
woken_found = refl

-- of two alike threads that have read the same, the smaller goes first
pair : Program
pair = record {
  threads =
      (Memory (Load 0 0) ∷ Memory (Store 0 (Constant 1)) ∷ []) ∷
      (Memory (Load 0 0) ∷ Memory (Store 0 (Constant 1)) ∷ []) ∷
      [];
  groups = (0 ∷ 1 ∷ []) ∷ [];
  starting = zeros;
}

pair_found : finds pair ≡ (0 ∷ 0 ∷ 1 ∷ 1 ∷ []) ∷ (0 ∷ 1 ∷ 0 ∷ 1 ∷ []) ∷ []
unfolding finds pair
pair_found = refl
