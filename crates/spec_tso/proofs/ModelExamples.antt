-- The list computed. The store and load pair of document 01 has four members here, message passing three as under sequential consistency,
-- and two alike threads of a store and a load two. A fetch and add behind a store waits for its move.
use mathlib.Core.Path.{◌≡◌, refl}
use mathlib.Core.List.{List, [], ◌∷◌}
use Rattle.spec_file.specs.Program.{Program, zeros}
use Rattle.spec_file.specs.declared.instruction.Operand.TheVariants.{Constant}
use Rattle.spec_file.specs.declared.instruction.Access.TheVariants.{Store, Load, FetchAdd, CompareSwap}
use Rattle.spec_file.specs.declared.instruction.Instruction.TheVariants.{Memory}
use Rattle.spec_schedules.specs.Order.{Schedule}
use Rattle.spec_model.specs.Exchange.{together, permits, permitted}
use Rattle.spec_model.specs.Alike.{alike_by, list_of}
use Rattle.spec_model.proofs.AlikeTerms.{alike}
use Rattle.spec_sc.specs.Exchange.{moved_event, moved_read, moved_reads, moved_writes}
use Rattle.spec_sc.specs.Same.{same_event, same_read}
use Rattle.spec_file.specs.Lists.{same_list}
use Rattle.spec_sc.specs.Renamed.{renames}
use Rattle.spec_tso.proofs.Examples.{ran}
use Rattle.spec_tso.specs.TotalStoreOrder.{too_many, tso}

-- what a proof names on its `unfolding` line to compute a list
unfoldable pub listed : Program → List Schedule
unfolding ran together permits permitted alike_by alike list_of moved_event moved_read moved_reads moved_writes same_event same_read same_list renames too_many
listed p = list_of tso p

-- a store and a load in each of two threads
pair : Program
pair = record {
  threads = (Memory (Store 0 (Constant 1)) ∷ Memory (Load 0 1) ∷ []) ∷ (Memory (Store 1 (Constant 1)) ∷ Memory (Load 0 0) ∷ []) ∷ [];
  groups = [];
  starting = zeros;
}

pair_list : listed pair ≡
    (0 ∷ 0 ∷ 1 ∷ 1 ∷ 16 ∷ 17 ∷ []) ∷
    (0 ∷ 0 ∷ 1 ∷ 16 ∷ 1 ∷ 17 ∷ []) ∷
    (0 ∷ 1 ∷ 1 ∷ 16 ∷ 17 ∷ 0 ∷ []) ∷
    (0 ∷ 1 ∷ 16 ∷ 1 ∷ 17 ∷ 0 ∷ []) ∷ []
unfolding listed pair
pair_list = refl

-- message passing: a store to each of two locations, and loads of them in the other order
passing : Program
passing = record {
  threads = (Memory (Store 0 (Constant 1)) ∷ Memory (Store 1 (Constant 1)) ∷ []) ∷ (Memory (Load 0 1) ∷ Memory (Load 1 0) ∷ []) ∷ [];
  groups = [];
  starting = zeros;
}

passing_list : listed passing ≡
    (0 ∷ 0 ∷ 1 ∷ 1 ∷ 16 ∷ 16 ∷ []) ∷
    (0 ∷ 0 ∷ 1 ∷ 16 ∷ 1 ∷ 16 ∷ []) ∷
    (0 ∷ 0 ∷ 16 ∷ 16 ∷ 1 ∷ 1 ∷ []) ∷ []
unfolding listed passing
passing_list = refl

-- a locked access behind a store waits for its move
locking : Program
locking = record {
  threads =
      (Memory (Store 0 (Constant 1)) ∷ Memory (FetchAdd 0 1 (Constant 1)) ∷ []) ∷
      (Memory (CompareSwap 0 1 (Constant 0) (Constant 5)) ∷ Memory (Load 1 0) ∷ []) ∷
      [];
  groups = [];
  starting = zeros;
}

locking_list : listed locking ≡
    (0 ∷ 1 ∷ 1 ∷ 16 ∷ 0 ∷ []) ∷
    (0 ∷ 1 ∷ 16 ∷ 0 ∷ 1 ∷ []) ∷
    (0 ∷ 16 ∷ 0 ∷ 1 ∷ 1 ∷ []) ∷ []
unfolding listed locking
locking_list = refl

-- two threads declared alike, each a store and a load of one location: each reads its own store first
own : Program
own = record {
  threads = (Memory (Store 0 (Constant 1)) ∷ Memory (Load 0 0) ∷ []) ∷ (Memory (Store 0 (Constant 1)) ∷ Memory (Load 0 0) ∷ []) ∷ [];
  groups = (0 ∷ 1 ∷ []) ∷ [];
  starting = zeros;
}

own_list : listed own ≡ (0 ∷ 0 ∷ 1 ∷ 1 ∷ 16 ∷ 17 ∷ []) ∷ (0 ∷ 0 ∷ 1 ∷ 17 ∷ 16 ∷ 1 ∷ []) ∷ []
unfolding listed own
own_list = refl
