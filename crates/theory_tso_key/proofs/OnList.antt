-- COUNT AND VIOLATION BY KEYS under total store order, by any key that decides: with a table that says nothing false the numbers are those of the list,
-- and with true marks the search finds the list's first failing member. The numbers here are exact; a call says them modulo 2^64.
use Prim.Native.Nat.{ℕ}
use mathlib.Core.Path.{◌≡◌}
use mathlib.Core.Bool.{Bool, true}
use mathlib.Core.Option.{Option, none, some}
use mathlib.Core.List.{[]}
use lib.ListN.{length}
use Rattle.spec_file.specs.Program.{Program}
use Rattle.spec_schedules.specs.Found.{after}
use Rattle.spec_schedules.specs.Lists.{filter, find}
use Rattle.spec_schedules.specs.Order.{Schedule}
use Rattle.spec_model.specs.Laws.{Admitted}
use Rattle.spec_model.specs.Model.{failing}
use Rattle.spec_model.specs.Alike.{list_of}
use Rattle.spec_model.specs.Search.{sought}
use Rattle.spec_schedules.specs.System.{run}
use Rattle.theory_search.specs.Found.{found_from}
use Rattle.theory_search.specs.ModelSearch.{looked_for}
use Rattle.spec_tso.specs.State.{State, TSO, start, fails}
use Rattle.spec_tso.specs.TotalStoreOrder.{tso}
use Rattle.spec_tso.proofs.Lawful.{lawful, start_32}
use Rattle.spec_tso.proofs.Laws.{at_most_16}
use Rattle.theory_tso.specs.Search.{given_up, found}
use Rattle.theory_tso.proofs.Search.{found_exactly}
use Rattle.theory_states.specs.Numbers.{Numbers, charged, numbers}
use Rattle.theory_states.specs.SameKey.{Decides}
use Rattle.theory_states.specs.Memory.{Honest}
use Rattle.theory_states.specs.Counted.{counted_from, TrueNumbers}
use Rattle.theory_states.specs.FirstFailing.{first_from, TrueMarks}
use Rattle.theory_states.proofs.OnList.{start_listed, start_failing, count_by_table, first_by_table}
use Rattle.theory_tso_key.specs.Views.{breaks}
use Rattle.theory_tso_key.proofs.Rules.{Met}
use Rattle.theory_tso_key.proofs.Breaks.{breaks_law}

module _ (p : Program) (a : Admitted tso p) where
  exact : (failures : Bool) → found_from TSO 22 (given_up p) (looked_for tso failures p) 32 none [] (start p) ≡ sought tso failures p
  unfolding found after run
  exact failures = found_exactly p a failures none

  -- THE NUMBERS AT THE START
  pub tso_start_listed : (numbers TSO 22 (given_up p) breaks [] (start p)).listed ≡ length (list_of tso p)
  tso_start_listed = start_listed tso p lawful (start_32 p (at_most_16 p a.1)) (given_up p) exact breaks (breaks_law p a.0 (given_up p))

  pub tso_start_failing : (charged (fails (start p)) (numbers TSO 22 (given_up p) breaks [] (start p))).failing ≡ length (filter (failing tso p) (list_of tso p))
  tso_start_failing = start_failing tso p lawful (start_32 p (at_most_16 p a.1)) (given_up p) exact breaks (breaks_law p a.0 (given_up p))

  module _ {K Entries : Type 0} (Fit : K → Type 0) (key : Schedule → State → K) (fit : (v : Schedule) (σ : State) → Met p v σ → Fit (key v σ)) (D : Decides TSO (given_up p) breaks (Met p) key) where
    -- COUNTING WITH A TABLE
    pub tso_count_by_table : (look : Entries → K → Option Numbers) (put : Entries → K → Numbers → Entries) →
        ((m : Entries) (k : K) (n : Numbers) → Honest Fit k n (λ j c. look m j ≡ some c) (λ j c. look (put m k n) j ≡ some c)) →
        (m : Entries) → TrueNumbers TSO 22 (given_up p) breaks key look put (Met p) m → let n : Numbers = (counted_from TSO 22 (given_up p) breaks key look put 32 m [] (start p)).0 in
        (n.listed ≡ length (list_of tso p)) × ((charged (fails (start p)) n).failing ≡ length (filter (failing tso p) (list_of tso p)))
    tso_count_by_table = count_by_table tso p lawful (start_32 p (at_most_16 p a.1)) (given_up p) exact breaks (breaks_law p a.0 (given_up p)) Fit key fit D

    -- THE FIRST FAILING MEMBER, from true marks
    pub tso_first_by_table : (clean : Entries → K → Bool) (mark : Entries → K → Entries) →
        ((m : Entries) (k : K) → Honest {E = Unit {0}} Fit k tt (λ j c. clean m j ≡ true) (λ j c. clean (mark m k) j ≡ true)) →
        (m : Entries) → TrueMarks TSO 22 (given_up p) fails key clean mark breaks (Met p) m →
        (first_from TSO 22 (given_up p) fails key clean mark 32 m [] (start p)).0 ≡ find (failing tso p) (list_of tso p)
    tso_first_by_table = first_by_table tso p lawful (start_32 p (at_most_16 p a.1)) (given_up p) exact breaks (breaks_law p a.0 (given_up p)) Fit key fit D
