-- THE LIST BY STATES: with any table of words that takes up entries honestly, from one that says nothing false, the count of the list and its first
-- failing member. Keys may be of any width that every position of the search fits.
use Prim.Native.Nat.{ℕ}
use mathlib.Core.Path.{◌≡◌, ◌∙◌}
use mathlib.Core.Bool.{Bool, true}
use mathlib.Core.Option.{Option, none, some}
use mathlib.Core.List.{List, []}
use lib.ListN.{length}
use Rattle.spec_file.specs.Program.{Program}
use Rattle.spec_file.specs.WellFormed.{WellFormed}
use Rattle.spec_schedules.specs.Lists.{filter, find}
use Rattle.spec_schedules.specs.System.{run}
use Rattle.spec_schedules.proofs.After.{after_none}
use Rattle.spec_model.specs.Model.{failing}
use Rattle.spec_model.specs.Alike.{list_of}
use Rattle.spec_model.specs.Search.{sought}
use Rattle.spec_sc.specs.State.{SC, start, fails}
use Rattle.spec_sc.specs.Sequential.{sc}
use Rattle.spec_sc.proofs.Lawful.{lawful, start_24}
use Rattle.theory_search.specs.Found.{found_from}
use Rattle.theory_search.specs.ModelSearch.{looked_for}
use Rattle.theory_sc.specs.Search.{given_up, found}
use Rattle.theory_sc.proofs.Search.{found_exactly}
use Rattle.theory_states.specs.Positions.{Reached}
use Rattle.theory_states.specs.Numbers.{Numbers, charged, numbers}
use Rattle.theory_states.specs.Memory.{Honest}
use Rattle.theory_states.specs.Counted.{counted_from, TrueNumbers}
use Rattle.theory_states.specs.FirstFailing.{first_from, TrueMarks}
use Rattle.theory_states.proofs.OnList.{start_listed, start_failing, count_by_table, first_by_table}
use Rattle.theory_sc_key.specs.View.{breaks}
use Rattle.theory_sc_key.specs.Key.{word_key, Wide}
use Rattle.theory_sc_key.proofs.View.{breaks_law}
use Rattle.theory_sc_key.proofs.Decides.{decides, as_wide}

module _ (p : Program) (w : WellFormed p) where
  -- the rules leave exactly the list
  exact : (failures : Bool) → found_from SC 6 (given_up p) (looked_for sc failures p) 24 none [] (start p) ≡ sought sc failures p
  unfolding found run
  exact failures = found_exactly p w failures none ∙ after_none (sought sc failures p)

  -- THE NUMBERS AT THE START
  pub sc_start_listed : (numbers SC 6 (given_up p) breaks [] (start p)).listed ≡ length (list_of sc p)
  sc_start_listed = start_listed sc p lawful (start_24 p w) (given_up p) exact breaks (breaks_law p)

  pub sc_start_failing : (charged (fails (start p)) (numbers SC 6 (given_up p) breaks [] (start p))).failing ≡ length (filter (failing sc p) (list_of sc p))
  sc_start_failing = start_failing sc p lawful (start_24 p w) (given_up p) exact breaks (breaks_law p)

module _ (p : Program) (w : WellFormed p) (n : ℕ) (wide : Wide n p) where
  -- THE COUNT
  pub sc_count_by_table : {Entries : Type 0} (look : Entries → List ℕ → Option Numbers) (put : Entries → List ℕ → Numbers → Entries) →
      ((m : Entries) (k : List ℕ) (c : Numbers) → Honest (λ j. length j ≡ n) k c (λ j c. look m j ≡ some c) (λ j d. look (put m k c) j ≡ some d)) →
      (m : Entries) → TrueNumbers SC 6 (given_up p) breaks (word_key n p) look put (Reached SC (start p)) m → let c : Numbers = (counted_from SC 6 (given_up p) breaks (word_key n p) look put 24 m [] (start p)).0 in
      (c.listed ≡ length (list_of sc p)) × ((charged (fails (start p)) c).failing ≡ length (filter (failing sc p) (list_of sc p)))
  sc_count_by_table = count_by_table sc p lawful (start_24 p w) (given_up p) (exact p w) breaks (breaks_law p) (λ k. length k ≡ n) (word_key n p) (as_wide p n wide) (decides p w n)

  -- THE FIRST FAILING MEMBER
  pub sc_first_by_table : {Entries : Type 0} (clean : Entries → List ℕ → Bool) (mark : Entries → List ℕ → Entries) →
      ((m : Entries) (k : List ℕ) → Honest {E = Unit {0}} (λ j. length j ≡ n) k tt (λ j c. clean m j ≡ true) (λ j c. clean (mark m k) j ≡ true)) →
      (m : Entries) → TrueMarks SC 6 (given_up p) fails (word_key n p) clean mark breaks (Reached SC (start p)) m →
      (first_from SC 6 (given_up p) fails (word_key n p) clean mark 24 m [] (start p)).0 ≡ find (failing sc p) (list_of sc p)
  sc_first_by_table = first_by_table sc p lawful (start_24 p w) (given_up p) (exact p w) breaks (breaks_law p) (λ k. length k ≡ n) (word_key n p) (as_wide p n wide) (decides p w n)
