-- WHAT IS PROMISED OF MEMBERS AND THEIR NUMBERS, of a memory model and a file that it lists. p is the program that the file is read as.
use Rattle.std.specs.Prelude.{ℕ, ◌≤◌, ◌≡◌, ◌↔◌, List, length}
use Rattle.std.proofs.Math.Option.{none, some}
use Rattle.spec_file.specs.Over.{over}
use Rattle.spec_file.specs.Program.{Program}
use Rattle.spec_schedules.specs.Order.{Schedule}
use Rattle.spec_schedules.specs.Calls.{found, nomore, member}
use Rattle.spec_model.specs.Model.{Model, Full}
use Rattle.spec_model.specs.Alike.{Listed, list_of}
use Rattle.spec_members.specs.Kth.{kth_file}
use Rattle.spec_members.specs.Rank.{ranked, smaller, rank_file}

pub record Members (M : Model) (file : List ℕ) (p : Program) : Type 0 where
  -- A MEMBER is listed
  pub listed : (k : ℕ) (s : Schedule) → member (list_of M p) k ≡ some s → Listed M p s
  -- there is none exactly from the list's length on
  pub ends : (k : ℕ) → (member (list_of M p) k ≡ none) ↔ (length (list_of M p) ≤ k)
  -- each listed schedule is the member number k for exactly one k
  pub once : (s : Schedule) → Listed M p s →
      (k : ℕ) × (member (list_of M p) k ≡ some s) × ((j : ℕ) → member (list_of M p) j ≡ some s → j ≡ k)
  -- THE NUMBER of listed schedules that are smaller than the member number k is k
  pub number : (k : ℕ) (s : Schedule) → member (list_of M p) k ≡ some s → length (smaller M p s) ≡ k
  -- RANKS ARE EXACT: the call answers how many are smaller, without a remainder
  pub exact : (s : Schedule) → Full M p s → rank_file M file s ≡ ranked (length (smaller M p s))
  -- NO MORE is answered exactly from the list's length on
  pub no_more : (out : List ℕ) → M.need ≤ length out → (k : ℕ) → (kth_file M file k out ≡ (nomore, out)) ↔ (length (list_of M p) ≤ k)
  -- THE RANK of what the call gives for k is k
  pub rank_of_kth : (out : List ℕ) (k : ℕ) (s : Schedule) → (kth_file M file k out).0 ≡ found s → rank_file M file s ≡ ranked k
  -- THE MEMBER at the rank of a listed schedule is that schedule
  pub kth_of_rank : (out : List ℕ) → M.need ≤ length out → (s : Schedule) → Listed M p s → (n : ℕ) → rank_file M file s ≡ ranked n →
      kth_file M file n out ≡ (found s, over s out)
