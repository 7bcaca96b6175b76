-- The test of exchanged graphs is exact.
use Prim.Native.Nat.{ℕ}
use mathlib.Core.Path.{◌≡◌, refl, sym, subst}
use mathlib.Core.Bool.{Bool, true}
use mathlib.Core.List.{List, [], map}
use native.Mathlib.Omega.{arith}
use lib.ListN.{length, get_or}
use Rattle.spec_file.proofs.DigitValues.{both}
use Rattle.spec_schedules.specs.Lists.{range}
use Rattle.spec_schedules.proofs.Lists.{in_range_lem, of_range, all_at, all_of}
use Rattle.spec_sc.specs.State.{Event}
use Rattle.spec_sc.specs.Graph.{Graph}
use Rattle.spec_sc.specs.Exchange.{moved_reads, moved_writes, Renames}
use Rattle.spec_sc.specs.Same.{same_event, same_read}
use Rattle.spec_file.specs.Lists.{same_list}
use Rattle.spec_sc.proofs.Same.{both_and, same_event_is, is_same_event, same_read_is, same_read_lem}
use Rattle.spec_file.proofs.Lists.{same_list_is, same_list_lem}
use Rattle.spec_sc.specs.Renamed.{renames}

abbrev row_test : (ℕ → ℕ) → Graph → Graph → ℕ → Bool
row_test π g h t = same_list same_read (moved_reads π (get_or g.reads t [])) (get_or h.reads (π t) [])

abbrev column_test : (ℕ → ℕ) → Graph → Graph → Bool
column_test π g h = same_list (same_list same_event) (map (moved_writes π) g.writes) h.writes

pub renames_true : (π : ℕ → ℕ) (g h : Graph) → renames π g h ≡ true → Renames π g h
unfolding renames
renames_true π g h e =
    let r = both (column_test π g h) _ e in record {
      reads = λ t i. sym (same_list_is same_read same_read_is _ _ (all_at (row_test π g h) (range 0 (length g.reads)) t r.1 (in_range_lem 0 (length g.reads) t (omega arith) (omega arith))));
      writes = sym (same_list_is (same_list same_event) (same_list_is same_event same_event_is) _ _ r.0);
    }

pub true_renames : (π : ℕ → ℕ) (g h : Graph) → Renames π g h → renames π g h ≡ true
unfolding renames
true_renames π g h r = both_and
    (subst (λ (k : List (List Event)). same_list (same_list same_event) (map (moved_writes π) g.writes) k ≡ true) (sym r.writes) (same_list_lem (same_list same_event) (same_list_lem same_event (λ e. is_same_event e e refl)) (map (moved_writes π) g.writes)))
    (all_of (row_test π g h) (range 0 (length g.reads)) (λ t m. let i = (of_range 0 (length g.reads) t m).1 in
    subst (λ (k : List (ℕ × Event)). same_list same_read (moved_reads π (get_or g.reads t [])) k ≡ true) (sym (r.reads t (omega arith))) (same_list_lem same_read same_read_lem (moved_reads π (get_or g.reads t [])))))
