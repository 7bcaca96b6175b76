-- WHAT IS PROMISED OF THE SIZES OF CLASSES holds of every memory model with its laws that does not see groups, and every file that it lists.
use Prim.Native.Nat.{ℕ, ◌^◌, ◌%◌}
use mathlib.Core.Path.{◌≡◌, sym, ap, fun_ext, ◌∙◌}
use mathlib.Core.Bool.{Bool}
use mathlib.Core.List.{List}
use lib.ListN.{length}
use Rattle.spec_file.specs.Program.{Program}
use Rattle.spec_file.specs.Decode.{Decoded, accepted, decode}
use Rattle.spec_file.specs.Ungrouped.{ungrouped, without_alike}
use Rattle.spec_file.proofs.Ungrouped.{without_alike_lem}
use Rattle.spec_schedules.specs.Lists.{filter}
use Rattle.spec_schedules.specs.Order.{Schedule}
use Rattle.spec_model.specs.Model.{Model, Full, failing}
use Rattle.spec_model.specs.Laws.{Admitted, Laws}
use Rattle.spec_model.specs.Alike.{list_of}
use Rattle.spec_model.specs.OnFile.{unless, admit, counted, count_file}
use Rattle.spec_model.specs.ClassSize.{total, class_size, Class, sized, size_in, class_by, class_of, class_on, class_file}
use Rattle.spec_model.specs.Classes.{GroupsUnseen, Classes}
use Rattle.spec_model.proofs.Outcome.{same_outcome_lem}
use Rattle.spec_model.proofs.Admitted.{admitted, listed_program, same_count}
use Rattle.spec_model.proofs.Refusing.{full_goes}
use Rattle.spec_model.proofs.TheList.{list_exact}
use Rattle.spec_model.proofs.Counting.{total_same}
use Rattle.spec_model.proofs.ClassSize.{class_distinct, class_exact, class_own, class_alike, class_times, class_few}
use Rattle.spec_model.proofs.ClassSum.{same_end, class_sum_of, class_sum}

module _ (M : Model) (L : Laws M) (U : GroupsUnseen M) (file : List ℕ) (p : Program) (e : admit M (decode file) ≡ accepted p) where
  abbrev w : Admitted M p
  w = listed_program M L file p e

  listed_too : admit M (decode (without_alike file)) ≡ accepted (ungrouped p)
  unfolding admit unless
  listed_too =
      let r = admitted M (decode file) p e in
      ap (admit M) (without_alike_lem file p r.0) ∙ ap (unless (ungrouped p)) (U.away p ∙ r.1)

  -- the same schedules fail
  failing_too : failing M (ungrouped p) ≡ failing M p
  failing_too = fun_ext (λ s. ap M.fails (same_end M L U p w s))

  counts_too : count_file M (without_alike file) ≡ counted (record {
    listed = total (class_size M p) (list_of M p) % 2 ^ 64;
    failed = total (class_size M p) (filter (failing M p) (list_of M p)) % 2 ^ 64;
  })
  counts_too =
      let all = class_sum M L U p w in
      let some : total (class_size M p) (filter (failing M p) (list_of M p)) ≡ length (filter (failing M (ungrouped p)) (list_of M (ungrouped p))) =
      class_sum_of M L U p w (failing M p) (λ r s f g l. (same_outcome_lem M L p w r s f g l).0)
      ∙ ap (λ (f : Schedule → Bool). length (filter f (list_of M (ungrouped p)))) (sym failing_too) in
      same_count M L (without_alike file) (ungrouped p) listed_too
      ∙ ap (λ (n : ℕ). counted (record { listed = n % 2 ^ 64; failed = length (filter (failing M (ungrouped p)) (list_of M (ungrouped p))) % 2 ^ 64 })) (sym all)
      ∙ ap (λ (n : ℕ). counted (record { listed = total (class_size M p) (list_of M p) % 2 ^ 64; failed = n % 2 ^ 64 })) (sym some)

  -- the class call, of a full schedule
  called : (s : Schedule) → Full M p s → class_file M file s ≡ sized (class_size M p s)
  unfolding class_on class_of class_by
  called s f = ap (λ (d : Decoded). class_on M d s) e ∙ ap (class_by M p s) (full_goes M.system s 0 (M.start p) f)

  sum_called : total (λ s. size_in (class_file M file s)) (list_of M p) ≡ length (list_of M (ungrouped p))
  unfolding size_in
  sum_called =
      total_same (λ s. size_in (class_file M file s)) (class_size M p) (list_of M p) (λ s m. ap size_in (called s ((list_exact M L p s).0 m).0))
      ∙ class_sum M L U p w

  pub classes : Classes M file p
  classes = record {
    distinct = class_distinct M L p w;
    exact = class_exact M L p w;
    own = class_own M L p w;
    alike_same = class_alike M L p w;
    called = called;
    times = class_times M L p w;
    few = class_few M L p w;
    sum = class_sum M L U p w;
    sum_called = sum_called;
    sum_of = class_sum_of M L U p w;
    listed_too = listed_too;
    counts = counts_too;
  }
