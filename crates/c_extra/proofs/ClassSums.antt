-- THE SUMS OF THE CLASSES are what count says of the same file with its `02` lines taken out.
use Prim.Native.Nat.{ℕ, ◌^◌, ◌<◌}
use mathlib.Core.Path.{◌≡◌, refl, sym, ap, subst, fun_ext, ◌∙◌}
use mathlib.Core.Bool.{Bool}
use mathlib.Core.List.{List}
use lib.ListN.{length}
use Rattle.spec_file.specs.Program.{Program}
use Rattle.spec_file.specs.Decode.{accepted, decode}
use Rattle.spec_file.specs.Ungrouped.{ungrouped, without_alike}
use Rattle.spec_file.proofs.AcceptedWellFormed.{accepted_well_formed}
use Rattle.spec_file.proofs.Ungrouped.{without_alike_lem}
use Rattle.spec_schedules.specs.Lists.{filter}
use Rattle.spec_schedules.specs.Order.{Schedule}
use Rattle.spec_model.specs.Laws.{Admitted}
use Rattle.spec_model.specs.ClassSize.{total, class_size}
use Rattle.spec_model.proofs.ClassSum.{same_end}
use Rattle.spec_sc.specs.State.{fails}
use Rattle.spec_sc.specs.Sequential.{sc}
use Rattle.spec_sc.proofs.Laws.{sc_laws}
use Rattle.spec_sc.proofs.Classes.{sc_unseen, sc_classes}
use Rattle.spec_model.specs.Alike.{list_of}
use Rattle.spec_model.specs.Model.{failing}
use Rattle.spec_model.specs.OnFile.{counted}
use Rattle.listing.proofs.Demand3.{sc_demand_3}
use Rattle.listing.proofs.Sequential.{sequential}
use Rattle.spec_calls.specs.ClassSums.{ClassSums}

pub class_sums : (file : List ℕ) (p : Program) → decode file ≡ accepted p → ClassSums file p
class_sums file p e =
    let q = ungrouped p in
    let there = sequential (without_alike file) q (without_alike_lem file p e) in
    let c = sc_classes file p e in
    let w : Admitted sc p = (accepted_well_formed file p e, refl) in
    let all : total (class_size sc p) (list_of sc p) ≡ length (list_of sc q) = c.sum in
    let some : total (class_size sc p) (filter (failing sc p) (list_of sc p)) ≡ length (filter (failing sc q) (list_of sc q)) =
    c.sum_of (failing sc p) (λ r s f g l. ((sc_demand_3 file p e).same_outcome r s f g l).0)
    ∙ ap (λ (f : Schedule → Bool). length (filter f (list_of sc q))) (sym (fun_ext (λ s. ap fails (same_end sc sc_laws sc_unseen p w s)))) in
    record {
      sums = there.counts
          ∙ ap (λ (n : ℕ). counted (record { listed = n; failed = length (filter (failing sc q) (list_of sc q)) })) (sym all)
          ∙ ap (λ (n : ℕ). counted (record { listed = total (class_size sc p) (list_of sc p); failed = n })) (sym some);
      fits = subst (λ (n : ℕ). n < 2 ^ 63) (sym all) there.fits;
    }
