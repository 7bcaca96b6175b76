-- Two accepted files that differ only in remarks and capitals have the same list, and the calls answer the same on them, in any memory
-- model.
use Rattle.std.proofs.Common.{◌≡◌, ℕ, List, ap}
use Rattle.spec_file.specs.Plain.{plain}
use Rattle.spec_file.specs.Program.{Program}
use Rattle.spec_file.specs.Decode.{Decoded, accepted, decode}
use Rattle.spec_file.proofs.PlainFiles.{same_program, same_decoded}
use Rattle.spec_model.specs.Model.{Model}
use Rattle.spec_model.specs.Alike.{list_of}
use Rattle.spec_model.specs.OnFile.{admit, start_on, continue_on, count_on, violation_on}
use Rattle.spec_model.specs.GraphCall.{graph_on}
use Rattle.spec_model.specs.ClassSize.{class_on}
use Rattle.spec_calls.specs.RowsCall.{rows_on, left_on}
use Rattle.listing.specs.SameCalls.{SameCalls}

module _ (M : Model) (f g : List ℕ) (p q : Program) (e : plain f ≡ plain g) (a : decode f ≡ accepted p) (b : decode g ≡ accepted q) where
  -- THE SAME LIST
  pub same_list_lem : list_of M p ≡ list_of M q
  same_list_lem = ap (list_of M) (same_program f g p q e a b)

  same : admit M (decode f) ≡ admit M (decode g)
  same = ap (admit M) (same_decoded f g p q e a b)

  pub same_calls : SameCalls M f g
  same_calls = record {
    starts = λ out. ap (λ (d : Decoded). start_on M d out) same;
    continues = λ s out. ap (λ (d : Decoded). continue_on M d s out) same;
    counts = ap (count_on M) same;
    violations = λ out. ap (λ (d : Decoded). violation_on M d out) same;
    rows = λ o out. ap (λ (d : Decoded). rows_on M d o out) same;
    rows_left = λ o out. ap (λ (d : Decoded). left_on M d o out) same;
    graphs = λ s room. ap (λ (d : Decoded). graph_on M d s room) same;
    classes = λ s. ap (λ (d : Decoded). class_on M d s) same;
  }
