-- What the tests of the definitions say, both ways.
use mathlib.Core.Path.{◌≡◌, refl, ap₂}
use mathlib.Core.Bool.{true}
use Rattle.spec_file.proofs.DigitValues.{both}
use Rattle.spec_sc.specs.Graph.{Graph}
use Rattle.spec_sc.proofs.GraphTerms.{graph_with}
use Rattle.spec_sc.specs.Same.{same_event, same_read}
use Rattle.spec_file.specs.Lists.{same_list}
use Rattle.spec_judge.proofs.Walk.{same_graph}
-- of events, reads and lists
use Rattle.spec_sc.proofs.Same.{both_and, same_event_is, is_same_event, same_read_is, same_read_lem}
use Rattle.spec_file.proofs.Lists.{same_list_is, same_list_lem}

pub same_graph_is : (g h : Graph) → same_graph g h ≡ true → g ≡ h
unfolding same_graph
same_graph_is g h e =
    let r = both (same_list (same_list same_read) g.reads h.reads) (same_list (same_list same_event) g.writes h.writes) e in
    ap₂ graph_with (same_list_is (same_list same_read) (same_list_is same_read same_read_is) g.reads h.reads r.0)
    (same_list_is (same_list same_event) (same_list_is same_event same_event_is) g.writes h.writes r.1)

pub is_same_graph : (g : Graph) → same_graph g g ≡ true
unfolding same_graph
is_same_graph g = both_and (same_list_lem (same_list same_read) (same_list_lem same_read same_read_lem) g.reads)
    (same_list_lem (same_list same_event) (same_list_lem same_event (λ e. is_same_event e e refl)) g.writes)
