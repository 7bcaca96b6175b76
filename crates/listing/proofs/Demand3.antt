-- DEMAND 3 holds of every memory model with its laws, and every file that it lists: of every accepted file under sequential consistency, of
-- every accepted file that 41 does not turn away under total store order.
use Rattle.std.proofs.Common.{◌≡◌, ℕ, ◌≤◌, List, ◌∷◌, ◌++◌, ap, ◌∙◌}
use Rattle.spec_file.specs.Program.{Program}
use Rattle.spec_file.specs.WellFormed.{all_accesses}
use Rattle.spec_file.specs.Decode.{accepted, decode}
use Rattle.spec_schedules.proofs.Calls.{due_at}
use Rattle.spec_model.specs.Model.{Model}
use Rattle.spec_model.specs.Laws.{Admitted, Laws}
use Rattle.spec_model.specs.Alike.{list_of}
use Rattle.spec_model.specs.OnFile.{admit}
use Rattle.spec_model.proofs.TheList.{list_exact, list_ascends, list_length, list_room, one_each, some_member}
use Rattle.spec_model.proofs.Outcome.{same_outcome_lem, none_fails_at_all}
use Rattle.spec_model.proofs.Admitted.{listed_program, same_answer, same_count, same_violation}
use Rattle.spec_model.proofs.Calls.{continue_file_lem, continue_least, continue_none}
use Rattle.spec_model.proofs.Violations as Violations
use Rattle.spec_sc.specs.Sequential.{sc}
use Rattle.spec_sc.proofs.Laws.{sc_laws}
use Rattle.spec_sc.proofs.Admits.{sc_admits}
use Rattle.spec_tso.specs.TotalStoreOrder.{tso}
use Rattle.spec_tso.proofs.Laws.{tso_laws}
use Rattle.spec_tso.proofs.Admits.{admitted_16}
use Rattle.listing.specs.Demand3.{Demand3}
use Rattle.listing.proofs.Dialogue.{calls_due}
use Rattle.listing.proofs.Standing.{start_stands, continue_stands, violation_stands}

module _ (M : Model) (L : Laws M) (file : List ℕ) (p : Program) (e : admit M (decode file) ≡ accepted p) where
  abbrev w : Admitted M p
  w = listed_program M L file p e

  pub demand_3 : Demand3 M file p
  demand_3 = record {
    exact = list_exact M L p;
    ascending = list_ascends M L p;
    finite = list_length M L p w;
    begins = some_member M L p w;
    within = list_room M L p w;
    one_each = one_each M L p w;
    same_outcome = same_outcome_lem M L p w;
    answers = calls_due M L file p e;
    answer_at = λ before out after rs d. (_, calls_due M L file p e (before ++ (out ∷ after)) rs d ∙ due_at M.need (list_of M p) before out after);
    continues = continue_file_lem M L file p e;
    continue_least = continue_least M L file p e;
    continue_none = continue_none M L file p e;
    counts = same_count M L file p e;
    violation_first = λ out h s. same_answer (same_violation M L file p e out) (Violations.violation_first M p out L h s);
    violation_none = λ out h.
        let v = Violations.violation_none M p out L h in
        let n = none_fails_at_all M L p w in
        same_answer (same_violation M L file p e out) ((λ i. n.0 (v.0 i)), λ k. v.1 (n.1 k));
    violation_short = λ out. same_answer (same_violation M L file p e out) (Violations.violation_short M p out);
    start_stands = start_stands M L file;
    continue_stands = λ r out s. continue_stands M L file out s r;
    violation_stands = violation_stands M L file;
  }

-- SEQUENTIAL CONSISTENCY
pub sc_demand_3 : (file : List ℕ) (p : Program) → decode file ≡ accepted p → Demand3 sc file p
sc_demand_3 file p e = demand_3 sc sc_laws file p (sc_admits (decode file) ∙ e)

-- TOTAL STORE ORDER
pub tso_demand_3 : (file : List ℕ) (p : Program) → decode file ≡ accepted p → all_accesses p.threads ≤ 16 → Demand3 tso file p
tso_demand_3 file p e h = demand_3 tso tso_laws file p (ap (admit tso) e ∙ admitted_16 p h)
