-- What is promised of sequential consistency beside demand 3 holds of every accepted file.
use Rattle.std.proofs.Common.{◌≡◌, ℕ, ◌%◌, ◌^◌, ◌<◌, ◌≤◌, Bool, true, false, Option, Result, List, length, take, drop, sym, refl, ap, ◌∙◌, subst, ap₂, arith}
use Rattle.spec_file.specs.Program.{Program}
use Rattle.spec_file.specs.Decode.{accepted, decode}
use Rattle.spec_file.proofs.AcceptedWellFormed.{accepted_well_formed}
use Rattle.spec_schedules.specs.Lists.{filter}
use Rattle.spec_schedules.specs.Order.{Schedule, less}
use Rattle.spec_schedules.proofs.Kept.{filter_length}
use Rattle.spec_model.specs.Model.{failing}
use Rattle.spec_model.specs.Alike.{list_of}
use Rattle.spec_model.specs.OnFile.{Count, counted}
use Rattle.spec_model.specs.Laws.{Admitted}
use Rattle.spec_model.proofs.Alike.{alike_graph}
use Rattle.spec_model.proofs.TheList.{list_exact, one_each}
use Rattle.spec_sc.specs.Graph.{Graph, graph, Full}
use Rattle.spec_sc.specs.Sequential.{sc}
use Rattle.spec_sc.proofs.Laws.{sc_laws}
use Rattle.spec_judge.specs.Consistent.{Consistent}
use Rattle.spec_judge.specs.Answer.{Answer, consistent, Judgement, output_after}
use Rattle.spec_judge.specs.Demand2.{text_for}
use Rattle.spec_judge.proofs.Demand2.{demand_2}
use Rattle.spec_file.specs.declared.refusal.Refusal.{Refusal}
use Rattle.judge.specs.Call.{outcome_of}
use Rattle.spec_sc.proofs.TheList.{list_fits}
use Rattle.spec_sc.proofs.NoThreadListed.{none_list}
use Rattle.listing.specs.Demand3.{InList}
use Rattle.listing.specs.Sequential.{Judges, UpToExchange, Sequential}
use Rattle.listing.proofs.Demand3.{sc_demand_3}

-- nothing wraps
small_rest : (n : ℕ) → n < 2 ^ 64 → n % 2 ^ 64 ≡ n
small_rest n h = omega arith

abbrev tally : ℕ → ℕ → Count
tally n f = counted (record { listed = n; failed = f })

module _ (file : List ℕ) (p : Program) (e : decode file ≡ accepted p) where
  all_fit : length (list_of sc p) < 2 ^ 63
  all_fit = list_fits p (accepted_well_formed file p e)

  w : Admitted sc p
  w = (accepted_well_formed file p e, refl)

  -- ---- the list and the judge
  -- no smaller full schedule has a listed one's graph
  none_smaller : (s : Schedule) → InList sc p s → (r : Schedule) → Full p r → graph p r ≡ graph p s → less r s ≡ false
  none_smaller s m r f q = go (less r s) refl
    where
      go : (b : Bool) → less r s ≡ b → less r s ≡ false
      go true h = absurd (((list_exact sc sc_laws p s).0 m).1 (r, f, h, alike_graph sc sc_laws p w r s q))
      go false h = h

  -- to the text of a listed schedule's graph the judge answers that schedule, and nothing else
  answers_it : (s : Schedule) → InList sc p s → (room : ℕ) → 24 ≤ room → (a : Answer) → Judgement file (text_for p s) room a → a ≡ consistent s
  answers_it s m room h a j =
      let d = demand_2 file p e in
      let f = ((list_exact sc sc_laws p s).0 m).0 in
      let one = d.one_answer (text_for p s) room in
      let own = (d.least (text_for p s) room h (graph p s) (d.text_back s f) s).1 (f, refl, none_smaller s m) in
      one.2 a j ∙ sym (one.2 (consistent s) own)

  judged : (s : Schedule) → InList sc p s → (out : List ℕ) → 24 ≤ length out → (r : Result (Option ℕ) Refusal) (later : List ℕ) → Judges file (text_for p s) out r later →
      (r ≡ outcome_of (consistent s)) × (take (length s) later ≡ s) × (drop (length s) later ≡ drop (length s) out)
  judged s m out h r later j =
      let is = answers_it s m (length out) h j.0 j.1 in
      let own = subst (Judgement file (text_for p s) (length out)) is j.1 in
      let there : later ≡ output_after (consistent s) out = j.3 ∙ ap (λ (a : Answer). output_after a out) is in
      let y = (demand_2 file p e).yes_in_front (text_for p s) out s own in
      (j.2 ∙ ap outcome_of is, ap (take (length s)) there ∙ y.1, ap (drop (length s)) there ∙ y.2)

  one_consistent : (g : Graph) → Consistent p g →
      (s : Schedule) × InList sc p s × UpToExchange p s g × ((q : Schedule) → InList sc p q → UpToExchange p q g → q ≡ s)
  one_consistent g k =
      let c = ((demand_2 file p e).graphs_exactly g).0 k in
      let one = one_each sc sc_laws p w c.0 c.1 in (
        one.0,
        one.1,
        subst (UpToExchange p one.0) c.2 one.2,
        λ q m x. one.3 q m (subst (UpToExchange p q) (sym c.2) x),
      )

  pub sequential : Sequential file p
  sequential =
      let d = sc_demand_3 file p e in record {
        bytes = d.violation_short;
        within = d.within;
        fits = all_fit;
        counts = d.counts
            ∙ ap₂ tally (small_rest (length (list_of sc p)) (omega (arith, all_fit)))
            (small_rest (length (filter (failing sc p) (list_of sc p))) (omega (arith, all_fit, filter_length (failing sc p) (list_of sc p))));
        none_list = none_list p;
        judged = judged;
        one_consistent = one_consistent;
      }
