-- DEMAND 2 holds of every accepted file.
use Prim.Native.Nat.{ℕ, ◌<◌, ◌≤◌}
use mathlib.Core.Path.{◌≡◌, refl, sym, ap, subst, ◌∙◌}
use mathlib.Core.Logic.{◌↔◌}
use mathlib.Core.Bool.{Bool, true, false}
use mathlib.Core.Option.{Option, none, some}
use mathlib.Core.List.{List, Memᴰ}
use native.Mathlib.Omega.{arith}
use native.Mathlib.Decide.{dec_lt}
use borrow.Author.Tests.{le-ltb}
use lib.ListN.{length, take, drop}
use lib.Seq.{drop_at}
use Rattle.spec_file.specs.Over.{over}
use Rattle.spec_file.proofs.Over.{take_over, drop_over}
use Rattle.spec_file.specs.Program.{Program}
use Rattle.spec_file.specs.WellFormed.{WellFormed}
use Rattle.spec_file.specs.Decode.{Decoded, accepted, refused, decode}
use Rattle.spec_file.proofs.AcceptedWellFormed.{accepted_well_formed}
use Rattle.spec_schedules.specs.Order.{Schedule, less}
use Rattle.spec_model.specs.Answers.{refuses_from}
use Rattle.spec_model.specs.GraphCall.{GraphResult, texted, graph_by, graph_answer, graph_on, graph_file, graph_output}
use Rattle.spec_model.proofs.Refusing.{full_goes, goes_full}
use Rattle.spec_sc.specs.Local.{Local, access_puts, first_puts, puts}
use Rattle.spec_sc.specs.Graph.{Graph, graph, Full}
use Rattle.spec_sc.specs.State.{Event, SC, start}
use Rattle.spec_sc.specs.Sequential.{sc}
use Rattle.spec_sc.proofs.Admits.{sc_admits}
use Rattle.spec_sc.proofs.Lawful.{at_most_24}
use Rattle.spec_judge.specs.Consistent.{order_of, Values, local_at, Makes, Consistent}
use Rattle.spec_judge.specs.Least.{MadeBy, LeastFor}
use Rattle.spec_judge.specs.Reading.{Parsed, parsed, refused_at, read_graph}
use Rattle.spec_judge.specs.Answer.{Answer, consistent, inconsistent, refusing, TextRead, Judgement, program_refused, output_refused, text_refused, judged_yes, judged_no, output_after}
use Rattle.spec_judge.specs.Demand2.{text_for, Gives, AddsZero, Demand2, ProgramFirst}
use Rattle.spec_judge.proofs.Walk.{judge}
use Rattle.spec_judge.proofs.ByWalk.{answer_of, answer_to}
use Rattle.spec_judge.proofs.ConsistentIff.{consistent_iff}
use Rattle.spec_judge.proofs.Judged.{judge_yes, judge_no, judge_consistent}
use Rattle.spec_judge.proofs.Parsed.{read_canonical}
use Rattle.spec_judge.proofs.RunRead.{run_text_read}
use Rattle.spec_judge.proofs.LineNumbers.{text_numbers}
use Rattle.spec_judge.proofs.Judgements.{text_judged, judgement_exists, judgement_unique}

-- what an answer by the walk says of where it comes from
consistent_is : (o : Option Schedule) (s : Schedule) → answer_of o ≡ consistent s → o ≡ some s
unfolding answer_of
consistent_is none s e = absurd (let z : ◌≡◌ {A = ℕ} 0 1 = cc in omega arith)
consistent_is (some r) s e = cc

inconsistent_is : (o : Option Schedule) → answer_of o ≡ inconsistent → o ≡ none
unfolding answer_of
inconsistent_is none e = refl
inconsistent_is (some r) e = absurd (let z : ◌≡◌ {A = ℕ} 0 1 = cc in omega arith)

refusing_is : (p : Program) (x : Parsed) (n k : ℕ) → answer_to p x ≡ refusing n k → x ≡ refused_at n k
unfolding answer_to answer_of
refusing_is p (refused_at m j) n k e = cc
refusing_is p (parsed g) n k e = absurd (go (judge p g) e)
  where
    go : (o : Option Schedule) → answer_of o ≡ refusing n k → ⊥
    go none e = let z : ◌≡◌ {A = ℕ} 0 1 = cc in omega arith
    go (some s) e = let z : ◌≡◌ {A = ℕ} 0 1 = cc in omega arith

-- an access that adds zero writes nothing, whatever it finds
adds_nothing : (h : Local) (x : ℕ) → AddsZero h → puts h x ≡ none
unfolding puts first_puts access_puts
adds_nothing h x z = rw (z.4, z.5)

module _ (file : List ℕ) (p : Program) (ok : decode file ≡ accepted p) where
  wf : WellFormed p
  wf = accepted_well_formed file p ok

  -- ---- the graph call
  call_is : (s : Schedule) (room : ℕ) → 512 ≤ room → graph_file sc file s room ≡ graph_by sc p s (refuses_from SC 0 (start p) s)
  unfolding graph_on graph_answer
  call_is s room h = ap (λ (d : Decoded). graph_on sc d s room) (sc_admits (decode file) ∙ ok) ∙ rw (le-ltb room 512 h)

  has_text : (s : Schedule) (room : ℕ) → 512 ≤ room → (t : List ℕ) → (graph_file sc file s room ≡ texted t) ↔ (Full p s × (t ≡ text_for p s))
  unfolding graph_by
  has_text s room h t = (
    (λ e. go (refuses_from SC 0 (start p) s) refl (sym (call_is s room h) ∙ e)),
    λ k. call_is s room h ∙ ap (graph_by sc p s) (full_goes SC s 0 (start p) k.0) ∙ ap texted (sym k.1),
  )
    where
      go : (x : Option (ℕ × ℕ)) → refuses_from SC 0 (start p) s ≡ x → graph_by sc p s x ≡ texted t → Full p s × (t ≡ text_for p s)
      go none q e = (goes_full SC s 0 (start p) q, cc)
      go (some r) q e = absurd (let z : ◌≡◌ {A = ℕ} 0 1 = cc in omega arith)

  text_in_front : (s : Schedule) → Full p s → (out : List ℕ) → 512 ≤ length out →
      (take (length (text_for p s)) (graph_output (graph_file sc file s (length out)) out) ≡ text_for p s)
      × (drop (length (text_for p s)) (graph_output (graph_file sc file s (length out)) out) ≡ drop (length (text_for p s)) out)
  unfolding graph_output
  text_in_front s f out h =
      let t = text_for p s in
      let e = ap (λ (x : GraphResult). graph_output x out) ((has_text s (length out) h t).1 (f, refl)) in
      (ap (take (length t)) e ∙ take_over t out, ap (drop (length t)) e ∙ drop_over t out)

  -- ---- the judge
  module _ (text : List ℕ) (room : ℕ) where
    abbrev J : Answer → Type 0
    J = Judgement file text room

    one_answer : (a : Answer) × J a × ((b : Answer) → J b → b ≡ a)
    one_answer = let r = judgement_exists file text room in (r.0, r.1, λ b j. judgement_unique file text room b r.0 j r.1)

    module _ (h : 24 ≤ room) where
      read : TextRead file text room p (read_graph (length p.threads) text)
      read = record { accepts = ok; enough = h; reads = refl }

      -- the answer goes by what the text is read as
      by_text : (a : Answer) → J a → answer_to p (read_graph (length p.threads) text) ≡ a
      by_text a j = judgement_unique file text room _ a (text_judged file text room p (read_graph (length p.threads) text) read) j

      line_refused : (n k : ℕ) → J (refusing n k) ↔ (read_graph (length p.threads) text ≡ refused_at n k)
      line_refused n k = ((λ j. refusing_is p (read_graph (length p.threads) text) n k (by_text (refusing n k) j)), λ e. text_refused p n k (record { accepts = ok; enough = h; reads = e }))

      module _ (g : Graph) (e : Gives p text g) where
        given : TextRead file text room p (parsed g)
        given = record { accepts = ok; enough = h; reads = e }

        by_graph : (a : Answer) → J a → answer_of (judge p g) ≡ a
        unfolding answer_to
        by_graph a j = ap (answer_to p) (sym e) ∙ by_text a j

        answers_yes : (s : Schedule) → J (consistent s) → LeastFor p g s × Consistent p g
        answers_yes s j = judge_yes p wf g s (consistent_is (judge p g) s (by_graph (consistent s) j))

        say_yes : (s : Schedule) → LeastFor p g s → J (consistent s)
        say_yes s l = judged_yes p g s given ((consistent_iff p wf g).1 (s, l.0)) l

        yes_exactly : ((s : Schedule) × J (consistent s)) ↔ Consistent p g
        yes_exactly = ((λ k. (answers_yes k.0 k.1).1), λ c. let r = judge_consistent p wf g c in (r.0, say_yes r.0 (judge_yes p wf g r.0 r.1).0))

        no_exactly : J inconsistent ↔ (Consistent p g → ⊥)
        no_exactly = ((λ j. (judge_no p wf g).0 (inconsistent_is (judge p g) (by_graph inconsistent j))), judged_no p g given)

        least : (s : Schedule) → J (consistent s) ↔ (Full p s × (graph p s ≡ g) × ((r : Schedule) → Full p r → graph p r ≡ g → less r s ≡ false))
        least s = ((λ j. let l = (answers_yes s j).0 in (l.0.0, l.0.1, λ r f q. l.1 r (f, q))), λ k. say_yes s ((k.0, k.1), λ r m. k.2 r m.0 m.1))

    short : J (refusing 22 0) ↔ (room < 24)
    short = ((λ j. go (dec_lt room 24) j), output_refused p ok)
      where
        go : Dec (room < 24) → J (refusing 22 0) → room < 24
        go (yes h) j = h
        go (no h) j =
            let enough : 24 ≤ room = omega (arith, h) in
            absurd (omega (arith, (text_numbers (length p.threads) text 22 0 ((line_refused enough 22 0).0 j)).0))

  own_yes : (s : Schedule) → Full p s → (room : ℕ) → 24 ≤ room → (r : Schedule) × Judgement file (text_for p s) room (consistent r) × (less s r ≡ false)
  own_yes s f room h =
      let e = run_text_read p wf s f in
      let r = (yes_exactly (text_for p s) room h (graph p s) e).1 ((consistent_iff p wf (graph p s)).1 (s, (f, refl))) in
      (r.0, r.1, (answers_yes (text_for p s) room h (graph p s) e r.0 r.1).0.1 s (f, refl))

  -- a yes comes of a graph that was read
  yes_full : (text : List ℕ) (room : ℕ) (s : Schedule) → Judgement file text room (consistent s) → Full p s
  yes_full text room s j = go (dec_lt room 24) (read_graph (length p.threads) text) refl
    where
      absurd_22 : room < 24 → Full p s
      absurd_22 h = let q = judgement_unique file text room (consistent s) (refusing 22 0) j (output_refused p ok h) in absurd (let z : ◌≡◌ {A = ℕ} 0 1 = cc in omega arith)

      go : Dec (room < 24) → (x : Parsed) → read_graph (length p.threads) text ≡ x → Full p s
      go (yes h) x e = absurd_22 h
      go (no h) (parsed g) e = (answers_yes text room (omega (arith, h)) g e s j).0.0.0
      go (no h) (refused_at n k) e =
          let q = judgement_unique file text room (consistent s) (refusing n k) j ((line_refused text room (omega (arith, h)) n k).1 e) in
          absurd (let z : ◌≡◌ {A = ℕ} 0 1 = cc in omega arith)

  yes_in_front : (text out : List ℕ) (s : Schedule) → Judgement file text (length out) (consistent s) →
      (length s ≤ 24) × (take (length s) (output_after (consistent s) out) ≡ s) × (drop (length s) (output_after (consistent s) out) ≡ drop (length s) out)
  unfolding output_after
  yes_in_front text out s j = (at_most_24 p wf s (yes_full text (length out) s j), take_over s out, drop_over s out)

  zero_unwritten : (g : Graph) (v : Values) → Makes p g v → (e : Event) → AddsZero (local_at p v e) → (l : ℕ) → Memᴰ e (order_of g l) → ⊥
  zero_unwritten g v m e z l i = ((m.writes l e).0 i).1 (adds_nothing (local_at p v e) (v e) z)

  zero_judged : (text : List ℕ) (room : ℕ) → 24 ≤ room → (g : Graph) → Gives p text g → (e : Event) (l : ℕ) → Memᴰ e (order_of g l) →
      ((v : Values) → Makes p g v → AddsZero (local_at p v e)) → Judgement file text room inconsistent
  zero_judged text room h g q e l i z =
      (no_exactly text room h g q).1 (λ c. zero_unwritten g c.value c.makes e (z c.value c.makes) l i)

  pub demand_2 : Demand2 file p
  unfolding output_after
  demand_2 = record {
    has_text = has_text;
    text_in_front = text_in_front;
    text_back = run_text_read p wf;
    canonical = read_canonical p;
    own_yes = own_yes;
    one_answer = one_answer;
    yes_exactly = yes_exactly;
    no_exactly = no_exactly;
    graphs_exactly = λ g. let c = consistent_iff p wf g in ((λ k. let r = c.0 k in (r.0, r.1.0, r.1.1)), λ k. c.1 (k.0, (k.1, k.2)));
    zero_unwritten = zero_unwritten;
    zero_judged = zero_judged;
    least = least;
    short = short;
    text_refused = line_refused;
    text_numbers = text_numbers (length p.threads);
    yes_in_front = yes_in_front;
    no_changes_nothing = λ out. refl;
    refused_changes_nothing = λ n k out. refl;
  }

-- the program's refusal comes first
pub program_first : (file : List ℕ) (n k : ℕ) → decode file ≡ refused n k → ProgramFirst file n k
program_first file n k e text room a = (
  (λ j. judgement_unique file text room a (refusing n k) j (program_refused n k e)),
  (λ q. subst (Judgement file text room) (sym q) (program_refused n k e)),
)
