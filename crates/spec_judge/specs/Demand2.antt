-- DEMAND 2, the judge's promise about an accepted file, as one claim. p is the program that the file is read as; `graph_file sc` and
-- `graph_output`, `Judgement` and `output_after` are what the contracts of the graph call and of the judge equate their answers and the later
-- contents of their outputs with.
use Rattle.std.specs.Prelude.{ℕ, ◌<◌, ◌≤◌, ◌≡◌, ◌↔◌, false, length, take, drop}
use mathlib.Core.List.{List, ◌∷◌, Memᴰ}
use Rattle.spec_file.specs.Program.{Program}
use Rattle.spec_schedules.specs.Order.{Schedule, less}
use Rattle.spec_file.specs.declared.instruction.Operand.{Operand}
use Rattle.spec_file.specs.declared.instruction.Access.TheVariants.{FetchAdd}
use Rattle.spec_file.specs.declared.instruction.Instruction.{Instruction}
use Rattle.spec_file.specs.declared.instruction.Instruction.TheVariants.{Memory}
use Rattle.spec_sc.specs.Local.{Local, eval}
use Rattle.spec_sc.specs.State.{Event}
use Rattle.spec_sc.specs.Graph.{Graph, graph, Full}
use Rattle.spec_sc.specs.Text.{graph_text}
use Rattle.spec_sc.specs.Sequential.{sc}
use Rattle.spec_model.specs.GraphCall.{texted, graph_file, graph_output}
use Rattle.spec_judge.specs.Consistent.{order_of, Values, local_at, Makes, Canonical, Consistent}
use Rattle.spec_judge.specs.Reading.{parsed, refused_at, read_graph}
use Rattle.spec_judge.specs.Answer.{Answer, consistent, inconsistent, refusing, Judgement, output_after}

-- the text of a schedule's graph
abbrev pub text_for : Program → Schedule → List ℕ
text_for p s = graph_text (graph p s)

-- the text is not refused: it gives the graph g
abbrev pub Gives : Program → List ℕ → Graph → Type 0
Gives p text g = read_graph (length p.threads) text ≡ parsed g

-- the thread's next access is a fetch and add of zero
abbrev pub AddsZero : Local → Type 0
AddsZero h = (r l : ℕ) × (o : Operand) × (rest : List Instruction) × (h.rest ≡ Memory (FetchAdd r l o) ∷ rest) × (eval h.registers o ≡ 0)

pub record Demand2 (file : List ℕ) (p : Program) : Type 0 where
  -- EVERY FULL SCHEDULE, and no other, has its graph's text by the graph call, with an output that is not too short
  pub has_text : (s : Schedule) (room : ℕ) → 512 ≤ room → (t : List ℕ) →
      (graph_file sc file s room ≡ texted t) ↔ (Full p s × (t ≡ text_for p s))
  -- the text of a full schedule's graph stands in front of the graph call's output, and the bytes behind it keep their value
  pub text_in_front : (s : Schedule) → Full p s → (out : List ℕ) → 512 ≤ length out →
      let t = text_for p s in
      let later = graph_output (graph_file sc file s (length out)) out in
      (take (length t) later ≡ t) × (drop (length t) later ≡ drop (length t) out)
  -- the text of a full schedule's graph, read, gives that graph back
  pub text_back : (s : Schedule) → Full p s → Gives p (text_for p s) (graph p s)
  -- every text that is not refused gives a row for each thread and a list for each location, in order, nothing twice
  pub canonical : (text : List ℕ) (g : Graph) → Gives p text g → Canonical p g
  -- THE TEXT OF A FULL SCHEDULE'S GRAPH IS JUDGED YES, with a schedule that is not greater
  pub own_yes : (s : Schedule) → Full p s → (room : ℕ) → 24 ≤ room →
      (r : Schedule) × Judgement file (text_for p s) room (consistent r) × (less s r ≡ false)
  -- ONE ANSWER to every text, whatever the output's length
  pub one_answer : (text : List ℕ) (room : ℕ) →
      (a : Answer) × Judgement file text room a × ((b : Answer) → Judgement file text room b → b ≡ a)
  -- JUDGED BY THE DEFINITION: yes exactly when the text's graph is consistent
  pub yes_exactly : (text : List ℕ) (room : ℕ) → 24 ≤ room → (g : Graph) → Gives p text g →
      ((s : Schedule) × Judgement file text room (consistent s)) ↔ Consistent p g
  -- the judge answers no exactly when the text's graph is not consistent
  pub no_exactly : (text : List ℕ) (room : ℕ) → 24 ≤ room → (g : Graph) → Gives p text g →
      Judgement file text room inconsistent ↔ (Consistent p g → ⊥)
  -- the consistent graphs are exactly the graphs of full schedules
  pub graphs_exactly : (g : Graph) → Consistent p g ↔ ((s : Schedule) × Full p s × (graph p s ≡ g))
  -- A FETCH AND ADD OF ZERO STANDS IN NO `41` LINE of a consistent graph: on values that make a graph, an event that adds zero is not among
  -- its writes
  pub zero_unwritten : (g : Graph) (v : Values) → Makes p g v → (e : Event) → AddsZero (local_at p v e) → (l : ℕ) →
      Memᴰ e (order_of g l) → ⊥
  -- a text that has an event in a `41` line which adds zero on all values that make its graph is judged no
  pub zero_judged : (text : List ℕ) (room : ℕ) → 24 ≤ room → (g : Graph) → Gives p text g → (e : Event) (l : ℕ) →
      Memᴰ e (order_of g l) → ((v : Values) → Makes p g v → AddsZero (local_at p v e)) → Judgement file text room inconsistent
  -- THE SCHEDULE ANSWERED is full, has the text's graph, and no smaller full schedule has that graph
  pub least : (text : List ℕ) (room : ℕ) → 24 ≤ room → (g : Graph) → Gives p text g → (s : Schedule) →
      Judgement file text room (consistent s) ↔
      (Full p s × (graph p s ≡ g) × ((r : Schedule) → Full p r → graph p r ≡ g → less r s ≡ false))
  -- REFUSED by 22 exactly when the output is shorter than 24 bytes, whatever the text
  pub short : (text : List ℕ) (room : ℕ) → Judgement file text room (refusing 22 0) ↔ (room < 24)
  -- with an output of 24 bytes or more, exactly the refusals of the text are answered, by number and line
  pub text_refused : (text : List ℕ) (room : ℕ) → 24 ≤ room → (n k : ℕ) →
      Judgement file text room (refusing n k) ↔ (read_graph (length p.threads) text ≡ refused_at n k)
  -- a text is refused by 30 to 33, at a line from 1
  pub text_numbers : (text : List ℕ) (n k : ℕ) → read_graph (length p.threads) text ≡ refused_at n k →
      (30 ≤ n) × (n ≤ 33) × (1 ≤ k)
  -- A YES stands in the output: its first bytes are the schedule, which has at most 24, and the bytes behind it keep their value
  pub yes_in_front : (text out : List ℕ) (s : Schedule) → Judgement file text (length out) (consistent s) →
      let later = output_after (consistent s) out in
      (length s ≤ 24) × (take (length s) later ≡ s) × (drop (length s) later ≡ drop (length s) out)
  -- a no changes no byte of the output
  pub no_changes_nothing : (out : List ℕ) → output_after inconsistent out ≡ out
  -- a refusal changes no byte of the output
  pub refused_changes_nothing : (n k : ℕ) (out : List ℕ) → output_after (refusing n k) out ≡ out

-- of a file that is refused every text gets the program's refusal, whatever the output
abbrev pub ProgramFirst : List ℕ → ℕ → ℕ → Type 0
ProgramFirst file n k = (text : List ℕ) (room : ℕ) (a : Answer) → Judgement file text room a ↔ (a ≡ refusing n k)
