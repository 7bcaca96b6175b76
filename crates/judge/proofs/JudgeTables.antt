-- The judge's answer by the tables: yes exactly if all threads have ended and the graph made has the table of the graph given.
use Prim.Native.Nat.{ℕ, ◌+◌, ◌*◌, ◌-◌, ◌/◌, ◌%◌, ◌<◌, ◌≤◌}
use mathlib.Core.Path.{◌≡◌, refl, sym, ap, subst, ◌∙◌}
use mathlib.Core.Bool.{Bool, true, false, ◌&&◌, true≢false}
use mathlib.Core.Option.{none, some}
use mathlib.Core.List.{List, reverse}
use native.Mathlib.Omega.{arith}
use native.Mathlib.Decide.{ℕ_discrete}
use borrow.Author.Tests.{ltb-true, ltb-false}
use lib.Dec.{ltb}
use lib.ListN.{length, get_or, take}
use lib.Seq.{ext_get_or, length-take-le, get_or-take}
use Rattle.spec_file.specs.Program.{Program}
use Rattle.spec_file.specs.WellFormed.{WellFormed}
use Rattle.spec_schedules.specs.Order.{Schedule}
use Rattle.spec_schedules.specs.System.{ended}
use Rattle.spec_schedules.proofs.Runs.{allowed_full}
use Rattle.spec_sc.specs.State.{Event, State, SC, start}
use Rattle.spec_sc.specs.Graph.{Graph, graph_of, end_of, Full}
use Rattle.machine.specs.Held.{Loaded}
use Rattle.machine.proofs.HeldStart.{threads_held}
use Rattle.judge.specs.declared.walking.Walk.{Walk}
use Rattle.spec_judge.specs.Consistent.{row_of, order_of}
use Rattle.spec_judge.proofs.Walk.{same_graph, walk, judge}
use Rattle.spec_judge.specs.Reading.{parsed, read_graph}
use Rattle.graph_reader.specs.Held.{no_line, line_in, Entry, Tabled}
use Rattle.std.specs.Prelude.{Some}
use Rattle.judge.specs.HeldYes.{Walked, JudgedAs}
use Rattle.spec_judge.proofs.Tests.{same_graph_is, is_same_graph}
use Rattle.spec_judge.proofs.Readable.{Readable}
use Rattle.spec_judge.proofs.Parsed.{read_readable}
use Rattle.spec_judge.proofs.RunRead.{run_readable}
use Rattle.judge_values.proofs.HeldRoundLoop.{six_held}
use Rattle.graph_reader.proofs.TabledGraph.{tabled_same}

-- a graph has one table
module _ (a b ca cb : List ℕ) (g : Graph) (T : Tabled a ca g) (S : Tabled b cb g) where
  entry : (q : ℕ) → q < 288 → (get_or a (q * 2) 0 ≡ get_or b (q * 2) 0) × (get_or a (q * 2 + 1) 0 ≡ get_or b (q * 2 + 1) 0)
  entry q h = go (ltb q 96) refl
    where
      agree : (j : ℕ) (e : Event) → q ≡ j → Entry a j e → Entry b j e → (get_or a (q * 2) 0 ≡ get_or b (q * 2) 0) × (get_or a (q * 2 + 1) 0 ≡ get_or b (q * 2 + 1) 0)
      agree j e z x y = rw z (x.0 ∙ sym y.0, x.1 ∙ sym y.1)

      go : (w : Bool) → ltb q 96 ≡ w → (get_or a (q * 2) 0 ≡ get_or b (q * 2) 0) × (get_or a (q * 2 + 1) 0 ≡ get_or b (q * 2 + 1) 0)
      go true w =
          let l = ltb-true q 96 w in
          let m : q / 16 < 6 = omega arith in
          let n : q % 16 < 16 = omega arith in
          agree (q / 16 * 16 + q % 16) (line_in (row_of g (q / 16)) (q % 16)) (omega arith) (T.sources (q / 16) (q % 16) m n) (S.sources (q / 16) (q % 16) m n)
      go false w =
          let l = ltb-false q 96 w in
          let m : (q - 96) / 24 < 8 = omega arith in
          let n : (q - 96) % 24 < 24 = omega arith in
          agree (96 + ((q - 96) / 24 * 24 + (q - 96) % 24)) (get_or (reverse (order_of g ((q - 96) / 24))) ((q - 96) % 24) no_line) (omega arith)
          (T.orders ((q - 96) / 24) ((q - 96) % 24) m n) (S.orders ((q - 96) / 24) ((q - 96) % 24) m n)

  one_table : length a ≡ 576 → length b ≡ 576 → a ≡ b
  one_table sa sb = ext_get_or 0 a b (sa ∙ sym sb) (λ k h. byte k (omega arith) (ℕ_discrete (k % 2) 0))
    where
      byte : (k : ℕ) → k < 576 → Dec (k % 2 ≡ 0) → get_or a k 0 ≡ get_or b k 0
      byte k h (yes q) = let z : k ≡ k / 2 * 2 = omega arith in let e = (entry (k / 2) (omega arith)).0 in ap (λ (j : ℕ). get_or a j 0) z ∙ e ∙ sym (ap (λ (j : ℕ). get_or b j 0) z)
      byte k h (no q) = let z : k ≡ k / 2 * 2 + 1 = omega (arith, q) in let e = (entry (k / 2) (omega arith)).1 in ap (λ (j : ℕ). get_or a j 0) z ∙ e ∙ sym (ap (λ (j : ℕ). get_or b j 0) z)

  one_count : length ca ≡ 8 → length cb ≡ 8 → ca ≡ cb
  one_count sa sb = ext_get_or 0 ca cb (sa ∙ sym sb) (λ l h. T.counts l (omega arith) ∙ sym (S.counts l (omega arith)))

-- the judge, by its two tests
judge_by : (p : Program) (g : Graph) (b : Bool) → (ended SC (end_of p (walk p g)) && same_graph (graph_of (end_of p (walk p g))) g) ≡ b → (b ≡ true → judge p g ≡ some (walk p g)) × (b ≡ false → judge p g ≡ none)
unfolding judge
judge_by p g true q = ((λ z. rw (q, judge)), λ z. absurd (true≢false z))
judge_by p g false q = ((λ z. absurd (true≢false (sym z))), λ z. rw (q, judge))

own_readable : (p : Program) → WellFormed p → (s : Schedule) → Full p s → Readable (length p.threads) (graph_of (end_of p s))
own_readable p wf s f = run_readable p wf s f

module _ (code lengths : List ℕ) (n : ℕ) (pairs counts : List ℕ) (p : Program) (text : List ℕ) (g : Graph) (loaded : Loaded code lengths n p) (read : read_graph n text ≡ parsed g)
    (T : Tabled pairs counts g) (w : Walk) (W : Walked code lengths p g w) where
  abbrev σ : State
  σ = end_of p (walk p g)

  -- some thread has not ended
  pub answer_running : ended SC (end_of p (walk p g)) ≡ false → judge p g ≡ none
  answer_running e = (judge_by p g false (rw e)).1 refl

  module _ (e : ended SC (end_of p (walk p g)) ≡ true) where
    another : (same_graph (graph_of σ) g ≡ true → ⊥) → judge p g ≡ none
    another ne = (judge_by p g false (go (same_graph (graph_of σ) g) refl)).1 refl
      where
        go : (b : Bool) → same_graph (graph_of σ) g ≡ b → (ended SC σ && same_graph (graph_of σ) g) ≡ false
        go true q = absurd (ne q)
        go false q = rw (e, q)

    -- the tables differ
    pub answer_pairs : length w.made.pairs ≡ 576 → length pairs ≡ 576 → (w.made.pairs ≡ pairs → ⊥) → judge p g ≡ none
    answer_pairs a b ne = another (λ q. ne (one_table w.made.pairs pairs w.made.counts counts g (subst (Tabled w.made.pairs w.made.counts) (same_graph_is (graph_of σ) g q) W.made) T a b))

    pub answer_counts : length w.made.counts ≡ 8 → length counts ≡ 8 → (w.made.counts ≡ counts → ⊥) → judge p g ≡ none
    answer_counts a b ne = another (λ q. ne (one_count w.made.pairs pairs w.made.counts counts g (subst (Tabled w.made.pairs w.made.counts) (same_graph_is (graph_of σ) g q) W.made) T a b))

    -- the two tables do not differ
    pub answer_yes : length w.schedule ≡ 24 → w.made.pairs ≡ pairs → w.made.counts ≡ counts → JudgedAs (Some (record { schedule = w.schedule; steps = w.steps })) (judge p g)
    answer_yes a x y = ((judge_by p g true (rw (e, subst (λ (k : Graph). same_graph k g ≡ true) (sym same) (is_same_graph g)))).0 refl ∙ ap some (sym walked), W.most)
      where
        full : Full p (walk p g)
        full = allowed_full SC (start p) (walk p g) W.allowed e

        made : Tabled pairs counts (graph_of σ)
        made = subst (λ (k : List ℕ). Tabled k counts (graph_of σ)) x (subst (λ (k : List ℕ). Tabled w.made.pairs k (graph_of σ)) y W.made)

        readable : Readable n (graph_of σ)
        readable = subst (λ (k : ℕ). Readable k (graph_of σ)) (threads_held code lengths n p loaded) (own_readable p loaded.well_formed (walk p g) full)

        same : graph_of σ ≡ g
        same = tabled_same n (six_held code lengths n p loaded) (graph_of σ) g readable (read_readable n text g read) pairs counts made T (λ l b. subst (λ (k : List ℕ). get_or k l 0 ≤ 24) y (W.few l))

        walked : take w.steps w.schedule ≡ walk p g
        walked =
            let k : length (take w.steps w.schedule) ≡ w.steps = length-take-le w.steps w.schedule (omega (arith, W.most)) in
            ext_get_or 0 (take w.steps w.schedule) (walk p g) (k ∙ W.steps) (λ j i. get_or-take w.steps w.schedule j 0 (omega arith) ∙ W.schedule j (omega arith))
