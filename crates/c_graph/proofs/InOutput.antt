-- A word of kind 1 tells how many bytes stand in front of the output: they are the graph's text, and the bytes behind them keep their value,
-- in both memory models.
-- The judge's law stands in JudgeFits.
use Prim.Native.Nat.{ℕ}
use mathlib.Core.Path.{◌≡◌, refl}
use mathlib.Core.List.{List}
use native.Mathlib.Omega.{arith}
use lib.ListN.{length}
use Rattle.spec_file.proofs.Over.{take_over, drop_over, length_over}
use Rattle.spec_schedules.specs.Order.{Schedule}
use Rattle.spec_model.specs.GraphCall.{GraphResult, texted, refusing, graph_file, graph_output}
use Rattle.listing_model.specs.declared.memory.Model.{Model}
use Rattle.listing_model.specs.ModelOf.{model_of}
use Rattle.listing.specs.Demand3.{InFront}
use Rattle.spec_calls.specs.Word.{answered, word_of, kind_in, rest_in}
use Rattle.spec_calls.proofs.Words.{kind_one}
use Rattle.spec_calls.specs.Graphed.{graph_reply}
use Rattle.spec_calls.proofs.Fitting.{GraphWithin}
use Rattle.c_graph.proofs.Fitting.{graph_within, graph_fits}

pub graph_in_output : (m : Model) (file out : List ℕ) (r : Schedule) → kind_in (word_of (graph_reply (graph_file (model_of m) file r (length out)))) ≡ 1 →
    (t : List ℕ) × (graph_file (model_of m) file r (length out) ≡ texted t) × (length t ≡ rest_in (word_of (graph_reply (graph_file (model_of m) file r (length out)))))
    × InFront t out (graph_output (graph_file (model_of m) file r (length out)) out)
unfolding graph_reply graph_output
graph_in_output m file out r e =
    go (graph_file (model_of m) file r (length out)) _ (graph_within m file r (length out)) (kind_one (graph_reply (graph_file (model_of m) file r (length out))) (graph_fits m file r (length out)) e)
  where
    go : (g : GraphResult) (n : ℕ) → GraphWithin (length out) g → graph_reply g ≡ answered n → (t : List ℕ) × (g ≡ texted t) × (length t ≡ n) × InFront t out (graph_output g out)
    go (texted t) n h q = (t, refl, cc, (take_over t out, drop_over t out, length_over t out (omega arith)))
    go (refusing i k) n h q = absurd (let z : ◌≡◌ {A = ℕ} 0 1 = cc in omega arith)
