-- What the graph call answers, by what carrying out the schedule left.
use Prim.Native.Nat.{ℕ, ◌≤◌, ◌<◌}
use mathlib.Core.Path.{◌≡◌, refl, sym, ap, ◌∙◌}
use mathlib.Core.List.{List}
use lib.ListN.{length, length-map}
use borrow.Author.Tests.{lt-ltb, le-ltb}
use Rattle.std.specs.Prelude.{Result, Ok, Err, ⊤}
use Rattle.spec_file.specs.declared.refusal.Refusal.{Refusal}
use Rattle.spec_file.specs.Over.{over}
use Rattle.spec_file.specs.Program.{Program}
use Rattle.spec_file.specs.Decode.{Decoded, accepted, refused, decode}
use Rattle.spec_schedules.specs.Lists.{range}
use Rattle.spec_schedules.proofs.Lists.{range_length}
use Rattle.spec_schedules.specs.Order.{Schedule}
use Rattle.spec_model.specs.Model as Memory
use Rattle.spec_model.specs.Model.{graph}
use Rattle.spec_model.specs.OnFile.{admit}
use Rattle.spec_model.specs.GraphCall.{GraphResult, texted, refusing, graph_by, graph_answer, graph_on, graph_file, graph_output}
use Rattle.spec_sc.specs.Text.{text_of, graph_text}
use Rattle.graph_writer.specs.Notes.{Note, Noted}
use Rattle.graph_writer.specs.NoteText.{note_frames, note_at, notes_at}
use Rattle.graph_writer.proofs.NotesHeld.{notes_each}
use Rattle.machine_replay.specs.Carried.{refusal_of}
use Rattle.listing_model.specs.declared.memory.Model.{Model}
use Rattle.listing_model.specs.declared.memory.Model.TheVariants.{Sequential, TotalStoreOrder}
use Rattle.listing_model.specs.ModelOf.{model_of}
use Rattle.listing_replay.specs.declared.replaying.Replay.{Replay}
use Rattle.listing_replay.specs.Replays.{graph_in, Replays}
use Rattle.graph_call.specs.GraphWord.{graph_answer_of}

-- the text of a model's graph
text_in : (m : Model) (p : Program) (s : Schedule) → graph_text (graph_in m p s) ≡ (model_of m).text (graph (model_of m) p s)
text_in Sequential p s = refl
text_in TotalStoreOrder p s = refl

-- so many notes
notes_count : (log : List ℕ) (n : ℕ) → length (notes_at log n) ≡ n
notes_count log n = ap length (notes_each log n) ∙ length-map (range 0 n) (note_at log) ∙ range_length 0 n

-- what a refusal answers, and leaves in the output
refusing_answer : (g : GraphResult) (out : List ℕ) (r : Refusal) → g ≡ refusing r.number r.place → (Err r ≡ graph_answer_of g) × (out ≡ graph_output g out)
unfolding graph_answer_of graph_output
refusing_answer g out r e = (ap graph_answer_of (sym e), ap (λ (a : GraphResult). graph_output a out) (sym e))

-- ---- of a listed program
-- too short an output
pub graph_short : (M : Memory.Model) (p : Program) (s : Schedule) (out : List ℕ) → length out < 512
    → (Err (record { number = 22; place = 0 }) ≡ graph_answer_of (graph_answer M p s (length out))) × (out ≡ graph_output (graph_answer M p s (length out)) out)
unfolding graph_answer
graph_short M p s out h = refusing_answer _ out _ (rw (lt-ltb (length out) 512 h))

module _ (m : Model) (p : Program) (s : Schedule) (r : Replay) (held : Replays m p s r) (out : List ℕ) (wide : 512 ≤ length out) where
  answered : graph_answer (model_of m) p s (length out) ≡ graph_by (model_of m) p s (refusal_of r.end)
  unfolding graph_answer
  answered = rw (le-ltb (length out) 512 wide) (ap (graph_by (model_of m) p s) (sym held.answer))

  -- refused by 20 or 21
  pub graph_refused : (q : Refusal) → r.end ≡ Err q → (Err q ≡ graph_answer_of (graph_answer (model_of m) p s (length out))) × (out ≡ graph_output (graph_answer (model_of m) p s (length out)) out)
  unfolding graph_by refusal_of
  graph_refused q e = refusing_answer _ out q (answered ∙ ap (λ (v : Result ⊤ Refusal). graph_by (model_of m) p s (refusal_of v)) e)

  -- the text stands in front of the output
  pub graph_answered : r.end ≡ Ok tt → (later : List ℕ) (n : ℕ)
      → ((ns : List Note) → Noted r.log ns → length ns ≡ r.notes → (n ≡ length (text_of (note_frames ns))) × (later ≡ over (text_of (note_frames ns)) out))
      → (Ok n ≡ graph_answer_of (graph_answer (model_of m) p s (length out))) × (later ≡ graph_output (graph_answer (model_of m) p s (length out)) out)
  unfolding graph_by refusal_of graph_answer_of graph_output
  graph_answered e later n f =
      let whole : graph_answer (model_of m) p s (length out) ≡ texted ((model_of m).text (graph (model_of m) p s)) = answered ∙ ap (λ (v : Result ⊤ Refusal). graph_by (model_of m) p s (refusal_of v)) e in
      let g = f (notes_at r.log r.notes) (held.noted e) (notes_count r.log r.notes) in
      let t = (held.graph e).text ∙ text_in m p s in (
        ap Ok (g.0 ∙ ap length t) ∙ ap graph_answer_of (sym whole),
        g.1 ∙ ap (λ (x : List ℕ). over x out) t ∙ ap (λ (a : GraphResult). graph_output a out) (sym whole),
      )

-- ---- of a program file
module _ (M : Memory.Model) (file : List ℕ) (s : Schedule) (out : List ℕ) where
  pub file_refused : (r : Refusal) → admit M (decode file) ≡ refused r.number r.place
      → (Err r ≡ graph_answer_of (graph_file M file s (length out))) × (out ≡ graph_output (graph_file M file s (length out)) out)
  unfolding graph_on
  file_refused r e = refusing_answer _ out r (ap (λ (d : Decoded). graph_on M d s (length out)) e)

  pub file_answered : (p : Program) → admit M (decode file) ≡ accepted p → graph_file M file s (length out) ≡ graph_answer M p s (length out)
  unfolding graph_on
  file_answered p e = ap (λ (d : Decoded). graph_on M d s (length out)) e
