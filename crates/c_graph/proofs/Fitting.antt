-- What the graph call says fits its word, in both memory models: a text has at most 400 bytes.
use Prim.Native.Nat.{ℕ, ◌+◌, ◌≤◌}
use mathlib.Core.Path.{◌≡◌, refl, ap}
use mathlib.Core.Bool.{Bool, true, false, cond}
use mathlib.Core.Option.{Option, none, some}
use mathlib.Core.List.{List}
use native.Mathlib.Omega.{arith}
use lib.Dec.{ltb}
use lib.ListN.{length}
use borrow.Author.Tests.{ltb-false}
use Rattle.spec_file.specs.Program.{Program}
use Rattle.spec_file.specs.Decode.{Decoded, accepted, refused, decode}
use Rattle.spec_schedules.specs.Order.{Schedule}
use Rattle.spec_schedules.proofs.Runs.{full_allowed}
use Rattle.spec_model.specs.Model.{graph, Full}
use Rattle.spec_model.specs.Laws.{Admitted}
use Rattle.spec_model.specs.Answers.{refuses_from}
use Rattle.spec_model.specs.OnFile.{admit}
use Rattle.spec_model.specs.GraphCall.{GraphResult, texted, refusing, graph_by, graph_answer, graph_on, graph_file}
use Rattle.spec_model.proofs.Admitted.{listed_program}
use Rattle.spec_model.proofs.Answered.{Small, refuses_small}
use Rattle.spec_model.proofs.Refusing.{goes_full}
use Rattle.graph_writer.proofs.NoteLength.{notes_400}
use Rattle.graph_writer.proofs.TextLength as Sequences
use Rattle.spec_tso.specs.State.{TSO, start}
use Rattle.spec_tso.proofs.Laws.{at_most_16}
use Rattle.tso_replay.specs.Noted.{notes}
use Rattle.tso_replay.proofs.NotesHere.{graph_text_notes}
use Rattle.tso_replay.proofs.FewNotes.{notes_16}
use Rattle.listing_model.specs.declared.memory.Model.{Model}
use Rattle.listing_model.specs.declared.memory.Model.TheVariants.{Sequential, TotalStoreOrder}
use Rattle.listing_model.specs.ModelOf.{model_of}
use Rattle.listing_model.proofs.ModelLaws.{model_laws}
use Rattle.listing_model.proofs.SmallRefusals.{steps_48, refused_small}
use Rattle.spec_calls.specs.Word.{Fits}
use Rattle.spec_calls.specs.Graphed.{graph_reply}
use Rattle.spec_calls.proofs.Fitting.{GraphWithin}

-- AT MOST 400 BYTES
pub text_400 : (m : Model) (p : Program) → Admitted (model_of m) p → (s : Schedule) → Full (model_of m) p s → length ((model_of m).text (graph (model_of m) p s)) ≤ 400
text_400 Sequential p a s f = Sequences.text_400 p a.0 s f
text_400 TotalStoreOrder p a s f =
    let allowed = (full_allowed TSO (start p) s f).0 in
    omega (arith, ap length (graph_text_notes p a.0 s allowed), notes_400 (notes (start p) s) (omega (arith, notes_16 p (at_most_16 p a.1) s allowed)))

pub graph_within : (m : Model) (file : List ℕ) (s : Schedule) (room : ℕ) → GraphWithin room (graph_file (model_of m) file s room)
unfolding graph_on graph_answer graph_by
graph_within m file s room = go (admit (model_of m) (decode file)) refl
  where
    refusal : Program → Option (ℕ × ℕ)
    refusal p = refuses_from (model_of m).system 0 ((model_of m).start p) s

    text : (p : Program) → Admitted (model_of m) p → 512 ≤ room → (o : Option (ℕ × ℕ)) → refusal p ≡ o → Small 21 (0 + (model_of m).system.size ((model_of m).start p)) o → GraphWithin room (graph_by (model_of m) p s o)
    text p a b none e h = (text_400 m p a s (goes_full (model_of m).system s 0 ((model_of m).start p) e), b)
    text p a b (some r) e h = (omega (arith, h.0), omega (arith, h.1, ((model_laws m).program p a).bound, steps_48 m))

    by : (p : Program) → Admitted (model_of m) p → (b : Bool) → ltb room 512 ≡ b → GraphWithin room (cond b (refusing 22 0) (graph_by (model_of m) p s (refusal p)))
    by p a true e = (omega arith, omega arith)
    by p a false e = text p a (ltb-false room 512 e) (refusal p) refl (refuses_small (model_of m).system (model_laws m).steps.lawful s 0 ((model_of m).start p))

    go : (d : Decoded) → admit (model_of m) (decode file) ≡ d → GraphWithin room (graph_on (model_of m) d s room)
    go (accepted p) e = by p (listed_program (model_of m) (model_laws m) file p e) (ltb room 512) refl
    go (refused n k) e = refused_small m file n k e

pub graph_fits : (m : Model) (file : List ℕ) (s : Schedule) (room : ℕ) → Fits (graph_reply (graph_file (model_of m) file s room))
unfolding graph_reply
graph_fits m file s room = go (graph_file (model_of m) file s room) (graph_within m file s room)
  where
    go : (g : GraphResult) → GraphWithin room g → Fits (graph_reply g)
    go (texted t) h = omega arith
    go (refusing n k) h = h
