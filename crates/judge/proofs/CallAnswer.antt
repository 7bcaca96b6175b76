-- The call's answer, way by way.
use Prim.Native.Nat.{ℕ, ◌<◌, ◌≤◌}
use mathlib.Core.Path.{◌≡◌, refl, sym, ap, ◌∙◌}
use mathlib.Core.List.{List}
use native.Mathlib.Omega.{arith}
use lib.ListN.{length, take}
use lib.Seq.{length-take-le}
use Rattle.spec_file.specs.Over.{over}
use Rattle.std.specs.Prelude.{Option, Some, None, Result, Ok, Err}
use Rattle.spec_file.specs.declared.refusal.Refusal.{Refusal}
use Rattle.file_decoder.specs.declared.file.Compiled.{Compiled}
use Rattle.listing_cursor.specs.declared.steps.Steps.{Steps}
use Rattle.spec_file.specs.Program.{Program}
use Rattle.spec_file.specs.Decode.{accepted, decode}
use Rattle.file_decoder.specs.Compiled.{program_of, answer_of}
use Rattle.spec_file.specs.WellFormed.{WellFormed}
use Rattle.spec_file.proofs.AcceptedWellFormed.{accepted_well_formed}
use Rattle.spec_sc.specs.Graph.{Graph}
use Rattle.machine.specs.Held.{Loaded}
use Rattle.machine.proofs.HeldStart.{threads_held}
use Rattle.spec_judge.proofs.Walk.{judge}
use Rattle.spec_judge.proofs.Judged.{judge_yes, judge_no}
use Rattle.spec_judge.specs.Reading.{Parsed, parsed, refused_at, read_graph}
use Rattle.spec_judge.specs.Answer.{Answer, consistent, inconsistent, refusing, output_after, TextRead, Judgement, program_refused, output_refused, text_refused, judged_yes, judged_no}
use Rattle.graph_reader.specs.Held.{ReadAs}
use Rattle.judge.specs.Call.{outcome_of}
use Rattle.judge.specs.HeldYes.{JudgedAs}
use Rattle.judge_values.proofs.HeldRoundLoop.{six_held}

-- what the call says: the one right answer, and the output behind it
abbrev Says : List ℕ → List ℕ → List ℕ → Result (Option ℕ) Refusal → List ℕ → Type 0
Says file text out o out' = (a : Answer) × Judgement file text (length out) a × (o ≡ outcome_of a) × (out' ≡ output_after a out)

pub says_refused : {file text : List ℕ} (n k : ℕ) (out : List ℕ) → Judgement file text (length out) (refusing n k) → Says file text out (Err (record { number = n; place = k })) out
unfolding outcome_of output_after
says_refused n k out j = (refusing n k, j, refl, refl)

pub says_no : {file text : List ℕ} (out : List ℕ) → Judgement file text (length out) inconsistent → Says file text out (Ok None) out
unfolding outcome_of output_after
says_no out j = (inconsistent, j, refl, refl)

pub says_yes : {file text : List ℕ} (k : ℕ) (bytes out out' : List ℕ) → Judgement file text (length out) (consistent (take k bytes)) → k ≤ 24 → length bytes ≡ 24
    → out' ≡ over (take k bytes) out → Says file text out (Ok (Some k)) out'
unfolding outcome_of output_after
says_yes k bytes out out' j h size o = (consistent (take k bytes), j, ap (λ (n : ℕ). Ok (Some n)) (sym (length-take-le k bytes (omega arith))), o)

module _ (file text : List ℕ) (room : ℕ) where
  -- the program's refusal
  pub call_refused : (r : Refusal) → answer_of (Err r) ≡ decode file → Judgement file text room (refusing r.number r.place)
  unfolding answer_of
  call_refused r e = program_refused r.number r.place (sym e)

  module _ (c : Compiled) (e : answer_of (Ok c) ≡ decode file) where
    abbrev p : Program
    p = program_of c

    accepted_is : decode file ≡ accepted p
    unfolding answer_of
    accepted_is = sym e

    formed : WellFormed p
    formed = accepted_well_formed file p accepted_is

    pub call_loaded : Loaded c.code c.lengths c.threads (program_of c)
    unfolding program_of
    call_loaded = record { well_formed = formed; codes = refl }

    pub call_few : c.threads ≤ 6
    call_few = six_held c.code c.lengths c.threads (program_of c) call_loaded

    -- 22
    pub call_short : room < 24 → Judgement file text room (refusing 22 0)
    call_short h = output_refused p accepted_is h

    module _ (h : 24 ≤ room) where
      text_read : (x : Parsed) → read_graph c.threads text ≡ x → TextRead file text room p x
      text_read x q = record {
        accepts = accepted_is;
        enough = h;
        reads = ap (λ (n : ℕ). read_graph n text) (threads_held c.code c.lengths c.threads (program_of c) call_loaded) ∙ q;
      }

      -- 30 to 33
      pub call_line : (r : Refusal) → ReadAs (Err r) (read_graph c.threads text) → Judgement file text room (refusing r.number r.place)
      call_line r q = text_refused p r.number r.place (text_read (refused_at r.number r.place) q)

      module _ (g : Graph) (q : read_graph c.threads text ≡ parsed g) where
        -- the walk found none, so the graph is not consistent
        pub call_no : JudgedAs None (judge (program_of c) g) → Judgement file text room inconsistent
        call_no j = judged_no p g (text_read (parsed g) q) ((judge_no p formed g).0 j)

        -- the schedule that it found is the least
        pub call_yes : (s : Steps 24) → JudgedAs (Some s) (judge (program_of c) g) → Judgement file text room (consistent (take s.steps s.schedule)) × (s.steps ≤ 24)
        call_yes s j =
            let l = judge_yes p formed g (take s.steps s.schedule) j.0 in
            (judged_yes p g (take s.steps s.schedule) (text_read (parsed g) q) l.1 l.0, j.1)
