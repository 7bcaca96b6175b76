-- The lines of a graph text, read one after the other: what has been read and what is left make the whole text's answer.
use Prim.Native.Nat.{ℕ, ◌+◌, ◌-◌, ◌≤◌, ◌<◌}
use mathlib.Core.Path.{◌≡◌, ◌∙◌, sym, refl, subst}
use mathlib.Core.List.{List}
use native.Mathlib.Omega.{arith}
use lib.ListN.{length, take, drop}
use Rattle.spec_file.specs.Frame.{pairs}
use Rattle.spec_file.specs.Split.{line_length}
use Rattle.spec_file.specs.TextLines.{split}
use Rattle.spec_file.specs.Meaning.{framed, spelt}
use Rattle.file_lines.specs.Meaning.{line_of}
use Rattle.file_lines.specs.declared.reader.Line.TheVariants.{Frame, Remark, Broken}
use Rattle.spec_file.proofs.Split.{before_end}
use Rattle.file_lines.proofs.Meaning.{spelt_as_frame, spelt_as_remark, spelt_as_broken}
use Rattle.graph_reader.specs.declared.table.Table.{Table}
use Rattle.std.specs.Prelude.{Some, None, Ok, Err}
use Rattle.file_lines.specs.Numbers.{unless_zero}
use Rattle.file_lines.proofs.Numbers.{unless_none, unless_some}
use Rattle.spec_judge.specs.Reading.{Reading, refusal, after, fresh, read_lines, read_graph}
use Rattle.graph_reader.specs.Held.{Holds, empty_table, Passes, Taken, ReadAs}
use Rattle.spec_judge.proofs.LineByLine.{text_over, line_unended, line_broken, line_remarked, line_refused, line_passes}
use Rattle.spec_judge.proofs.Parsed.{passed}
use Rattle.graph_reader.proofs.HeldAfter.{held_fresh}

-- the lines before position `at` have been read, and none was refused
pub record Progress (n : ℕ) (text : List ℕ) (s : Table) (at number : ℕ) : Type 0 where
  pub within : at ≤ length text
  pub positive : 1 ≤ number
  pub counted : number ≤ at + 1
  pub read : Reading
  pub holds : Holds n s read
  pub rest : read_graph n text ≡ read_lines n number (split (drop at text)) read

pub progress_start : (n : ℕ) (text : List ℕ) (s : Table) → s ≡ empty_table → Progress n text s 0 1
unfolding read_graph
progress_start n text s e = record {
  within = omega arith;
  positive = omega arith;
  counted = omega arith;
  read = fresh n;
  holds = subst (λ (x : Table). Holds n x (fresh n)) (sym e) (held_fresh n);
  rest = refl;
}

module _ (n : ℕ) (text : List ℕ) (s : Table) (at number : ℕ) (p : Progress n text s at number) where
  -- no line is left
  pub read_done : length text ≤ at → ReadAs (Ok s) (read_graph n text)
  read_done h = (p.read.graph, p.rest ∙ text_over n number text at p.read h, p.holds.graph)

  module _ (end : ℕ) (h : at < length text) (e : end ≡ at + line_length (drop at text)) where
    -- the last line has no 0a
    pub read_unended : end ≡ length text → ReadAs (Err (record { number = 30; place = number })) (read_graph n text)
    read_unended l = p.rest ∙ line_unended n number text at p.read end e h (omega arith) (omega arith)

    module _ (ne : end ≡ length text → ⊥) where
      abbrev line : List ℕ
      line = take (end - at) (drop at text)

      inside : end < length text
      inside = before_end text at end h e ne

      -- the line is neither a frame nor a remark
      pub read_broken : line_of line ≡ Broken → ReadAs (Err (record { number = 30; place = number })) (read_graph n text)
      read_broken q = p.rest ∙ line_broken n number text at p.read end e inside (spelt_as_broken line q)

      -- the line is a remark: it is passed over, and counted
      pub read_remark : line_of line ≡ Remark → Progress n text s (end + 1) (number + 1)
      read_remark q = record {
        within = let i = inside in omega arith;
        positive = omega arith;
        counted = let c = p.counted in omega arith;
        read = p.read;
        holds = p.holds;
        rest = p.rest ∙ line_remarked n number text at p.read end e inside (spelt_as_remark line q);
      }

      module _ (size : ℕ) (z : line_of line ≡ Frame size) where
        its_frame : spelt line ≡ framed (pairs line)
        its_frame = (spelt_as_frame line size z).0

        pub read_size : size ≡ length (pairs line)
        read_size = sym (spelt_as_frame line size z).1

        -- the line's frame is refused
        pub read_refused : (k : ℕ) → Some k ≡ unless_zero (refusal n p.read (pairs line)) → ReadAs (Err (record { number = k; place = number })) (read_graph n text)
        read_refused k r =
            let q = unless_some (refusal n p.read (pairs line)) k (sym r) in
            p.rest ∙ line_refused n number text at p.read end e inside (pairs line) its_frame k q.0 (λ z. omega arith)

        module _ (r : None ≡ unless_zero (refusal n p.read (pairs line))) where
          passing : refusal n p.read (pairs line) ≡ 0
          passing = unless_none _ (sym r)

          -- the line's frame passes
          pub read_passes : n ≤ 6 → Passes n line size
          read_passes few = let t = passed n p.read (pairs line) passing in record { few = few; size = read_size; known = t.0; in_range = t.1 }

          pub read_more : (s' : Table) → Taken n line s s' → Progress n text s' (end + 1) (number + 1)
          read_more s' t = record {
            within = let i = inside in omega arith;
            positive = omega arith;
            counted = let c = p.counted in omega arith;
            read = after (pairs line) p.read;
            holds = t p.read p.holds passing;
            rest = p.rest ∙ line_passes n number text at p.read end e inside (pairs line) its_frame passing;
          }
