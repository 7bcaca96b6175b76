-- The lines of a file, read one after the other: what has been read and what is left make the whole file's answer.
use Prim.Native.Nat.{ℕ, ◌+◌, ◌-◌, ◌≤◌, ◌<◌}
use native.Mathlib.Omega.{arith}
use mathlib.Core.Path.{◌≡◌, ◌∙◌, sym, ap}
use mathlib.Core.List.{List, [], ◌∷◌}
use lib.ListN.{length, get_or, take, drop, replicate, drop_of_length-le}
use borrow.Author.Tests.{eq-eqb, ne_eqb, le-ltb, lt-ltb}
use lib.Dec.{ltb}
use Rattle.std.specs.Prelude.{Some, None}
use Rattle.file_lines.specs.Numbers.{unless_zero}
use Rattle.file_lines.proofs.Numbers.{unless_none, unless_some}
use Rattle.spec_file.specs.Lists.{Ascends}
use Rattle.spec_file.specs.Frame.{pairs}
use Rattle.spec_file.specs.Split.{line_length}
use Rattle.spec_file.specs.TextLines.{TextLine, split}
use Rattle.spec_file.specs.Meaning.{meaning}
use Rattle.file_lines.specs.Meaning.{line_of}
use Rattle.file_lines.specs.declared.reader.Line.TheVariants.{Frame, Remark, Broken}
use Rattle.spec_file.proofs.Meaning.{framed_bytes}
use Rattle.file_lines.proofs.Meaning.{spelt_as_frame, spelt_as_remark, spelt_as_broken}
use Rattle.spec_file.proofs.TextLines.{whole, split_at, split_end}
use Rattle.file_refusals.specs.declared.counts.Counts.{Counts}
use Rattle.spec_file.specs.Decode.{Placed, Reading, fresh, thread_at, frame_refusal, after, refused, finish, read_lines, decode}
use Rattle.spec_file.specs.WellFormed.{Everywhere}
use Rattle.file_refusals.specs.Held.{nothing, Bounded, Holds}
use Rattle.file_decoder.specs.Held.{Lined, Numbered, Grouped, Taken}
use Rattle.spec_file.proofs.Everywhere.{everywhere_get_d, everywhere_weaken}
use Rattle.spec_file.proofs.Sound.{Good, Alike, Sound, sound_fresh, sound_after}
use Rattle.file_decoder.proofs.HeldAfter.{held_fresh}

-- the lines before position `at` have been read, and none was refused
pub record Progress (file code rows : List ℕ) (s : Counts) (at number : ℕ) : Type 0 where
  pub within : at ≤ length file
  pub positive : 1 ≤ number
  pub counted : number ≤ at + 1
  pub few : s.groups < number
  pub read : Reading
  pub holds : Holds code s read
  pub lined : Lined rows read
  pub sound : Sound read
  pub rest : decode file ≡ read_lines number (split (drop at file)) read

pub too_large : (file : List ℕ) → 4096 < length file → decode file ≡ refused 1 0
unfolding decode
too_large file h = rw (lt-ltb 4096 (length file) h)

pub progress_start : (file code rows : List ℕ) (s : Counts) → length file ≤ 4096 → code ≡ replicate 1536 0 → rows ≡ replicate 96 0 → s ≡ nothing → Progress file code rows s 0 1
unfolding decode
progress_start file code rows s h c l e =
    let f = held_fresh code rows c l in
    record {
      within = omega arith;
      positive = omega arith;
      counted = omega arith;
      few = rw e (omega arith);
      read = fresh;
      holds = rw e f.0;
      lined = f.1;
      sound = sound_fresh;
      rest = rw (le-ltb 4096 (length file) h);
    }

module _ (file code rows : List ℕ) (s : Counts) (at number : ℕ) (small : length file ≤ 4096) (p : Progress file code rows s at number) where
  pub progress_bounded : Bounded s
  unfolding thread_at
  progress_bounded =
      let t = p.holds.threads in
      let a = p.holds.accesses in
      record {
        six = omega (arith, p.sound.six);
        sixteen = λ t.
            let l = p.holds.lengths t in
            let b : length (get_or p.read.threads t []) ≤ 16 = everywhere_get_d (λ c. length c ≤ 16) p.read.threads t [] p.sound.sixteen (omega arith) in
            omega arith;
        access_24 = omega (arith, p.sound.access_24);
        few = let w = p.counted in let f = p.few in let i = p.within in omega arith;
      }

  -- the groups that were read
  pub progress_grouped : Grouped p.read
  progress_grouped = record {
    ascend = everywhere_weaken (Alike p.read.threads) (Ascends ltb) (λ g a. a.ascend) p.read.groups p.sound.groups;
    small = everywhere_weaken (Alike p.read.threads) (Everywhere (λ t. t < 6))
        (λ g a. everywhere_weaken (λ t. t < length p.read.threads) (λ t. t < 6) (λ t h. omega (arith, p.sound.six)) g a.exist) p.read.groups p.sound.groups;
    apart = p.sound.apart;
  }

  -- the lines that were read have numbers
  pub progress_numbered : Numbered p.read
  progress_numbered =
      everywhere_weaken (Everywhere Good) (Everywhere (λ (x : Placed). 1 ≤ x.line))
      (λ c. everywhere_weaken Good (λ (x : Placed). 1 ≤ x.line) (λ x g. g.numbered) c) p.read.threads p.sound.good

  -- the last line has no 0a
  pub read_unended : (end : ℕ) → at < length file → end ≡ at + line_length (drop at file) → end ≡ length file → decode file ≡ refused 2 number
  unfolding read_lines meaning
  read_unended end h e l =
      p.rest ∙ ap (λ (ls : List TextLine). read_lines number ls p.read) (split_end file at h (sym e ∙ l))

  -- a whole line, and what is left behind it
  module _ (end : ℕ) (h : at < length file) (e : end ≡ at + line_length (drop at file)) (inside : end < length file) where
    abbrev line : List ℕ
    line = take (end - at) (drop at file)

    here : decode file ≡ read_lines number (whole line ∷ split (drop (end + 1) file)) p.read
    here = p.rest ∙ ap (λ (ls : List TextLine). read_lines number ls p.read) (split_at file at end e inside)

    -- the line is neither a frame nor a remark
    pub read_broken : line_of line ≡ Broken → decode file ≡ refused 2 number
    unfolding read_lines meaning
    read_broken z = here ∙ rw (spelt_as_broken line z, read_lines)

    -- the line is a remark: it is passed over, and counted
    pub read_remark : line_of line ≡ Remark → Progress file code rows s (end + 1) (number + 1)
    unfolding read_lines meaning
    read_remark z = record {
      within = omega arith;
      positive = omega arith;
      counted = let c = p.counted in omega arith;
      few = let f = p.few in omega arith;
      read = p.read;
      holds = p.holds;
      lined = p.lined;
      sound = p.sound;
      rest = here ∙ rw (spelt_as_remark line z, read_lines);
    }

    module _ (n : ℕ) (z : line_of line ≡ Frame n) where
      -- the length of the line's frame
      pub read_size : n ≡ length (pairs line)
      read_size = sym (spelt_as_frame line n z).1

      -- the line's frame is refused
      pub read_refused : (k : ℕ) → Some k ≡ unless_zero (frame_refusal p.read (pairs line)) → decode file ≡ refused k number
      unfolding read_lines meaning
      read_refused k e =
          let q = unless_some (frame_refusal p.read (pairs line)) k (sym e) in
          here ∙ rw ((spelt_as_frame line n z).0, read_lines, q.0, ne_eqb k 0 (λ z. omega arith))

      -- the line's frame passes
      pub read_more : (code' rows' : List ℕ) (s' : Counts) → None ≡ unless_zero (frame_refusal p.read (pairs line))
          → Taken line number code rows s code' rows' s' → Progress file code' rows' s' (end + 1) (number + 1)
      unfolding read_lines meaning
      read_more code' rows' s' q t =
          let pass : frame_refusal p.read (pairs line) ≡ 0 = unless_none _ (sym q) in
          let bytes = framed_bytes (whole line) (pairs line) (spelt_as_frame line n z).0 in
          record {
            within = omega arith;
            positive = omega arith;
            counted = let c = p.counted in omega arith;
            few = let f = p.few in omega (arith, t.bounded);
            read = after number (pairs line) p.read;
            holds = t.holds p.read p.holds pass;
            lined = t.lined p.read p.holds p.lined pass;
            sound = sound_after number p.read (pairs line) p.positive bytes p.sound pass;
            rest = here ∙ rw ((spelt_as_frame line n z).0, read_lines, eq-eqb (frame_refusal p.read (pairs line)) 0 pass);
          }

  -- no line is left
  pub read_done : length file ≤ at → decode file ≡ finish p.read
  unfolding read_lines split
  read_done h = p.rest ∙ ap (λ (l : List ℕ). read_lines number (split l) p.read) (drop_of_length-le file h)
