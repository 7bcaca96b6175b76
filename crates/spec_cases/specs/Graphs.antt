-- Document 01's two graph texts, the empty one, one whose initial write carries 1, and one that has an adding of zero among the writes:
-- for each the frames of the program's file and of the text, and the judge's answer.
use Rattle.std.specs.Prelude.{List, [], ◌∷◌}
use Rattle.spec_judge.specs.Answer.{Answer, consistent, inconsistent}
use Rattle.spec_cases.specs.Rows.{Frame, nothing, buffering, sentinel, adds_zero}

pub record Graph : Type 0 where
  pub file : List Frame
  pub text : List Frame
  pub answer : Answer

-- P 8: both loads read the initial write: no
abbrev pub neither : Graph
neither = record {
  file = buffering.file;
  text = (0x40 ∷ 0 ∷ 1 ∷ 0xff ∷ 0xff ∷ []) ∷ (0x40 ∷ 1 ∷ 1 ∷ 0xff ∷ 0xff ∷ [])
      ∷ (0x41 ∷ 0 ∷ 0 ∷ 0 ∷ []) ∷ (0x41 ∷ 1 ∷ 1 ∷ 0 ∷ []) ∷ [];
  answer = inconsistent;
}

-- P 9: the second load reads the first thread's store: yes, with the least schedule
abbrev pub one : Graph
one = record {
  file = buffering.file;
  text = (0x40 ∷ 0 ∷ 1 ∷ 0xff ∷ 0xff ∷ []) ∷ (0x40 ∷ 1 ∷ 1 ∷ 0 ∷ 0 ∷ []) ∷ (0x41 ∷ 0 ∷ 0 ∷ 0 ∷ [])
      ∷ (0x41 ∷ 1 ∷ 1 ∷ 0 ∷ []) ∷ [];
  answer = consistent (0 ∷ 0 ∷ 1 ∷ 1 ∷ []);
}

-- request c: the empty text of a program without threads: yes, with no steps
abbrev pub blank : Graph
blank = record { file = nothing.file; text = []; answer = consistent [] }

-- request e: both read the initial write, which carries 1, so that the swap writes: yes, the load before it
abbrev pub carried : Graph
carried = record {
  file = sentinel.file;
  text = (0x40 ∷ 0 ∷ 0 ∷ 0xff ∷ 0xff ∷ []) ∷ (0x40 ∷ 1 ∷ 0 ∷ 0xff ∷ 0xff ∷ []) ∷ (0x41 ∷ 0 ∷ 0 ∷ 0 ∷ []) ∷ [];
  answer = consistent (1 ∷ 0 ∷ []);
}

-- request i: an adding of zero in a `41` line: no
abbrev pub zero_written : Graph
zero_written = record {
  file = adds_zero.file;
  text = (0x40 ∷ 0 ∷ 0 ∷ 0xff ∷ 0xff ∷ []) ∷ (0x40 ∷ 1 ∷ 0 ∷ 0xff ∷ 0xff ∷ []) ∷ (0x40 ∷ 2 ∷ 0 ∷ 0xff ∷ 0xff ∷ [])
      ∷ (0x41 ∷ 0 ∷ 0 ∷ 0 ∷ []) ∷ [];
  answer = inconsistent;
}
