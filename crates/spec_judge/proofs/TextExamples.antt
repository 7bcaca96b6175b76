-- Graph texts answered by computing: document 01's two, and every refusal.
use Prim.Native.Nat.{ℕ}
use mathlib.Core.Path.{◌≡◌, refl}
use mathlib.Core.Bool.{Bool, true, false, ◌&&◌}
use mathlib.Core.List.{List, [], ◌∷◌, ◌++◌}
use lib.Dec.{eqb}
use Rattle.spec_file.specs.Digit.{lower, digit, value, digit_of}
use Rattle.spec_file.specs.Frame.{hexadecimal, pairs, frame}
use Rattle.spec_file.specs.Text.{digits, text}
use Rattle.spec_file.specs.TextLines.{prepend, before, split}
use Rattle.spec_file.specs.Meaning.{remark, spelt, meaning}
use Rattle.spec_file.specs.Program.{Program}
use Rattle.spec_schedules.specs.Lists.{all}
use Rattle.spec_schedules.specs.Order.{less}
use Rattle.spec_sc.specs.Text.{text_of, events_in}
use Rattle.spec_file.specs.Lists.{same_list}
use Rattle.spec_judge.specs.Reading.{Frame, is_read, writes_in, known, is_event, is_source, in_range, key, written, all_new, in_order, refusal, with_line, after, fresh, read_lines, read_graph}
use Rattle.spec_judge.specs.Answer.{Answer, consistent, inconsistent, refusing}
use Rattle.spec_judge.proofs.ByWalk.{answer_of, answer_to, answer_text}
use Rattle.spec_judge.proofs.Examples.{judging, buffering, threads_of}

-- what a proof names on its `unfolding` line to compute with texts
unfoldable pub answering : Program → List ℕ → ℕ → Answer
unfolding judging lower digit value digit_of hexadecimal pairs frame digits text prepend before split remark spelt meaning less text_of is_read events_in writes_in known is_event is_source in_range key written all_new in_order refusal with_line after fresh read_lines read_graph answer_of answer_to answer_text
answering p t room = answer_text p t room

unfoldable same_answer : Answer → Answer → Bool
same_answer (consistent s) (consistent r) = same_list eqb s r
same_answer (consistent s) inconsistent = false
same_answer (consistent s) (refusing n k) = false
same_answer inconsistent (consistent r) = false
same_answer inconsistent inconsistent = true
same_answer inconsistent (refusing n k) = false
same_answer (refusing m j) (consistent r) = false
same_answer (refusing m j) inconsistent = false
same_answer (refusing m j) (refusing n k) = eqb m n && eqb j k

record Case : Type 0 where
  text : List ℕ
  room : ℕ
  answer : Answer

unfoldable right : Case → Bool
right c = same_answer (answer_text buffering c.text c.room) c.answer

-- the lines of document 01's graph
abbrev first : Frame
first = 0x40 ∷ 0 ∷ 1 ∷ 0xff ∷ 0xff ∷ []

abbrev second : Frame
second = 0x40 ∷ 1 ∷ 1 ∷ 0xff ∷ 0xff ∷ []

abbrev seen : Frame
seen = 0x40 ∷ 1 ∷ 1 ∷ 0 ∷ 0 ∷ []

abbrev at0 : Frame
at0 = 0x41 ∷ 0 ∷ 0 ∷ 0 ∷ []

abbrev at1 : Frame
at1 = 0x41 ∷ 1 ∷ 1 ∷ 0 ∷ []

-- a remark, and the second line in capitals
abbrev remark_line : List ℕ
remark_line = 0x23 ∷ 0x0d ∷ 0xff ∷ 0 ∷ 10 ∷ []

abbrev capital_line : List ℕ
capital_line = 0x34 ∷ 0x30 ∷ 0x30 ∷ 0x31 ∷ 0x30 ∷ 0x31 ∷ 0x46 ∷ 0x46 ∷ 0x46 ∷ 0x66 ∷ 10 ∷ []

-- 26 different events
abbrev many : Frame
many = 0x41 ∷ 0 ∷ 0 ∷ 0 ∷ 0 ∷ 1 ∷ 0 ∷ 2 ∷ 0 ∷ 3 ∷ 0 ∷ 4 ∷ 0 ∷ 5 ∷ 0 ∷ 6 ∷ 0 ∷ 7 ∷ 0 ∷ 8 ∷ 0 ∷ 9 ∷ 0 ∷ 10 ∷ 0 ∷ 11 ∷ 0 ∷ 12 ∷ 1 ∷ 0 ∷ 1 ∷ 1 ∷ 1 ∷ 2 ∷ 1 ∷ 3 ∷ 1 ∷ 4 ∷ 1 ∷ 5 ∷ 1 ∷ 6 ∷ 1 ∷ 7 ∷ 1 ∷ 8 ∷ 1 ∷ 9 ∷ 1 ∷ 10 ∷ 1 ∷ 11 ∷ 1 ∷ 12 ∷ []

-- document 01's two texts
abbrev pub no_text : List ℕ
no_text = text_of (first ∷ second ∷ at0 ∷ at1 ∷ [])

abbrev pub yes_text : List ℕ
yes_text = text_of (first ∷ seen ∷ at0 ∷ at1 ∷ [])

abbrev row : List Frame → Answer → Case
row fs a = record { text = text_of fs; room = 24; answer = a }

abbrev raw : List ℕ → Answer → Case
raw t a = record { text = t; room = 24; answer = a }

cases : List Case
cases =
    raw no_text inconsistent ∷
    raw yes_text (consistent (0 ∷ 0 ∷ 1 ∷ 1 ∷ [])) ∷
    row [] inconsistent ∷
    -- 22 comes first
    record { text = 0x7a ∷ []; room = 23; answer = refusing 22 0 } ∷
    -- 30: empty, odd, another character, without its 0a, also behind a line that passes
    raw (10 ∷ []) (refusing 30 1) ∷
    raw (0x34 ∷ 10 ∷ []) (refusing 30 1) ∷
    raw (0x34 ∷ 0x47 ∷ 10 ∷ []) (refusing 30 1) ∷
    raw (text_of (first ∷ []) ++ digits second) (refusing 30 2) ∷
    raw (digits first) (refusing 30 1) ∷
    raw (0x30 ∷ []) (refusing 30 1) ∷
    -- remarks and capitals: in front, between and behind the lines, with 0d and ff in them; a remark without its 0a is 30, and every remark is counted
    raw (remark_line ++ (text_of (first ∷ []) ++ (remark_line ++ (capital_line ++ (text_of (at0 ∷ at1 ∷ []) ++ remark_line)))))
    inconsistent ∷
    raw remark_line inconsistent ∷
    raw (0x23 ∷ []) (refusing 30 1) ∷
    raw (remark_line ++ (text_of (second ∷ []) ++ (remark_line ++ text_of (first ∷ [])))) (refusing 33 4) ∷
    raw (remark_line ++ (0x20 ∷ remark_line)) (refusing 30 2) ∷
    -- 31: first byte, length
    row ((0x42 ∷ 0 ∷ 0 ∷ 0 ∷ []) ∷ []) (refusing 31 1) ∷
    row ((0x40 ∷ 0 ∷ 1 ∷ 0xff ∷ []) ∷ []) (refusing 31 1) ∷
    row ((0x40 ∷ 0 ∷ 1 ∷ 0xff ∷ 0xff ∷ 0 ∷ []) ∷ []) (refusing 31 1) ∷
    row ((0x41 ∷ 0 ∷ []) ∷ []) (refusing 31 1) ∷
    row ((0x41 ∷ 0 ∷ 0 ∷ []) ∷ []) (refusing 31 1) ∷
    row ((0x41 ∷ 0 ∷ 0 ∷ 0 ∷ 1 ∷ []) ∷ []) (refusing 31 1) ∷
    -- 32: no thread, access number, location, half of the initial write, the initial write as a read or a write
    row ((0x40 ∷ 2 ∷ 0 ∷ 0xff ∷ 0xff ∷ []) ∷ []) (refusing 32 1) ∷
    row ((0x40 ∷ 0 ∷ 16 ∷ 0xff ∷ 0xff ∷ []) ∷ []) (refusing 32 1) ∷
    row ((0x40 ∷ 0 ∷ 1 ∷ 2 ∷ 0 ∷ []) ∷ []) (refusing 32 1) ∷
    row ((0x40 ∷ 0 ∷ 1 ∷ 0 ∷ 16 ∷ []) ∷ []) (refusing 32 1) ∷
    row ((0x40 ∷ 0 ∷ 1 ∷ 0xff ∷ 0 ∷ []) ∷ []) (refusing 32 1) ∷
    row ((0x40 ∷ 0 ∷ 1 ∷ 0 ∷ 0xff ∷ []) ∷ []) (refusing 32 1) ∷
    row ((0x40 ∷ 0xff ∷ 0xff ∷ 0xff ∷ 0xff ∷ []) ∷ []) (refusing 32 1) ∷
    row ((0x41 ∷ 8 ∷ 0 ∷ 0 ∷ []) ∷ []) (refusing 32 1) ∷
    row ((0x41 ∷ 0 ∷ 0xff ∷ 0xff ∷ []) ∷ []) (refusing 32 1) ∷
    row ((0x41 ∷ 0 ∷ 0 ∷ 0 ∷ 2 ∷ 0 ∷ []) ∷ []) (refusing 32 1) ∷
    -- 33: out of order, a line twice, a `40` behind a `41`, an event twice; before later lines
    row (second ∷ first ∷ []) (refusing 33 2) ∷
    row (first ∷ first ∷ []) (refusing 33 2) ∷
    row (at0 ∷ (0x41 ∷ 0 ∷ 1 ∷ 0 ∷ []) ∷ []) (refusing 33 2) ∷
    row (at1 ∷ at0 ∷ []) (refusing 33 2) ∷
    row (at0 ∷ first ∷ []) (refusing 33 2) ∷
    row ((0x41 ∷ 0 ∷ 0 ∷ 0 ∷ 0 ∷ 0 ∷ []) ∷ []) (refusing 33 1) ∷
    row (at0 ∷ (0x41 ∷ 1 ∷ 0 ∷ 0 ∷ []) ∷ []) (refusing 33 2) ∷
    raw (text_of (second ∷ first ∷ []) ++ (0x30 ∷ [])) (refusing 33 2) ∷
    row ((0x41 ∷ 9 ∷ 0 ∷ 0 ∷ 0 ∷ []) ∷ []) (refusing 31 1) ∷
    row (second ∷ (0x40 ∷ 0 ∷ 16 ∷ 0xff ∷ 0xff ∷ []) ∷ []) (refusing 32 2) ∷
    -- no, never a refusal: an access that no thread reaches, a source that is the read itself, too many writes
    row ((0x40 ∷ 0 ∷ 15 ∷ 1 ∷ 15 ∷ []) ∷ []) inconsistent ∷
    row ((0x40 ∷ 0 ∷ 1 ∷ 0 ∷ 1 ∷ []) ∷ second ∷ at0 ∷ at1 ∷ []) inconsistent ∷
    row (many ∷ []) inconsistent ∷
    []

all_right : all right cases ≡ true
unfolding answering same_answer right cases
all_right = refl

-- one empty thread makes the graph without events
empty_judged : answer_text (threads_of ([] ∷ [])) [] 24 ≡ consistent []
unfolding answering
empty_judged = refl
