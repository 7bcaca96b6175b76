-- The table of the ten P cases, of the file of 0 bytes, of two signed comparisons, of a starting value and of adding zero, lists and graphs
-- together: each file, as bytes, is printed as its row says, byte for byte, and each graph text, as bytes, is answered as its row says. One
-- computed test for all.
use Rattle.std.specs.Prelude.{ℕ, ◌≡◌, refl, Bool, true, false, List, [], ◌∷◌, eqb}
use Rattle.spec_file.specs.Digit.{lower, digit, value, digit_of}
use Rattle.spec_file.specs.Frame.{hexadecimal, pairs, frame}
use Rattle.spec_file.specs.Text.{digits, text}
use Rattle.spec_file.specs.TextLines.{prepend, before, split}
use Rattle.spec_file.specs.Meaning.{remark, spelt, meaning}
use Rattle.spec_file.specs.Kinds.{kinds, lookup, kind_of}
use Rattle.spec_file.specs.Frames.{word, kind, known, register_fits, location_fits, skip_fits, operand_fits, in_range, opens, declares, starts, is_access, skip_of, operand, build_own, build, instruction}
use Rattle.spec_file.specs.Decode.{fresh, thread_at, last_thread, in_place, accesses_in, all_accesses_in, within_limits, is_given, value_at, start_fits, same_bytes, same_code, among, grouped, member_fits, followers_fit, members_fit, alike_fits, frame_refusal, after, far_skip, first_far_skip, program_in, finish, read_lines, decode}
use Rattle.spec_file.specs.WellFormed.{accesses}
use Rattle.spec_schedules.specs.Lists.{all}
use Rattle.spec_schedules.specs.Computing.{computing}
use Rattle.spec_sc.specs.State.{size, accesses_left}
use Rattle.spec_sc.specs.Exchange.{moved_event, moved_read, moved_reads, moved_writes}
use Rattle.spec_sc.specs.Text.{text_of}
use Rattle.spec_sc.proofs.Examples.{seen}
use Rattle.spec_sc.specs.Same.{same_event, same_read}
use Rattle.spec_file.specs.Lists.{same_list}
use Rattle.spec_judge.specs.Answer.{Answer, consistent, inconsistent, refusing}
use Rattle.spec_judge.proofs.ByWalk.{answer_on, answer_file}
use Rattle.spec_judge.proofs.TextExamples.{answering}
use Rattle.spec_sc.specs.Renamed.{renames}
use Rattle.spec_model.specs.Exchange.{together, permits, permitted}
use Rattle.spec_model.specs.Alike.{alike_by, list_of}
use Rattle.spec_model.proofs.AlikeTerms.{alike}
use Rattle.spec_model.specs.Answers.{count_of}
use Rattle.spec_calls.specs.Printed.{bytes_of, flag, schedule_frame, count_frame, printed_frames, printed}
use Rattle.spec_cases.specs.Rows.{Row, empty, nothing, whole, whole_apart, increments, increments_alike, swaps, swaps_alike, adds, adds_alike, buffering, asserting, passing, negative, sentinel, adds_zero}
use Rattle.spec_cases.specs.Graphs.{Graph, neither, one, blank, carried, zero_written}

-- what a proof names to compute what is printed
unfoldable pub computed : List ℕ → List ℕ
unfolding computing seen lower digit value digit_of hexadecimal pairs frame digits text prepend before split remark spelt meaning kinds lookup kind_of word kind known register_fits location_fits skip_fits operand_fits in_range opens declares starts is_access skip_of operand build_own build instruction fresh thread_at last_thread in_place accesses_in all_accesses_in within_limits is_given value_at start_fits same_bytes same_list same_code among grouped member_fits followers_fit members_fit alike_fits frame_refusal after far_skip first_far_skip program_in finish read_lines decode accesses size accesses_left moved_event moved_read moved_reads moved_writes together permits permitted same_event same_read renames alike_by alike list_of count_of bytes_of flag schedule_frame count_frame printed_frames text_of printed
computed file = printed file

-- a row: a program with its list, or a graph text with the judge's answer
pub data Case : Type 0 where
  lists : Row → Case
  judges : Graph → Case

-- P 1 to P 10, in this order; where a P case has two programs, both; then the file of 0 bytes and its graph, then request a's, then a
-- starting value and a graph that it makes, then adding zero
abbrev pub cases : List Case
cases =
    lists empty ∷ lists whole ∷ lists whole_apart ∷ lists increments ∷ lists increments_alike ∷ lists swaps ∷ lists swaps_alike ∷ lists adds
    ∷ lists adds_alike ∷ lists buffering ∷ judges neither ∷ judges one ∷ lists asserting ∷ lists nothing ∷ judges blank
    ∷ lists passing ∷ lists negative ∷ lists sentinel ∷ judges carried ∷ lists adds_zero ∷ judges zero_written ∷ []

-- what the walk answers, with an output of 24 bytes: by a law the one right answer
unfoldable pub judged : Graph → Answer
judged g = answer_file (text_of g.file) (text_of g.text) 24

-- both answers are yes with one schedule, or both are no; no row is a refusal
unfoldable pub same_answer : Answer → Answer → Bool
same_answer (consistent r) (consistent s) = same_list eqb r s
same_answer (consistent r) inconsistent = false
same_answer (consistent r) (refusing n k) = false
same_answer inconsistent (consistent s) = false
same_answer inconsistent inconsistent = true
same_answer inconsistent (refusing n k) = false
same_answer (refusing m j) b = false

-- whether a row is right
unfoldable pub right : Case → Bool
right (lists r) = same_list eqb (computed (text_of r.file)) (text_of r.prints)
right (judges g) = same_answer (judged g) g.answer

pub all_right : all right cases ≡ true
unfolding right computed answering judged answer_file answer_on same_answer
all_right = refl
