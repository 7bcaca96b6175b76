-- EXAMPLES, computed: lists of calls on marks, and a lent record with two marks of one name.
use Prim.Native.Nat.{ℕ}
use mathlib.Core.Path.{◌≡◌, refl}
use mathlib.Core.List.{List, [], ◌∷◌, ◌++◌}
use lib.ListN.{replicate, get_or}
use Rattle.spec_file.specs.Over.{over}
use Rattle.spec_file.specs.Digit.{lower, digit, value, digit_of}
use Rattle.spec_file.specs.Frame.{hexadecimal, pairs, frame}
use Rattle.spec_file.specs.Text.{digits, text}
use Rattle.spec_file.specs.TextLines.{prepend, before, split}
use Rattle.spec_file.specs.Meaning.{remark, spelt, meaning}
use Rattle.spec_file.specs.Kinds.{kinds, lookup, kind_of}
use Rattle.spec_file.specs.Frames.{word, kind, known, register_fits, location_fits, skip_fits, operand_fits, in_range, opens, declares, starts, is_access, skip_of, operand, build_own, build, instruction}
use Rattle.spec_file.specs.Lists.{same_list}
use Rattle.spec_file.specs.Decode as D
use Rattle.spec_file.specs.Decode.{thread_at, last_thread, in_place, accesses_in, all_accesses_in, within_limits, is_given, value_at, start_fits, same_bytes, same_code, among, grouped, member_fits, followers_fit, members_fit, alike_fits, frame_refusal, far_skip, first_far_skip, program_in, finish, read_lines, decode}
use Rattle.spec_file.specs.WellFormed.{accesses}
use Rattle.spec_schedules.specs.Computing.{computing}
use Rattle.spec_sc.specs.State.{size, accesses_left}
use Rattle.spec_sc.specs.Replay.{replay_from, replay}
use Rattle.spec_sc.specs.Exchange.{moved_event, moved_read, moved_reads, moved_writes}
use Rattle.spec_sc.proofs.Examples.{seen}
use Rattle.spec_sc.specs.Renamed.{renames}
use Rattle.spec_model.specs.Exchange.{together, permits, permitted}
use Rattle.spec_model.specs.Alike.{alike_by, list_of}
use Rattle.spec_model.proofs.AlikeTerms.{alike}
use Rattle.spec_service.specs.Seat.{to_come, is_open, asks}
use Rattle.spec_service.specs.Record.{file_read, behind_full, place_of, seated, seat_by, reading, no_mark, plain, standing, handing, counting, with_marks, fresh, opened, asked, served, returned}
use Rattle.spec_service.specs.Marks.{is_some, name_fits, mark_place, name_of, bears, slot_of, is_free, slot_for, last_handed, mark_at, new_mark, emptied, mark_set, mark_forgotten, mark_returned}
use Rattle.spec_service.specs.Call.{Call, open_for, ask_for, serve, close_for, set_mark, return_to, forget, Answer, done, given, ended, refused, start, seat_of, checked, opened_by, open_answer, open_only, by_program, marks_only, done_if, marks_of, set_answer, known_only, last_read, in_turn, next_asking, for_seat, handed_to, served_to, serve_answer, answer_to, changed, callers_done, callers_after, last_after, after, Shared}
use Rattle.spec_service.specs.Play.{answers, behind_all}

-- what a proof names on its `unfolding` line to compute the answers to a list of calls
unfoldable calling : List Call → Shared → List Answer
unfolding computing over seen lower digit value digit_of hexadecimal pairs frame digits text prepend before split remark spelt meaning kinds lookup kind_of word kind known register_fits location_fits skip_fits operand_fits in_range opens declares starts is_access skip_of operand build_own build instruction D.fresh thread_at last_thread in_place accesses_in all_accesses_in within_limits is_given value_at start_fits same_bytes same_list same_code among grouped member_fits followers_fit members_fit alike_fits frame_refusal D.after far_skip first_far_skip program_in finish read_lines decode accesses size accesses_left replay_from replay moved_event moved_read moved_reads moved_writes together permits permitted renames alike_by alike list_of to_come is_open asks file_read behind_full place_of seated seat_by reading no_mark plain standing handing counting with_marks fresh opened asked served returned is_some name_fits mark_place name_of bears slot_of is_free slot_for last_handed mark_at new_mark emptied mark_set mark_forgotten mark_returned start seat_of checked opened_by open_answer open_only by_program marks_only done_if marks_of set_answer known_only last_read in_turn next_asking for_seat handed_to served_to serve_answer answer_to changed callers_done callers_after last_after after answers behind_all
calling cs σ = answers cs σ

-- one thread without instructions: one schedule is listed, the empty one
abbrev file : List ℕ
file = 48 ∷ 49 ∷ 10 ∷ []

abbrev out : List ℕ
out = replicate 24 0

-- the refusals of the calls on marks, in their order
refusals : calling (
    set_mark 4 [] ∷ set_mark 0 [] ∷ open_for 0 file ∷ set_mark 0 [] ∷ forget 0 (replicate 9 97) ∷ return_to 0 (97 ∷ []) ∷ []) start
    ≡ refused 42 0 ∷ refused 44 0 ∷ done ∷ refused 45 0 ∷ refused 45 0 ∷ refused 46 0 ∷ []
unfolding calling
refusals = refl

-- from a mark at the beginning the list comes again, also where the caller asked before it returned; behind the schedule there is no more
again : calling (
    open_for 0 file ∷ set_mark 0 (97 ∷ []) ∷ ask_for 0 ∷ serve out ∷ set_mark 0 (98 ∷ []) ∷ ask_for 0 ∷ return_to 0 (97 ∷ []) ∷ serve out
    ∷ return_to 0 (98 ∷ []) ∷ ask_for 0 ∷ serve out ∷ []) start
    ≡ done ∷ done ∷ done ∷ given 0 [] ∷ done ∷ done ∷ done ∷ given 0 [] ∷ done ∷ done ∷ ended 0 ∷ []
unfolding calling
again = refl

-- a set behind a return stores the last schedule handed, not the place returned to
handed_last : calling (
    open_for 0 file ∷ set_mark 0 (97 ∷ []) ∷ ask_for 0 ∷ serve out ∷ return_to 0 (97 ∷ []) ∷ set_mark 0 (97 ∷ []) ∷ return_to 0 (97 ∷ []) ∷ ask_for 0 ∷ serve out ∷ []) start
    ≡ done ∷ done ∷ done ∷ given 0 [] ∷ done ∷ done ∷ done ∷ done ∷ ended 0 ∷ []
unfolding calling
handed_last = refl

-- eight names, a ninth, one of the eight again, and the ninth where one was forgotten
ninth : calling (
    open_for 0 file ∷ set_mark 0 (1 ∷ []) ∷ set_mark 0 (2 ∷ []) ∷ set_mark 0 (3 ∷ []) ∷ set_mark 0 (4 ∷ []) ∷ set_mark 0 (5 ∷ []) ∷ set_mark 0 (6 ∷ [])
    ∷ set_mark 0 (7 ∷ []) ∷ set_mark 0 (8 ∷ []) ∷ set_mark 0 (9 ∷ []) ∷ set_mark 0 (1 ∷ []) ∷ forget 0 (3 ∷ []) ∷ set_mark 0 (9 ∷ []) ∷ return_to 0 (3 ∷ []) ∷ []) start
    ≡ done ∷ done ∷ done ∷ done ∷ done ∷ done ∷ done ∷ done ∷ done ∷ refused 47 0 ∷ done ∷ done ∷ done ∷ refused 46 0 ∷ []
unfolding calling
ninth = refl

-- a lent record: a mark at the end, which is free, then two of the name 1, the first at the beginning, the second behind the schedule
abbrev lent : Shared
lent = record {
  callers = with_marks (opened file) (mark_at (1 ∷ []) 3 0 out ∷ mark_at (1 ∷ []) 1 0 out ∷ mark_at (1 ∷ []) 2 0 out ∷ replicate 5 no_mark) ∷ replicate 3 fresh;
  last = 3;
}

-- the first of the two counts
first_counts : calling (return_to 0 (1 ∷ []) ∷ ask_for 0 ∷ serve out ∷ []) lent ≡ done ∷ done ∷ given 0 [] ∷ []
unfolding calling
first_counts = refl

-- forget empties both, and leaves the free one as it lies
both_forgotten : (get_or (behind_all (forget 0 (1 ∷ []) ∷ []) lent).callers 0 fresh).marks ≡ mark_at (1 ∷ []) 3 0 out ∷ replicate 7 no_mark
unfolding calling
both_forgotten = refl

-- set puts the new one where the first stood and empties the later
one_left : (get_or (behind_all (ask_for 0 ∷ serve out ∷ set_mark 0 (1 ∷ []) ∷ []) lent).callers 0 fresh).marks
    ≡ mark_at (1 ∷ []) 3 0 out ∷ mark_at (1 ∷ []) 2 0 out ∷ replicate 6 no_mark
unfolding calling
one_left = refl

-- set of another name takes the first free one
first_free : (get_or (behind_all (set_mark 0 (2 ∷ []) ∷ []) lent).callers 0 fresh).marks
    ≡ mark_at (2 ∷ []) 1 0 out ∷ mark_at (1 ∷ []) 1 0 out ∷ mark_at (1 ∷ []) 2 0 out ∷ replicate 5 no_mark
unfolding calling
first_free = refl

-- a repeat after a return counts, no more does not, and what 1 is handed counts for 1 alone
counts : ((get_or (behind_all (
    open_for 0 file ∷ open_for 1 file ∷ ask_for 0 ∷ ask_for 1 ∷ serve out ∷ serve out ∷ set_mark 1 (7 ∷ []) ∷ ask_for 0 ∷ serve out ∷ close_for 1 ∷ []) start).callers 0 fresh).count ≡ 1)
    × ((get_or (behind_all (
    open_for 0 file ∷ set_mark 0 (97 ∷ []) ∷ ask_for 0 ∷ serve out ∷ ask_for 0 ∷ serve out ∷ return_to 0 (97 ∷ []) ∷ ask_for 0 ∷ serve out ∷ []) start).callers 0 fresh).count ≡ 2)
unfolding calling
counts = (refl, refl)

-- closing empties the count
closed_count : (get_or (behind_all (open_for 0 file ∷ ask_for 0 ∷ serve out ∷ close_for 0 ∷ []) start).callers 0 fresh).count ≡ 0
unfolding calling
closed_count = refl
