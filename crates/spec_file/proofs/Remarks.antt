-- Remarks and capital digits, by computing: files with them, as bytes, and what they are read as.
use Prim.Native.Nat.{ℕ}
use mathlib.Core.Path.{◌≡◌, refl}
use mathlib.Core.Bool.{Bool, true, false, ◌&&◌}
use mathlib.Core.List.{List, [], ◌∷◌, ◌++◌}
use lib.Dec.{eqb}
use Rattle.spec_file.specs.Lists.{same_list}
use Rattle.spec_file.specs.Digit.{lower, digit, value, digit_of}
use Rattle.spec_file.specs.Frame.{hexadecimal, pairs, frame}
use Rattle.spec_file.specs.Text.{digits, text}
use Rattle.spec_file.specs.TextLines.{prepend, before, split}
use Rattle.spec_file.specs.Meaning.{remark, spelt, meaning}
use Rattle.spec_file.specs.Program.{zeros}
use Rattle.spec_file.specs.Kinds.{kinds, lookup, kind_of}
use Rattle.spec_file.specs.Frames.{Frame, word, kind, known, register_fits, location_fits, skip_fits, operand_fits, in_range, opens, declares, starts, is_access, skip_of, operand, build_own, build, instruction}
use Rattle.spec_file.specs.Decode.{fresh, thread_at, last_thread, in_place, accesses_in, all_accesses_in, within_limits, is_given, value_at, start_fits, same_bytes, same_code, among, grouped, member_fits, followers_fit, members_fit, alike_fits, frame_refusal, after, far_skip, first_far_skip, program_in, Decoded, accepted, refused, finish, read_lines, decode}

-- what a proof names on its `unfolding` line to compute what a file is read as
unfoldable reading : List ℕ → Decoded
unfolding lower digit value digit_of hexadecimal pairs frame digits text prepend before split remark spelt meaning kinds lookup kind_of word kind known register_fits location_fits skip_fits operand_fits in_range opens declares starts is_access skip_of operand build_own build instruction fresh thread_at last_thread in_place accesses_in all_accesses_in within_limits is_given value_at start_fits same_bytes same_list same_code among grouped member_fits followers_fit members_fit alike_fits frame_refusal after far_skip first_far_skip program_in finish read_lines decode
reading file = decode file

-- a remark with 00, 0d, ff and `#` in it
abbrev aside : List ℕ
aside = 0x23 ∷ 0 ∷ 0x0d ∷ 0xff ∷ 0x23 ∷ 10 ∷ []

abbrev thread : List ℕ
thread = text (0x01 ∷ [])

-- a store of ff at location 0, small and in capitals
abbrev store : List ℕ
store = text (0x10 ∷ 0 ∷ 0 ∷ 0 ∷ 0 ∷ 0 ∷ 0xff ∷ [])

abbrev loud : List ℕ
loud = 0x31 ∷ 0x30 ∷ 0x30 ∷ 0x30 ∷ 0x30 ∷ 0x30 ∷ 0x30 ∷ 0x30 ∷ 0x30 ∷ 0x30 ∷ 0x30 ∷ 0x30 ∷ 0x46 ∷ 0x66 ∷ 10 ∷ []

abbrev both : List ℕ
both = text (0x02 ∷ 0 ∷ 1 ∷ [])

-- CODE IS COMPARED BY ITS BYTES: two threads, one in capitals, are declared alike; and remarks stand everywhere
loud_alike : decode (aside ++ (thread ++ (loud ++ (aside ++ (thread ++ (store ++ (aside ++ (both ++ aside)))))))) ≡ decode (thread ++ (store ++ (thread ++ (store ++ both))))
unfolding reading
loud_alike = refl

unfoldable passes : List ℕ → Bool
passes file = elim (decode file) [ accepted p ↦ true | refused n k ↦ false ]

quiet_accepted : passes (thread ++ (store ++ (thread ++ (store ++ both)))) ≡ true
unfolding reading passes
quiet_accepted = refl

-- a skip of one instruction, and a load
abbrev skip : List ℕ
skip = text (0x22 ∷ 0 ∷ 0 ∷ 0 ∷ 0 ∷ 0 ∷ 0 ∷ 1 ∷ [])

abbrev load : List ℕ
load = text (0x11 ∷ 0 ∷ 0 ∷ [])

-- a skip counts instructions, no remarks
skip_accepted : passes (thread ++ (skip ++ load)) ≡ true
unfolding reading passes
skip_accepted = refl

skipped : decode (thread ++ (skip ++ (aside ++ load))) ≡ decode (thread ++ (skip ++ load))
unfolding reading
skipped = refl

-- NOTHING BUT REMARKS is the program of no thread
only_remarks : decode (aside ++ aside) ≡ accepted (record { threads = []; groups = []; starting = zeros })
unfolding reading
only_remarks = refl

record Refusal : Type 0 where
  file : List ℕ
  number : ℕ
  place : ℕ

unfoldable right : Refusal → Bool
right r = elim (decode r.file) [ accepted p ↦ false | refused n k ↦ eqb n r.number && eqb k r.place ]

unfoldable all : List Refusal → Bool
all [] = true
all (r ∷ rs) = right r && all rs

abbrev row : List ℕ → ℕ → ℕ → Refusal
row f n k = record { file = f; number = n; place = k }

refusals : List Refusal
refusals =
    -- a remark without its 0a; a space in front of `#`; `G`
    row (thread ++ (0x23 ∷ [])) 2 2 ∷
    row (thread ++ (0x20 ∷ 0x23 ∷ 10 ∷ [])) 2 2 ∷
    row (aside ++ (0x30 ∷ 0x47 ∷ 10 ∷ [])) 2 2 ∷
    -- every remark counts as a line: 3, 5, 8, and 7 behind the last line
    row (aside ++ (thread ++ (aside ++ text (0xff ∷ [])))) 3 4 ∷
    row (aside ++ load) 5 2 ∷
    row (thread ++ (aside ++ (thread ++ (aside ++ (aside ++ text (0x02 ∷ 1 ∷ 0 ∷ [])))))) 8 6 ∷
    row (aside ++ (thread ++ (aside ++ (skip ++ aside)))) 7 4 ∷
    []

all_right : all refusals ≡ true
unfolding reading right all refusals
all_right = refl
