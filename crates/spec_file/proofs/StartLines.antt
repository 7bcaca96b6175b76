-- `03` lines: 40 refuses nothing else, no `03` line gets 5 or 6, a file of nothing else is a program, and files by computing.
use Prim.Native.Nat.{ℕ, ◌<◌}
use native.Mathlib.Omega.{arith}
use mathlib.Core.Path.{◌≡◌, refl}
use mathlib.Core.Bool.{Bool, true, false, cond, not, ◌&&◌, ◌||◌, or-true}
use mathlib.Core.List.{List, [], ◌∷◌, ◌++◌}
use lib.Dec.{eqb, ltb}
use borrow.Author.Tests.{ltb-true}
use Rattle.spec_file.specs.Lists.{same_list}
use Rattle.spec_file.specs.Digit.{lower, digit, value, digit_of}
use Rattle.spec_file.specs.Frame.{hexadecimal, pairs, frame}
use Rattle.spec_file.specs.Text.{digits, text}
use Rattle.spec_file.specs.TextLines.{prepend, before, split}
use Rattle.spec_file.specs.Meaning.{remark, spelt, meaning}
use Rattle.spec_file.specs.Kinds.{kinds, lookup, kind_of}
use Rattle.spec_file.specs.Frames.{Frame, byte, word, kind, known, register_fits, location_fits, skip_fits, operand_fits, in_range, opens, declares, starts, is_access, skip_of, operand, build_own, build, instruction}
use Rattle.spec_file.specs.Decode.{Reading, fresh, thread_at, last_thread, in_place, accesses_in, all_accesses_in, within_limits, is_given, value_at, start_fits, same_bytes, same_code, among, grouped, member_fits, followers_fit, members_fit, alike_fits, frame_refusal, after, far_skip, first_far_skip, program_in, Decoded, accepted, refused, finish, read_lines, decode}
use Rattle.spec_file.proofs.DigitValues as Tests

-- ---- which lines 40 refuses
-- A `03` LINE GETS NEITHER 5 NOR 6, so nothing tells whether 40 comes before them
pub start_in_place : (r : Reading) (f : Frame) → starts f ≡ true → in_place r f ≡ true
unfolding in_place
start_in_place r f e = rw e (or-true (declares f))

pub start_in_limits : (r : Reading) (f : Frame) → starts f ≡ true → within_limits r f ≡ true
unfolding within_limits
start_in_limits r f e = rw e (or-true (declares f))

-- ONLY A `03` LINE GETS 40
pub only_starts : (r : Reading) (f : Frame) → frame_refusal r f ≡ 40 → starts f ≡ true
unfolding frame_refusal start_fits
only_starts r f e = go (known f) (in_range f) (in_place r f) (within_limits r f) (starts f) _ (alike_fits r f) e
  where
    go : (a b c d s t k : Bool)
        → ◌≡◌ {A = ℕ} (cond (not a) 3 (cond (not b) 4 (cond (not c) 5 (cond (not d) 6 (cond (not (not s || t)) 40 (cond (not k) 8 0)))))) 40 → s ≡ true
    go a b c d true t k e = refl
    go false b c d false t k e = absurd (omega arith)
    go true false c d false t k e = absurd (omega arith)
    go true true false d false t k e = absurd (omega arith)
    go true true true false false t k e = absurd (omega arith)
    go true true true true false t false e = absurd (omega arith)
    go true true true true false t true e = absurd (omega arith)

-- the location of a `03` in range is one of the eight
pub start_location : (f : Frame) → byte f 0 ≡ 0x03 → in_range f ≡ true → byte f 1 < 8
unfolding in_range register_fits location_fits operand_fits skip_fits kind kind_of lookup kinds
start_location f e h = ltb-true (byte f 1) 8 (Tests.both (ltb (byte f 1) 8) true (rw e at h)).0

-- ---- files, by computing
-- what a proof names on its `unfolding` line to compute what a file is read as
unfoldable reading : List ℕ → Decoded
unfolding lower digit value digit_of hexadecimal pairs frame digits text prepend before split remark spelt meaning kinds lookup kind_of word kind known register_fits location_fits skip_fits operand_fits in_range opens declares starts is_access skip_of operand build_own build instruction fresh thread_at last_thread in_place accesses_in all_accesses_in within_limits is_given value_at start_fits same_bytes same_list same_code among grouped member_fits followers_fit members_fit alike_fits frame_refusal after far_skip first_far_skip program_in finish read_lines decode
reading file = decode file

-- location l starts with 01020304; with 0
abbrev given : ℕ → List ℕ
given l = text (0x03 ∷ l ∷ 1 ∷ 2 ∷ 3 ∷ 4 ∷ [])

abbrev zeroed : ℕ → List ℕ
zeroed l = text (0x03 ∷ l ∷ 0 ∷ 0 ∷ 0 ∷ 0 ∷ [])

abbrev thread : List ℕ
thread = text (0x01 ∷ [])

abbrev both : List ℕ
both = text (0x02 ∷ 0 ∷ 1 ∷ [])

-- NOTHING BUT `03` LINES is a program of no thread, with these values and 0 elsewhere
only_values : decode (given 7 ++ (zeroed 1 ++ given 0))
    ≡ accepted (record { threads = []; groups = []; starting = 0x01020304 ∷ 0 ∷ 0 ∷ 0 ∷ 0 ∷ 0 ∷ 0 ∷ 0x01020304 ∷ [] })
unfolding reading
only_values = refl

-- before a thread
before_thread : decode (given 2 ++ thread) ≡ accepted (record { threads = [] ∷ []; groups = []; starting = 0 ∷ 0 ∷ 0x01020304 ∷ 0 ∷ 0 ∷ 0 ∷ 0 ∷ 0 ∷ [] })
unfolding reading
before_thread = refl

record Refusal : Type 0 where
  file : List ℕ
  number : ℕ
  place : ℕ

unfoldable right : Refusal → Bool
right r = elim (decode r.file) [ accepted p ↦ false | refused n k ↦ eqb n r.number && eqb k r.place ]

unfoldable all : List Refusal → Bool
all [] = true
all (r ∷ rs) = right r && all rs

abbrev row : List ℕ → ℕ → ℕ → Refusal
row f n k = record { file = f; number = n; place = k }

refusals : List Refusal
refusals =
    -- after a thread, and after a `02` line
    row (thread ++ zeroed 0) 40 2 ∷
    row (thread ++ (thread ++ (both ++ given 0))) 40 4 ∷
    -- a second one for its location, with the same value and with another
    row (given 3 ++ (given 4 ++ given 3)) 40 3 ∷
    row (zeroed 0 ++ given 0) 40 2 ∷
    -- a `03` of another length is refused by 3, one out of range by 4, and both come first
    row (thread ++ text (0x03 ∷ 0 ∷ 1 ∷ 2 ∷ 3 ∷ [])) 3 2 ∷
    row (thread ++ text (0x03 ∷ 0 ∷ 1 ∷ 2 ∷ 3 ∷ 4 ∷ 5 ∷ [])) 3 2 ∷
    row (thread ++ zeroed 8) 4 2 ∷
    row (zeroed 8) 4 1 ∷
    -- no thread stands before it: an instruction behind it is 5, a `02` is 8
    row (given 0 ++ text (0x11 ∷ 0 ∷ 0 ∷ [])) 5 2 ∷
    row (given 0 ++ both) 8 2 ∷
    []

all_right : all refusals ≡ true
unfolding reading right all refusals
all_right = refl
