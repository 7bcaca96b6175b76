-- Program files: document 01's "Program file" with its refusals 1 to 8 and 40.
-- 1 comes first; then the lines in order, each by 2, 3, 4, 5, 6, 40, 8; then 7 at the earliest line. A file that gets none of these is an
-- accepted program, also one without a thread.
use Rattle.std.specs.Prelude.{ℕ, ◌+◌, ◌-◌, Bool, true, false, cond, not, ◌&&◌, ◌||◌, List, [], ◌∷◌, ◌++◌, map, length, get_or, set, drop, eqb, ltb}
use Rattle.spec_file.specs.Lists.{same_list}
use Rattle.spec_file.specs.TextLines.{TextLine, split}
use Rattle.spec_file.specs.Meaning.{remarked, framed, broken, meaning}
use Rattle.spec_file.specs.Program.{Program}
use Rattle.spec_file.specs.Frames.{Frame, byte, word, known, in_range, opens, declares, starts, is_access, skip_of, instruction}

-- an instruction's frame and the number of its line
pub record Placed : Type 0 where
  pub line : ℕ
  pub code : Frame

-- what a `03` line says: the location starts with the value
pub record Start : Type 0 where
  pub location : ℕ
  pub value : ℕ

-- what the lines read so far have opened, declared and started: the threads with their instructions, the members of each `02` line, and
-- what each `03` line says, the last one first
pub record Reading : Type 0 where
  pub threads : List (List Placed)
  pub groups : List (List ℕ)
  pub given : List Start

unfoldable pub fresh : Reading
fresh = record { threads = []; groups = []; given = [] }

-- the instructions of thread t so far, and of the thread last opened
unfoldable pub thread_at : Reading → ℕ → List Placed
thread_at r t = get_or r.threads t []

unfoldable pub last_thread : Reading → ℕ
last_thread r = length r.threads - 1

-- refusal 5: an instruction wants a thread before it, and neither a thread nor an instruction stands behind a `02`
unfoldable pub in_place : Reading → Frame → Bool
in_place r f = declares f || (starts f || (eqb (length r.groups) 0 && (opens f || ltb 0 (length r.threads))))

-- how many accesses these instructions, and all threads, have
unfoldable pub accesses_in : List Placed → ℕ
accesses_in [] = 0
accesses_in (x ∷ xs) = cond (is_access x.code) 1 0 + accesses_in xs

unfoldable pub all_accesses_in : List (List Placed) → ℕ
all_accesses_in [] = 0
all_accesses_in (c ∷ cs) = accesses_in c + all_accesses_in cs

-- refusal 6: at most 6 threads, 16 instructions a thread, 24 accesses in the file
unfoldable pub within_limits : Reading → Frame → Bool
within_limits r f =
    declares f
    || (starts f
    || cond (opens f)
    (ltb (length r.threads) 6)
    (ltb (length (thread_at r (last_thread r))) 16 && (not (is_access f) || ltb (all_accesses_in r.threads) 24)))

-- whether one of these `03` lines is for location l, and the value that l then starts with: that of its line, else 0
unfoldable pub is_given : ℕ → List Start → Bool
is_given l [] = false
is_given l (s ∷ ss) = eqb l s.location || is_given l ss

unfoldable pub value_at : ℕ → List Start → ℕ
value_at l [] = 0
value_at l (s ∷ ss) = cond (eqb l s.location) s.value (value_at l ss)

-- refusal 40: a `03` stands before every thread and every `02`, and none before it is for its location
unfoldable pub start_fits : Reading → Frame → Bool
start_fits r f =
    not (starts f) || (eqb (length r.threads) 0 && (eqb (length r.groups) 0 && not (is_given (byte f 1) r.given)))

-- whether two instructions, and two threads' code, are the same byte for byte
unfoldable pub same_bytes : Placed → Placed → Bool
same_bytes x y = same_list eqb x.code y.code

unfoldable pub same_code : List Placed → List Placed → Bool
same_code xs ys = same_list same_bytes xs ys

-- whether a thread stands among these, and in one of these groups
unfoldable pub among : ℕ → List ℕ → Bool
among t [] = false
among t (u ∷ us) = eqb t u || among t us

unfoldable pub grouped : ℕ → List (List ℕ) → Bool
grouped t [] = false
grouped t (g ∷ gs) = among t g || grouped t gs

-- refusal 8: each member exists and stands in no earlier `02`; each but the first is above the one before it and has the same code
unfoldable pub member_fits : Reading → ℕ → Bool
member_fits r t = ltb t (length r.threads) && not (grouped t r.groups)

unfoldable pub followers_fit : Reading → ℕ → List ℕ → Bool
followers_fit r t [] = true
followers_fit r t (u ∷ us) = member_fits r u && (ltb t u && (same_code (thread_at r t) (thread_at r u) && followers_fit r u us))

unfoldable pub members_fit : Reading → List ℕ → Bool
members_fit r [] = true
members_fit r (t ∷ ts) = member_fits r t && followers_fit r t ts

unfoldable pub alike_fits : Reading → Frame → Bool
alike_fits r f = not (declares f) || members_fit r (drop 1 f)

-- the number by which a line is refused, or 0 where it passes
unfoldable pub frame_refusal : Reading → Frame → ℕ
frame_refusal r f =
    cond (not (known f)) 3
    (cond (not (in_range f)) 4
    (cond (not (in_place r f)) 5
    (cond (not (within_limits r f)) 6
    (cond (not (start_fits r f)) 40
    (cond (not (alike_fits r f)) 8
    0)))))

-- what has been read once a frame has passed: a thread more, a group more, a starting value more, or an instruction more in the thread
-- last opened
unfoldable pub after : ℕ → Frame → Reading → Reading
after n f r =
    cond (opens f) (record { threads = r.threads ++ ([] ∷ []); groups = r.groups; given = r.given })
    (cond (declares f) (record { threads = r.threads; groups = r.groups ++ (drop 1 f ∷ []); given = r.given })
    (cond (starts f)
    (record { threads = r.threads; groups = r.groups; given = record { location = byte f 1; value = word f 2 } ∷ r.given })
    (record {
      threads = set r.threads (last_thread r) (thread_at r (last_thread r) ++ (record { line = n; code = f } ∷ []));
      groups = r.groups;
      given = r.given;
    })))

-- refusal 7: the line of the first skip that goes beyond its thread's end, or 0; to just behind the last instruction is allowed
unfoldable pub far_skip : List Placed → ℕ
far_skip [] = 0
far_skip (x ∷ xs) = cond (ltb (length xs) (skip_of x.code)) x.line (far_skip xs)

unfoldable pub first_far_skip : List (List Placed) → ℕ
first_far_skip [] = 0
first_far_skip (c ∷ cs) = cond (eqb (far_skip c) 0) (first_far_skip cs) (far_skip c)

-- the eight locations
abbrev pub locations : List ℕ
locations = 0 ∷ 1 ∷ 2 ∷ 3 ∷ 4 ∷ 5 ∷ 6 ∷ 7 ∷ []

-- the program that the lines have made
unfoldable pub program_in : Reading → Program
program_in r = record {
  threads = map (map (λ x. instruction x.code)) r.threads;
  groups = r.groups;
  starting = map (λ l. value_at l r.given) locations;
}

-- an accepted program, or a refusal's number and place
pub data Decoded : Type 0 where
  accepted : Program → Decoded
  refused : ℕ → ℕ → Decoded

unfoldable pub finish : Reading → Decoded
finish r = cond (eqb (first_far_skip r.threads) 0) (accepted (program_in r)) (refused 7 (first_far_skip r.threads))

-- the lines from number n on. Refusal 2: a line that is empty, odd, without its 0a, or has another character; a remark is passed over, and
-- counts as a line
unfoldable pub read_lines : ℕ → List TextLine → Reading → Decoded
read_lines n [] r = finish r
read_lines n (l ∷ ls) r =
    elim (meaning l) [
      | broken ↦ refused 2 n
      | remarked ↦ read_lines (n + 1) ls r
      | framed f ↦ cond (eqb (frame_refusal r f) 0) (read_lines (n + 1) ls (after n f r)) (refused (frame_refusal r f) n)
    ]

unfoldable pub decode : List ℕ → Decoded
decode file = cond (ltb 4096 (length file)) (refused 1 0) (read_lines 1 (split file) fresh)
