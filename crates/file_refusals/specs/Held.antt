-- How the decoder's code and counts hold what has been read of a file. For the decoder's own functions: nothing here is needed to read
-- `decode`.
use Rattle.std.specs.Prelude.{ℕ, suc, ◌-◌, ◌+◌, ◌*◌, ◌≤◌, ◌<◌, ◌≡◌, Bool, true, false, cond, ◌&&◌, List, [], ◌∷◌, eqb, ltb, leb, length, get_or, replicate}
use Rattle.file_refusals.specs.declared.counts.Starting.{Starting}
use Rattle.file_refusals.specs.declared.counts.Counts.{Counts}
use Rattle.spec_file.specs.Frames.{Frame, byte, known, declares}
use Rattle.file_rows.specs.Bytes.{agree}
use Rattle.spec_file.specs.Decode.{Placed, Start, Reading, thread_at, all_accesses_in, is_given, value_at, among}

-- the counts before the first line
abbrev pub nothing : Counts
nothing = record {
  threads = 0;
  lengths = replicate 6 0;
  accesses = 0;
  groups = 0;
  class = replicate 6 0;
  starting = record { values = replicate 8 0; given = replicate 8 false };
}

-- whether threads t and u have the same number of instructions and the same bytes
abbrev pub code_agrees : List ℕ → List ℕ → ℕ → ℕ → Bool
code_agrees code lengths t u = eqb (get_or lengths t 0) (get_or lengths u 0) && agree code (t * 256) (u * 256) (get_or lengths t 0 * 16)

-- refusals 5 and 6 by the counts, for a thread and for an instruction
abbrev pub opening_refusal : Counts → ℕ
opening_refusal s = cond (eqb s.groups 0) (cond (ltb s.threads 6) 0 6) 5

abbrev pub instruction_refusal : ℕ → Counts → ℕ
instruction_refusal b s =
    cond (eqb s.groups 0)
    (cond (eqb s.threads 0) 5
    (cond (leb 16 (get_or s.lengths (s.threads - 1) 0)) 6
    (cond (leb 0x10 b && leb b 0x13) (cond (leb 24 s.accesses) 6 0) 0)))
    5

-- refusal 40 by the counts, for a `03` line of location l
abbrev pub starting_refusal : ℕ → Counts → ℕ
starting_refusal l s = cond (eqb s.threads 0) (cond (eqb s.groups 0) (cond (get_or s.starting.given l false) 40 0) 40) 40

-- the limits, as the counts keep them
pub record Bounded (s : Counts) : Type 0 where
  pub six : s.threads ≤ 6
  pub sixteen : (t : ℕ) → get_or s.lengths t 0 ≤ 16
  pub access_24 : s.accesses ≤ 24
  pub few : s.groups ≤ 4096

-- the frame of instruction i of thread t
unfoldable pub no_instruction : Placed
no_instruction = record { line = 0; code = [] }

unfoldable pub frame_at : Reading → ℕ → ℕ → Frame
frame_at r t i = (get_or (thread_at r t) i no_instruction).code

-- the number of the group, from k on, that has t; 0 if none has
unfoldable pub class_from : ℕ → ℕ → List (List ℕ) → ℕ
class_from k t [] = 0
class_from k t (g ∷ gs) = cond (among t g) k (class_from (suc k) t gs)

-- the arrays hold what the `03` lines say
pub record HoldsStarts (m : Starting) (ss : List Start) : Type 0 where
  pub sizes : (length m.values ≡ 8) × (length m.given ≡ 8)
  pub values : (l : ℕ) → l < 8 → get_or m.values l 0 ≡ value_at l ss
  pub given : (l : ℕ) → l < 8 → get_or m.given l false ≡ is_given l ss

-- the code and the counts hold what has been read
pub record Holds (code : List ℕ) (s : Counts) (r : Reading) : Type 0 where
  pub size : length code ≡ 1536
  pub sizes : (length s.lengths ≡ 6) × (length s.class ≡ 6)
  pub threads : s.threads ≡ length r.threads
  pub lengths : (t : ℕ) → get_or s.lengths t 0 ≡ length (thread_at r t)
  pub bytes : (t i j : ℕ) → i < 16 → j < 16 → get_or code ((t * 16 + i) * 16 + j) 0 ≡ byte (frame_at r t i) j
  pub frames : (t i : ℕ) → i < length (thread_at r t) → (known (frame_at r t i) ≡ true) × (declares (frame_at r t i) ≡ false)
  pub accesses : s.accesses ≡ all_accesses_in r.threads
  pub groups : s.groups ≡ length r.groups
  pub class : (t : ℕ) → t < 6 → get_or s.class t 0 ≡ class_from 1 t r.groups
  pub starting : HoldsStarts s.starting r.given
