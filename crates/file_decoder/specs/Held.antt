-- What a line that is not refused leaves, and how the decoder's arrays hold what the end of a file asks for. For the decoder's own
-- functions: nothing here is needed to read `decode`.
use Rattle.std.specs.Prelude.{ℕ, ◌+◌, ◌-◌, ◌*◌, ◌≤◌, ◌<◌, ◌≡◌, true, cond, ◌&&◌, List, [], ◌∷◌, leb, ltb, length, get_or, set}
use Rattle.spec_file.specs.Lists.{Ascends}
use Rattle.spec_file.specs.Frame.{pairs}
use Rattle.file_refusals.specs.declared.counts.Counts.{Counts}
use Rattle.spec_file.specs.WellFormed.{Everywhere, Apart}
use Rattle.spec_file.specs.Frames.{byte}
use Rattle.spec_file.specs.Decode.{Placed, Reading, thread_at, frame_refusal, after}
use Rattle.file_refusals.specs.Held.{no_instruction, Bounded, Holds}

-- the members get the group g
unfoldable pub marked : ℕ → List ℕ → List ℕ → List ℕ
marked g [] class = class
marked g (t ∷ ts) class = marked g ts (set class t g)

-- the counts with a thread, a group, a starting value, an instruction more
abbrev pub opened_counts : Counts → Counts
opened_counts s = record {
  threads = s.threads + 1;
  lengths = s.lengths;
  accesses = s.accesses;
  groups = s.groups;
  class = s.class;
  starting = s.starting;
}

abbrev pub grouped_counts : List ℕ → Counts → Counts
grouped_counts ts s =
    record {
      threads = s.threads;
      lengths = s.lengths;
      accesses = s.accesses;
      groups = s.groups + 1;
      class = marked (s.groups + 1) ts s.class;
      starting = s.starting;
    }

abbrev pub started_counts : ℕ → ℕ → Counts → Counts
started_counts l v s = record {
  threads = s.threads;
  lengths = s.lengths;
  accesses = s.accesses;
  groups = s.groups;
  class = s.class;
  starting = record { values = set s.starting.values l v; given = set s.starting.given l true };
}

abbrev pub extended_counts : ℕ → Counts → Counts
extended_counts b s = record {
  threads = s.threads;
  lengths = set s.lengths (s.threads - 1) (get_or s.lengths (s.threads - 1) 0 + 1);
  accesses = s.accesses + cond (leb 0x10 b && leb b 0x13) 1 0;
  groups = s.groups;
  class = s.class;
  starting = s.starting;
}

-- the line of instruction i of thread t
unfoldable pub line_at : Reading → ℕ → ℕ → ℕ
line_at r t i = (get_or (thread_at r t) i no_instruction).line

-- the line numbers are kept too
pub record Lined (rows : List ℕ) (r : Reading) : Type 0 where
  pub size : length rows ≡ 96
  pub lines : (t i : ℕ) → i < length (thread_at r t) → get_or rows (t * 16 + i) 0 ≡ line_at r t i

-- lines are numbered from 1
abbrev pub Numbered : Reading → Type 0
Numbered r = Everywhere (Everywhere (λ (x : Placed). 1 ≤ x.line)) r.threads

-- one thread's instructions, as the code and the line numbers hold them
pub record HeldThread (code rows : List ℕ) (t : ℕ) (xs : List Placed) : Type 0 where
  pub bytes : (i j : ℕ) → i < length xs → j < 16 → get_or code ((t * 16 + i) * 16 + j) 0 ≡ byte (get_or xs i no_instruction).code j
  pub lines : (i : ℕ) → i < length xs → get_or rows (t * 16 + i) 0 ≡ (get_or xs i no_instruction).line
  pub numbered : (i : ℕ) → i < length xs → 1 ≤ (get_or xs i no_instruction).line

-- all threads
pub record HeldThreads (code rows : List ℕ) (n : ℕ) (ns : List ℕ) (cs : List (List Placed)) : Type 0 where
  pub threads : n ≡ length cs
  pub lengths : (t : ℕ) → get_or ns t 0 ≡ length (get_or cs t [])
  pub each : (t : ℕ) → HeldThread code rows t (get_or cs t [])

-- the groups read so far: members below six, ascending, in one group only
pub record Grouped (r : Reading) : Type 0 where
  pub ascend : Everywhere (Ascends ltb) r.groups
  pub small : Everywhere (Everywhere (λ t. t < 6)) r.groups
  pub apart : Apart r.groups

-- a line that is not refused, for the counts' own needs
pub record Passes (line : List ℕ) (n : ℕ) (code : List ℕ) (s : Counts) : Type 0 where
  pub bounded : Bounded s
  pub size : n ≡ length (pairs line)
  pub read : Reading
  pub holds : Holds code s read
  pub passes : frame_refusal read (pairs line) ≡ 0

-- what a line that is not refused leaves
pub record Taken (line : List ℕ) (number : ℕ) (code rows : List ℕ) (s : Counts) (code' rows' : List ℕ) (s' : Counts) : Type 0 where
  pub bounded : s'.groups ≤ s.groups + 1
  pub holds : (r : Reading) → Holds code s r → frame_refusal r (pairs line) ≡ 0 → Holds code' s' (after number (pairs line) r)
  pub lined : (r : Reading) → Holds code s r → Lined rows r → frame_refusal r (pairs line) ≡ 0 → Lined rows' (after number (pairs line) r)
