-- The decoder's arrays hold nothing before the first line, and lines that open a thread or give a starting value leave the code as it is.
use Prim.Native.Nat.{ℕ, zero, suc, ◌+◌, ◌-◌, ◌*◌, ◌≤◌, ◌<◌}
use native.Mathlib.Omega.{arith}
use mathlib.Core.Path.{◌≡◌, refl, sym, ap, subst, ◌∙◌}
use mathlib.Core.Bool.{true, false}
use mathlib.Core.List.{List, [], ◌∷◌, ◌++◌}
use lib.ListN.{length, get_or, replicate, length-append, length-replicate}
use lib.Dec.{ltb}
use borrow.Author.Tests.{ltb-true, eq-eqb, ne_eqb}
use Rattle.file_refusals.specs.declared.counts.Counts.{Counts}
use Rattle.spec_file.specs.Frames.{Frame, byte, known, opens, declares, starts}
use Rattle.spec_file.specs.Decode.{Placed, Reading, fresh, thread_at, last_thread, all_accesses_in, is_given, value_at, frame_refusal, after}
use Rattle.file_refusals.specs.Held.{nothing, frame_at, no_instruction, class_from, Holds}
use Rattle.file_decoder.specs.Held.{opened_counts, line_at, Lined}
use Rattle.spec_file.proofs.DigitValues.{both}
use Rattle.spec_file.proofs.Tests.{second}
use Rattle.spec_file.proofs.AccessCounts.{all_accesses_open}
use Rattle.spec_file.proofs.KindTable.{known_13}
use Rattle.spec_file.proofs.Sound.{passes, ungrouped, opens_declares, opens_starts, in_limits_of}

-- ---- before the first line
repeated : (n i z : ℕ) → get_or (replicate n z) i z ≡ z
repeated zero i z = refl
repeated (suc n) zero z = refl
repeated (suc n) (suc i) z = repeated n i z

all_zero : (xs : List ℕ) (n : ℕ) → xs ≡ replicate n 0 → (i : ℕ) → get_or xs i 0 ≡ 0
all_zero xs n e i = ap (λ (l : List ℕ). get_or l i 0) e ∙ repeated n i 0

zeros_length : (xs : List ℕ) (n : ℕ) → xs ≡ replicate n 0 → length xs ≡ n
zeros_length xs n e = ap (λ (l : List ℕ). length l) e ∙ length-replicate n 0

unset : (n i : ℕ) → get_or (replicate n false) i false ≡ false
unset zero i = refl
unset (suc n) zero = refl
unset (suc n) (suc i) = unset n i

pub held_fresh : (code rows : List ℕ) → code ≡ replicate 1536 0 → rows ≡ replicate 96 0 → Holds code nothing fresh × Lined rows fresh
unfolding fresh thread_at frame_at no_instruction all_accesses_in class_from is_given value_at
held_fresh code rows e g = (
  record {
    size = zeros_length code 1536 e;
    sizes = (refl, refl);
    threads = refl;
    lengths = λ t. repeated 6 t 0;
    bytes = λ t i j _ _. all_zero code 1536 e _;
    frames = λ t i h. absurd (omega arith);
    accesses = refl;
    groups = refl;
    class = λ t _. repeated 6 t 0;
    starting = record { sizes = (refl, refl); values = λ l _. repeated 8 l 0; given = λ l _. unset 8 l };
  },
  record { size = zeros_length rows 96 g; lines = λ t i h. absurd (omega arith) },
)

-- ---- what the first byte says
pub first_opens : (f : Frame) → byte f 0 ≡ 0x01 → opens f ≡ true
unfolding opens
first_opens f e = eq-eqb (byte f 0) 0x01 e

pub first_declares : (f : Frame) → byte f 0 ≡ 0x02 → (opens f ≡ false) × (declares f ≡ true)
unfolding opens declares
first_declares f e = (ne_eqb (byte f 0) 0x01 (λ h. omega arith), eq-eqb (byte f 0) 0x02 e)

pub first_starts : (f : Frame) → byte f 0 ≡ 0x03 → (opens f ≡ false) × (declares f ≡ false) × (starts f ≡ true)
unfolding opens declares starts
first_starts f e = (ne_eqb (byte f 0) 0x01 (λ h. omega arith), ne_eqb (byte f 0) 0x02 (λ h. omega arith), eq-eqb (byte f 0) 0x03 e)

-- the frame begins with neither 01, 02 nor 03
abbrev pub Plain : Frame → Type 0
Plain f = (byte f 0 ≡ 0x01 → ⊥) × (byte f 0 ≡ 0x02 → ⊥) × (byte f 0 ≡ 0x03 → ⊥)

pub first_instruction : (f : Frame) → Plain f → (opens f ≡ false) × (declares f ≡ false) × (starts f ≡ false)
unfolding opens declares starts
first_instruction f a = (ne_eqb (byte f 0) 0x01 a.0, ne_eqb (byte f 0) 0x02 a.1, ne_eqb (byte f 0) 0x03 a.2)

-- ---- a line that passes has room
pub passes_opened : (f : Frame) (code : List ℕ) (s : Counts) (r : Reading) → Holds code s r → frame_refusal r f ≡ 0 → byte f 0 ≡ 0x01 → s.threads < 6
passes_opened f code s r h e b =
    let o = first_opens f b in
    let room : length r.threads < 6 = ltb-true (length r.threads) 6 (rw o at (in_limits_of r f (passes r f e).in_limits (opens_declares f o) (opens_starts f o))) in
    omega (arith, h.threads)

pub passes_extended : (f : Frame) (code : List ℕ) (s : Counts) (r : Reading) → Holds code s r → frame_refusal r f ≡ 0
    → Plain f
    → (1 ≤ s.threads) × (get_or s.lengths (s.threads - 1) 0 < 16) × (length f ≤ 13)
unfolding last_thread
passes_extended f code s r h e a =
    let p = passes r f e in
    let first = first_instruction f a in
    let place = ungrouped r f p.in_place first.1 first.2 in
    let one : 0 < length r.threads = ltb-true 0 (length r.threads) (second (opens f) _ place.1 first.0) in
    let last : ℕ = length r.threads - 1 in
    let limits = both (ltb (length (thread_at r last)) 16) _ (rw first.0 at (in_limits_of r f p.in_limits first.1 first.2)) in
    let room : length (thread_at r last) < 16 = ltb-true (length (thread_at r last)) 16 limits.0 in
    let same : get_or s.lengths (s.threads - 1) 0 ≡ length (thread_at r last) =
    ap (λ (k : ℕ). get_or s.lengths (k - 1) 0) h.threads ∙ h.lengths last in
    (omega (arith, h.threads), omega arith, known_13 f p.is_known)

-- ---- a thread more
no_code : (cs : List (List Placed)) (t : ℕ) → get_or (cs ++ ([] ∷ [])) t [] ≡ get_or cs t []
no_code [] zero = refl
no_code [] (suc t) = refl
no_code (c ∷ cs) zero = refl
no_code (c ∷ cs) (suc t) = no_code cs t

pub held_opened : (n : ℕ) (f : Frame) (code : List ℕ) (s : Counts) (r : Reading) → Holds code s r → frame_refusal r f ≡ 0
    → byte f 0 ≡ 0x01 → Holds code (opened_counts s) (after n f r)
unfolding after thread_at frame_at
held_opened n f code s r h e b =
    let same : (t : ℕ) → get_or r.threads t [] ≡ get_or (r.threads ++ ([] ∷ [])) t [] = λ t. sym (no_code r.threads t) in
    rw (first_opens f b)
    (record {
      size = h.size;
      sizes = h.sizes;
      threads = omega (arith, h.threads, length-append r.threads ([] ∷ []));
      lengths = λ t. h.lengths t ∙ ap (λ (c : List Placed). length c) (same t);
      bytes = λ t i j hi hj. h.bytes t i j hi hj ∙ ap (λ (c : List Placed). byte (get_or c i no_instruction).code j) (same t);
      frames = λ t i. subst (λ (c : List Placed). i < length c
          → (known (get_or c i no_instruction).code ≡ true) × (declares (get_or c i no_instruction).code ≡ false)) (same t) (h.frames t i);
      accesses = h.accesses ∙ sym (all_accesses_open r.threads);
      groups = h.groups;
      class = h.class;
      starting = h.starting;
    })

pub lined_opened : (n : ℕ) (f : Frame) (rows : List ℕ) (r : Reading) → Lined rows r → frame_refusal r f ≡ 0
    → byte f 0 ≡ 0x01 → Lined rows (after n f r)
unfolding after thread_at line_at
lined_opened n f rows r h e b =
    rw (first_opens f b)
    (record {
      size = h.size;
      lines = λ t i. subst (λ (c : List Placed). i < length c → get_or rows (t * 16 + i) 0 ≡ (get_or c i no_instruction).line)
          (sym (no_code r.threads t)) (h.lines t i);
    })
