-- Refusals of a program file are small: the number is at most 8 or it is 40, and the place at most 4,096, since a file of so many bytes has no more lines.
use Prim.Native.Nat.{ℕ, suc, ◌+◌, ◌≤◌}
use native.Mathlib.Omega.{arith}
use mathlib.Core.Path.{◌≡◌, refl}
use mathlib.Core.Logic.{◌⊎◌, inl, inr}
use mathlib.Core.Bool.{Bool, true, false, cond, not}
use mathlib.Core.List.{List, [], ◌∷◌, ◌++◌}
use lib.ListN.{length, set, drop}
use lib.Dec.{eqb, ltb}
use borrow.Author.Tests.{ltb-false}
use Rattle.spec_file.specs.TextLines.{TextLine, split}
use Rattle.spec_file.specs.Meaning.{Meaning, remarked, framed, broken, meaning}
use Rattle.spec_file.proofs.TextLines.{split_length}
use Rattle.spec_file.specs.Frames.{Frame, known, in_range, opens, declares, starts, byte, word, skip_of}
use Rattle.spec_file.specs.Decode.{Placed, Reading, fresh, thread_at, last_thread, in_place, within_limits, start_fits, alike_fits, frame_refusal, after, far_skip, first_far_skip, program_in, Decoded, accepted, refused, finish, read_lines, decode}
use Rattle.spec_file.specs.WellFormed.{Everywhere}
use Rattle.spec_file.proofs.Everywhere.{everywhere_get_d, everywhere_append, everywhere_set}

-- no number but 40 above 8, no place above m
abbrev pub Within : ℕ → Decoded → Type 0
Within m (accepted p) = Unit {0}
Within m (refused n k) = ((n ≤ 8) ⊎ (n ≡ 40)) × (k ≤ m)

-- the numbers by which a line is refused
abbrev Small : ℕ → Type 0
Small n = (n ≤ 8) ⊎ (n ≡ 40)

small : (a b c d s e : Bool) → Small (cond (not a) 3 (cond (not b) 4 (cond (not c) 5 (cond (not d) 6 (cond (not s) 40 (cond (not e) 8 0))))))
small true true true true true true = inl (omega arith)
small true true true true true false = inl (omega arith)
small true true true true false e = inr refl
small true true true false s e = inl (omega arith)
small true true false d s e = inl (omega arith)
small true false c d s e = inl (omega arith)
small false b c d s e = inl (omega arith)

small_number : (r : Reading) (f : Frame) → Small (frame_refusal r f)
unfolding frame_refusal
small_number r f = small (known f) (in_range f) (in_place r f) (within_limits r f) (start_fits r f) (alike_fits r f)

-- the lines of the instructions read so far
abbrev UpTo : ℕ → Reading → Type 0
UpTo m r = Everywhere (Everywhere (λ (x : Placed). x.line ≤ m)) r.threads

far_up_to : (m : ℕ) (xs : List Placed) → Everywhere (λ (x : Placed). x.line ≤ m) xs → far_skip xs ≤ m
unfolding far_skip
far_up_to m [] h = omega arith
far_up_to m (x ∷ xs) h = go (ltb (length xs) (skip_of x.code)) refl (far_up_to m xs h.1)
  where
    go : (b : Bool) → ltb (length xs) (skip_of x.code) ≡ b → far_skip xs ≤ m → far_skip (x ∷ xs) ≤ m
    go true q ih = rw (q, far_skip) h.0
    go false q ih = rw (q, far_skip) ih

first_up_to : (m : ℕ) (cs : List (List Placed)) → Everywhere (Everywhere (λ (x : Placed). x.line ≤ m)) cs → first_far_skip cs ≤ m
unfolding first_far_skip
first_up_to m [] h = omega arith
first_up_to m (c ∷ cs) h = go (eqb (far_skip c) 0) refl (first_up_to m cs h.1)
  where
    go : (b : Bool) → eqb (far_skip c) 0 ≡ b → first_far_skip cs ≤ m → first_far_skip (c ∷ cs) ≤ m
    go true q ih = rw (q, first_far_skip) ih
    go false q ih = rw (q, first_far_skip) (far_up_to m c h.0)

-- what holds of every instruction read so far, and of the new one
pub after_every : (Q : Placed → Type 0) (n : ℕ) (f : Frame) (r : Reading) → Q (record { line = n; code = f })
    → Everywhere (Everywhere Q) r.threads → Everywhere (Everywhere Q) (after n f r).threads
unfolding after thread_at
after_every Q n f r h u = go (opens f) (declares f) (starts f)
  where
    P : List Placed → Type 0
    P = Everywhere Q

    one : List Placed
    one = record { line = n; code = f } ∷ []

    own : P (thread_at r (last_thread r) ++ one)
    own = everywhere_append Q (thread_at r (last_thread r)) one (everywhere_get_d P r.threads (last_thread r) [] u tt) (h, tt)

    go : (a b c : Bool) → Everywhere P
        (cond {A = Reading} a (record { threads = r.threads ++ ([] ∷ []); groups = r.groups; given = r.given })
        (cond b (record { threads = r.threads; groups = r.groups ++ (drop 1 f ∷ []); given = r.given })
        (cond c (record { threads = r.threads; groups = r.groups; given = record { location = byte f 1; value = word f 2 } ∷ r.given })
        (record { threads = set r.threads (last_thread r) (thread_at r (last_thread r) ++ one); groups = r.groups; given = r.given })))).threads
    go true b c = everywhere_append P r.threads ([] ∷ []) u (tt, tt)
    go false true c = u
    go false false true = u
    go false false false = everywhere_set P r.threads (last_thread r) (thread_at r (last_thread r) ++ one) u own

after_up_to : (m n : ℕ) (f : Frame) (r : Reading) → n ≤ m → UpTo m r → UpTo m (after n f r)
after_up_to m n f r h u = after_every (λ (x : Placed). x.line ≤ m) n f r h u

finish_within : (m : ℕ) (r : Reading) → UpTo m r → Within m (finish r)
unfolding finish
finish_within m r u = go (eqb (first_far_skip r.threads) 0)
  where
    go : (b : Bool) → Within m (cond b (accepted (program_in r)) (refused 7 (first_far_skip r.threads)))
    go true = tt
    go false = (inl (omega arith), first_up_to m r.threads u)

lines_within : (m n : ℕ) (ls : List TextLine) (r : Reading) → n + length ls ≤ suc m → UpTo m r → Within m (read_lines n ls r)
unfolding read_lines
lines_within m n [] r h u = finish_within m r u
lines_within m n (l ∷ ls) r h u =
    go (meaning l) refl (lines_within m (n + 1) ls r (omega arith) u)
    (λ f. lines_within m (n + 1) ls (after n f r) (omega arith) (after_up_to m n f r (omega arith) u))
  where
    by : (f : Frame) (b : Bool) → Within m (read_lines (n + 1) ls (after n f r)) → Within m (cond b (read_lines (n + 1) ls (after n f r)) (refused (frame_refusal r f) n))
    by f true ih = ih
    by f false ih = (small_number r f, omega arith)

    go : (x : Meaning) → meaning l ≡ x → Within m (read_lines (n + 1) ls r) → ((f : Frame) → Within m (read_lines (n + 1) ls (after n f r)))
        → Within m (read_lines n (l ∷ ls) r)
    go broken q past ih = rw (q, read_lines) (inl (omega arith), omega arith)
    go remarked q past ih = rw (q, read_lines) past
    go (framed f) q past ih = rw (q, read_lines) (by f (eqb (frame_refusal r f) 0) (ih f))

-- EVERY REFUSAL OF A FILE
pub decode_within : (file : List ℕ) → Within 4096 (decode file)
unfolding decode fresh
decode_within file = go (ltb 4096 (length file)) refl
  where
    go : (b : Bool) → ltb 4096 (length file) ≡ b → Within 4096 (cond b (refused 1 0) (read_lines 1 (split file) fresh))
    go true q = (inl (omega arith), omega arith)
    go false q = lines_within 4096 1 (split file) fresh (omega (arith, ltb-false 4096 (length file) q, split_length file)) tt
