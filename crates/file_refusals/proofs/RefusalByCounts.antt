-- The number by which a frame is refused, worked out from the counts.
use Prim.Native.Nat.{ℕ, ◌-◌, ◌≤◌, ◌<◌}
use native.Mathlib.Omega.{arith}
use mathlib.Core.Path.{◌≡◌, refl}
use mathlib.Core.Bool.{Bool, true, false, not, cond, ◌&&◌, ◌||◌, and-false}
use mathlib.Core.List.{List}
use lib.Dec.{eqb, ltb, leb}
use lib.ListN.{length, get_or, drop}
use borrow.Author.Tests.{ne_eqb, lt-leb, le-leb, le-ltb, lt-ltb, eqb-true, eqb-false, leb-true, leb-false}
use Rattle.file_refusals.specs.declared.counts.Counts.{Counts}
use Rattle.spec_file.specs.Frames.{Frame, byte, kind, known, in_range, opens, declares, starts, is_access}
use Rattle.spec_file.specs.Decode.{Reading, last_thread, in_place, within_limits, is_given, start_fits, members_fit, alike_fits, frame_refusal}
use Rattle.file_refusals.specs.Held.{opening_refusal, starting_refusal, instruction_refusal, Holds}

-- ---- the length
pub too_short : (f : Frame) → length f < (kind f).least → known f ≡ false
unfolding known
too_short f h = rw (lt-leb (kind f).least (length f) h)

pub too_long : (f : Frame) → (kind f).most < length f → known f ≡ false
unfolding known
too_long f h = rw (lt-leb (length f) (kind f).most h) (and-false (leb (kind f).least (length f)))

pub length_fits : (f : Frame) → (kind f).least ≤ length f → length f ≤ (kind f).most → known f ≡ true
unfolding known
length_fits f h k = rw (le-leb (kind f).least (length f) h, le-leb (length f) (kind f).most k)

-- ---- 3 and 4
module _ (r : Reading) (f : Frame) where
  pub refused_3 : known f ≡ false → frame_refusal r f ≡ 3
  unfolding frame_refusal
  refused_3 e = rw e

  pub refused_4 : known f ≡ true → in_range f ≡ false → frame_refusal r f ≡ 4
  unfolding frame_refusal
  refused_4 e h = rw (e, h)

-- ---- 5, 6, 40 and 8
module _ (code : List ℕ) (s : Counts) (r : Reading) (held : Holds code s r) (f : Frame) (k : known f ≡ true) (i : in_range f ≡ true) where
  -- a frame that opens a thread
  pub opening_refused : byte f 0 ≡ 1 → opening_refusal s ≡ frame_refusal r f
  unfolding frame_refusal in_place within_limits start_fits alike_fits opens declares starts
  opening_refused e = rw (k, i, e, ← held.groups, ← held.threads) (go (eqb s.groups 0) (ltb s.threads 6))
    where
      go : (g t : Bool) → ◌≡◌ {A = ℕ} (cond g (cond t 0 6) 5) (cond (not (g && true)) 5 (cond (not t) 6 0))
      go true true = refl
      go true false = refl
      go false t = refl

  -- a frame that declares threads alike
  pub alike_refused : byte f 0 ≡ 2 → cond (members_fit r (drop 1 f)) 0 8 ≡ frame_refusal r f
  unfolding frame_refusal in_place within_limits start_fits alike_fits opens declares starts
  alike_refused e = rw (k, i, e) (go (members_fit r (drop 1 f)))
    where
      go : (b : Bool) → ◌≡◌ {A = ℕ} (cond b 0 8) (cond (not b) 8 0)
      go true = refl
      go false = refl

  -- a frame that lets a location start with a value
  pub starting_refused : byte f 0 ≡ 3 → byte f 1 < 8 → starting_refusal (byte f 1) s ≡ frame_refusal r f
  unfolding frame_refusal in_place within_limits start_fits alike_fits opens declares starts
  starting_refused e l =
      rw (k, i, e, ← held.groups, ← held.threads, held.starting.given (byte f 1) l)
      (go (eqb s.threads 0) (eqb s.groups 0) (is_given (byte f 1) r.given))
    where
      go : (t g b : Bool) → ◌≡◌ {A = ℕ} (cond t (cond g (cond b 40 0) 40) 40) (cond (not (t && (g && not b))) 40 0)
      go true true true = refl
      go true true false = refl
      go true false b = refl
      go false g b = refl

  -- the complement of a limit
  below : (a b : ℕ) → ltb a b ≡ not (leb b a)
  below a b = go (leb b a) refl
    where
      go : (t : Bool) → leb b a ≡ t → ltb a b ≡ not t
      go true e = le-ltb a b (leb-true b a e)
      go false e = lt-ltb a b (leb-false b a e)

  positive : (n : ℕ) → ltb 0 n ≡ not (eqb n 0)
  positive n = go (eqb n 0) refl
    where
      go : (t : Bool) → eqb n 0 ≡ t → ltb 0 n ≡ not t
      go true e = let z = eqb-true n 0 e in le-ltb 0 n (omega arith)
      go false e = lt-ltb 0 n (omega (arith, eqb-false n 0 e))

  -- an instruction
  pub instruction_refused : (byte f 0 ≡ 1 → ⊥) → (byte f 0 ≡ 2 → ⊥) → (byte f 0 ≡ 3 → ⊥) → instruction_refusal (byte f 0) s ≡ frame_refusal r f
  unfolding frame_refusal in_place within_limits start_fits alike_fits opens declares starts is_access last_thread
  instruction_refused one two three =
      rw (
        k,
        i,
        ne_eqb (byte f 0) 2 two,
        ne_eqb (byte f 0) 3 three,
        ne_eqb (byte f 0) 1 one,
        ← held.groups,
        ← held.threads,
        ← held.lengths (s.threads - 1),
        ← held.accesses,
        positive s.threads,
        below (get_or s.lengths (s.threads - 1) 0) 16,
        below s.accesses 24,
      )
      (go (eqb s.groups 0) (eqb s.threads 0) (leb 16 (get_or s.lengths (s.threads - 1) 0)) (leb 16 (byte f 0) && leb (byte f 0) 19) (leb 24 s.accesses))
    where
      go : (g z l a q : Bool) → ◌≡◌ {A = ℕ} (cond g (cond z 5 (cond l 6 (cond a (cond q 6 0) 0))) 5)
          (cond (not (g && not z)) 5 (cond (not (not l && (not a || not q))) 6 0))
      go false z l a q = refl
      go true true l a q = refl
      go true false true a q = refl
      go true false false false q = refl
      go true false false true true = refl
      go true false false true false = refl
