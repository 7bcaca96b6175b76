-- What holds of all that has been read while no line has been refused, and that each line that passes keeps it.
use Prim.Native.Nat.{ℕ, suc, ◌+◌, ◌-◌, ◌≤◌, ◌<◌, ◌^◌}
use native.Mathlib.Omega.{arith}
use mathlib.Core.Path.{◌≡◌, refl, ap}
use mathlib.Core.Bool.{Bool, true, false, cond, not, ◌&&◌, ◌||◌}
use mathlib.Core.List.{List, [], ◌∷◌, ◌++◌, Memᴰ}
use lib.ListN.{length, get_or, set, drop, length-append, length-drop, length-set}
use lib.Dec.{eqb, ltb}
use borrow.Author.Tests.{eqb-true, ltb-true, ne_eqb}
use Rattle.spec_file.specs.Lists.{Ascends}
use Rattle.spec_file.proofs.FrameTerms.{Bytes}
use Rattle.spec_file.specs.Kinds.{kinds, lookup, kind_of}
use Rattle.spec_file.specs.Frames.{Frame, byte, kind, known, in_range, opens, declares, starts, is_access, word}
use Rattle.spec_file.specs.Decode.{Placed, Start, Reading, fresh, thread_at, last_thread, in_place, all_accesses_in, within_limits, start_fits, member_fits, members_fit, alike_fits, frame_refusal, after}
use Rattle.spec_file.specs.WellFormed.{Everywhere, Apart}
use Rattle.spec_file.proofs.DigitValues.{both}
use Rattle.spec_file.proofs.Tests.{second}
use Rattle.spec_file.proofs.KindTable.{known_range}
use Rattle.spec_file.proofs.Everywhere.{everywhere_get_d, everywhere_append, everywhere_set, everywhere_weaken}
use Rattle.spec_file.proofs.InstructionFrames.{IsInstruction}
use Rattle.spec_file.proofs.InstructionRanges.{word_below}
use Rattle.spec_file.proofs.AccessCounts.{accesses_snoc, all_accesses_open, all_accesses_set}
use Rattle.spec_file.proofs.GroupLines.{frames_of, members, member_exists, members_apart}

-- a placed instruction: its line has a number, its frame is an instruction's, in range, and made of bytes
pub record Good (x : Placed) : Type 0 where
  pub numbered : 1 ≤ x.line
  pub is_instruction : IsInstruction x.code
  pub in_range : in_range x.code ≡ true
  pub bytes : Bytes x.code

-- a group among threads that are read: two to six that exist, ascending, of equal frames
pub record Alike (cs : List (List Placed)) (g : List ℕ) : Type 0 where
  pub two : 2 ≤ length g
  pub six : length g ≤ 6
  pub ascend : Ascends ltb g
  pub exist : Everywhere (λ t. t < length cs) g
  pub equal : (t u : ℕ) → Memᴰ t g → Memᴰ u g → frames_of (get_or cs t []) ≡ frames_of (get_or cs u [])

pub record Sound (r : Reading) : Type 0 where
  pub six : length r.threads ≤ 6
  pub sixteen : Everywhere (λ c. length c ≤ 16) r.threads
  pub access_24 : all_accesses_in r.threads ≤ 24
  pub good : Everywhere (Everywhere Good) r.threads
  pub groups : Everywhere (Alike r.threads) r.groups
  pub apart : Apart r.groups
  pub words : Everywhere (λ (s : Start). s.value < 2 ^ 32) r.given

pub sound_fresh : Sound fresh
unfolding fresh all_accesses_in
sound_fresh = record { six = omega arith; sixteen = tt; access_24 = omega arith; good = tt; groups = tt; apart = tt; words = tt }

-- ---- a line that passes
pub record Passes (r : Reading) (f : Frame) : Type 0 where
  pub is_known : known f ≡ true
  pub in_range : in_range f ≡ true
  pub in_place : in_place r f ≡ true
  pub in_limits : within_limits r f ≡ true
  pub in_front : start_fits r f ≡ true
  pub alike : alike_fits r f ≡ true

no_refusal : (t : Bool) (k n : ℕ) → cond (not t) (suc k) n ≡ 0 → (t ≡ true) × (n ≡ 0)
no_refusal true k n e = (refl, e)
no_refusal false k n e = absurd (omega arith)

pub passes : (r : Reading) (f : Frame) → frame_refusal r f ≡ 0 → Passes r f
unfolding frame_refusal
passes r f e =
    let a = no_refusal (known f) 2 _ e in
    let b = no_refusal (in_range f) 3 _ a.1 in
    let c = no_refusal (in_place r f) 4 _ b.1 in
    let d = no_refusal (within_limits r f) 5 _ c.1 in
    let h = no_refusal (start_fits r f) 39 _ d.1 in
    let g = no_refusal (alike_fits r f) 7 _ h.1 in
    record { is_known = a.0; in_range = b.0; in_place = c.0; in_limits = d.0; in_front = h.0; alike = g.0 }

-- what stands before any `02` has no groups
pub no_groups : (gs : List (List ℕ)) → eqb (length gs) 0 ≡ true → gs ≡ []
no_groups [] e = refl
no_groups (g ∷ gs) e = absurd (omega (arith, eqb-true (length (g ∷ gs)) 0 e))

pub ungrouped : (r : Reading) (f : Frame) → in_place r f ≡ true → declares f ≡ false → starts f ≡ false
    → (r.groups ≡ []) × ((opens f || ltb 0 (length r.threads)) ≡ true)
unfolding in_place
ungrouped r f e d s =
    let p = both (eqb (length r.groups) 0) (opens f || ltb 0 (length r.threads)) (second (starts f) _ (second (declares f) _ e d) s) in
    (no_groups r.groups p.0, p.1)

pub opens_declares : (f : Frame) → opens f ≡ true → declares f ≡ false
unfolding opens declares
opens_declares f o = let e = eqb-true (byte f 0) 1 o in ne_eqb (byte f 0) 2 (λ q. omega arith)

pub opens_starts : (f : Frame) → opens f ≡ true → starts f ≡ false
unfolding opens starts
opens_starts f o = let e = eqb-true (byte f 0) 1 o in ne_eqb (byte f 0) 3 (λ q. omega arith)

-- the limits of what is no `02` and no `03`
pub in_limits_of : (r : Reading) (f : Frame) → within_limits r f ≡ true → declares f ≡ false → starts f ≡ false
    → cond (opens f)
    (ltb (length r.threads) 6)
    (ltb (length (thread_at r (last_thread r))) 16 && (not (is_access f) || ltb (all_accesses_in r.threads) 24)) ≡ true
unfolding within_limits
in_limits_of r f e d s = second (starts f) _ (second (declares f) _ e d) s

-- ---- each of the four ways keeps it
sound_open : (r : Reading) (f : Frame) → Sound r → Passes r f → opens f ≡ true → declares f ≡ false
    → Sound (record { threads = r.threads ++ ([] ∷ []); groups = r.groups; given = r.given })
sound_open r f s p o d =
    let n = opens_starts f o in
    let none = (ungrouped r f p.in_place d n).0 in
    let room : length r.threads < 6 = ltb-true (length r.threads) 6 (rw o at (in_limits_of r f p.in_limits d n)) in
    record {
      six = rw (length-append r.threads ([] ∷ [])) (omega arith);
      sixteen = everywhere_append (λ (c : List Placed). length c ≤ 16) r.threads ([] ∷ []) s.sixteen (omega arith, tt);
      access_24 = rw (all_accesses_open r.threads) s.access_24;
      good = everywhere_append (Everywhere Good) r.threads ([] ∷ []) s.good (tt, tt);
      groups = rw none tt;
      apart = s.apart;
      words = s.words;
    }

sound_declare : (r : Reading) (f : Frame) → Sound r → Passes r f → declares f ≡ true
    → Sound (record { threads = r.threads; groups = r.groups ++ (drop 1 f ∷ []); given = r.given })
unfolding alike_fits thread_at declares kind kind_of lookup kinds
sound_declare r f s p d =
    let fits : members_fit r (drop 1 f) ≡ true = second (not (declares f)) _ p.alike (ap not d) in
    let m = members r (drop 1 f) fits in
    let e = eqb-true (byte f 0) 2 d in
    let in_range_lem = rw e at (known_range f p.is_known) in
    let n = length-drop 1 f in
    let one : Alike r.threads (drop 1 f) = record {
      two = omega arith;
      six = omega arith;
      ascend = m.ascend;
      exist = everywhere_weaken (λ t. member_fits r t ≡ true) (λ t. t < length r.threads) (member_exists r) (drop 1 f) m.fit;
      equal = m.equal;
    } in
    record {
      six = s.six;
      sixteen = s.sixteen;
      access_24 = s.access_24;
      good = s.good;
      groups = everywhere_append (Alike r.threads) r.groups (drop 1 f ∷ []) s.groups (one, tt);
      apart = members_apart r (drop 1 f) m s.apart;
      words = s.words;
    }

sound_start : (r : Reading) (f : Frame) → Bytes f → Sound r
    → Sound (record { threads = r.threads; groups = r.groups; given = record { location = byte f 1; value = word f 2 } ∷ r.given })
sound_start r f bytes s = record {
  six = s.six;
  sixteen = s.sixteen;
  access_24 = s.access_24;
  good = s.good;
  groups = s.groups;
  apart = s.apart;
  words = (word_below f 2 bytes, s.words);
}

-- one instruction more in the thread last opened
at_most : (t : Bool) (a b : ℕ) → (not t || ltb a 24) ≡ true → a ≤ 24 → b ≡ a + cond t 1 0 → b ≤ 24
at_most true a b l h e = omega (arith, ltb-true a 24 l)
at_most false a b l h e = omega arith

sound_place : (n : ℕ) (r : Reading) (f : Frame) → 1 ≤ n → Bytes f → Sound r → Passes r f → opens f ≡ false → declares f ≡ false → starts f ≡ false
    → Sound (record {
      threads = set r.threads (last_thread r) (thread_at r (last_thread r) ++ (record { line = n; code = f } ∷ []));
      groups = r.groups;
      given = r.given;
    })
unfolding thread_at last_thread
sound_place n r f h bytes s p o d z =
    let place = ungrouped r f p.in_place d z in
    let none = place.0 in
    let some_thread : 0 < length r.threads = ltb-true 0 (length r.threads) (second (opens f) _ place.1 o) in
    let last : ℕ = length r.threads - 1 in
    let code : List Placed = get_or r.threads last [] in
    let x : Placed = record { line = n; code = f } in
    let limits = both (ltb (length code) 16) (not (is_access f) || ltb (all_accesses_in r.threads) 24) (rw o at (in_limits_of r f p.in_limits d z)) in
    let room : length code < 16 = ltb-true (length code) 16 limits.0 in
    let new : Good x = record {
      numbered = h;
      is_instruction = record { is_known = p.is_known; opens_none = o; declares_none = d; starts_none = z };
      in_range = p.in_range;
      bytes = bytes;
    } in
    let counts = all_accesses_set r.threads last (code ++ (x ∷ [])) (omega arith) in
    let more = accesses_snoc code x in
    record {
      six = rw (length-set r.threads last (code ++ (x ∷ []))) s.six;
      sixteen = everywhere_set (λ (c : List Placed). length c ≤ 16) r.threads last (code ++ (x ∷ [])) s.sixteen (rw (length-append code (x ∷ [])) (omega arith));
      access_24 = at_most (is_access f) (all_accesses_in r.threads) _ limits.1 s.access_24 (omega arith);
      good = everywhere_set (Everywhere Good) r.threads last (code ++ (x ∷ [])) s.good
          (everywhere_append Good code (x ∷ []) (everywhere_get_d (Everywhere Good) r.threads last [] s.good tt) (new, tt));
      groups = rw none tt;
      apart = s.apart;
      words = s.words;
    }

pub sound_after : (n : ℕ) (r : Reading) (f : Frame) → 1 ≤ n → Bytes f → Sound r → frame_refusal r f ≡ 0 → Sound (after n f r)
unfolding after
sound_after n r f h bytes s e = go (opens f) refl (declares f) refl (starts f) refl
  where
    p : Passes r f
    p = passes r f e

    go : (o : Bool) → opens f ≡ o → (d : Bool) → declares f ≡ d → (z : Bool) → starts f ≡ z → Sound (after n f r)
    go true o d q z v = rw o (sound_open r f s p o (opens_declares f o))
    go false o true q z v = rw (o, q) (sound_declare r f s p q)
    go false o false q true v = rw (o, q, v) (sound_start r f bytes s)
    go false o false q false v = rw (o, q, v) (sound_place n r f h bytes s p o q v)
