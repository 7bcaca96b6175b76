-- The program that was read is well formed, if no skip goes beyond its thread's end.
use Prim.Native.Nat.{ℕ, ◌≤◌, ◌<◌, ◌^◌}
use native.Mathlib.Omega.{arith}
use mathlib.Core.Path.{◌≡◌, refl, sym, ap, ◌∙◌}
use mathlib.Core.Bool.{Bool, true, false, cond}
use mathlib.Core.List.{List, [], ◌∷◌, map, map-map}
use lib.ListN.{length, get_or, length-map, get_or-map}
use lib.Dec.{eqb, ltb}
use borrow.Author.Tests.{eqb-true, eqb-false, ltb-false}
use Rattle.spec_file.specs.declared.instruction.Instruction.{Instruction}
use Rattle.spec_file.specs.Program.{code_of}
use Rattle.spec_file.specs.Frames.{skip_of, instruction}
use Rattle.spec_file.specs.Decode.{Placed, Start, Reading, value_at, far_skip, first_far_skip, locations, program_in}
use Rattle.spec_file.specs.WellFormed.{Everywhere, InRange, SkipsInside, Group, WellFormed}
use Rattle.spec_file.proofs.Everywhere.{everywhere_weaken, everywhere_map}
use Rattle.spec_file.proofs.InstructionFrames.{IsInstruction, most_skipped_lem}
use Rattle.spec_file.proofs.InstructionRanges.{instruction_in_range}
use Rattle.spec_file.proofs.AccessCounts.{all_accesses_same}
use Rattle.spec_file.proofs.GroupLines.{frames_of}
use Rattle.spec_file.proofs.Sound.{Good, Alike, Sound}

-- the instructions of a thread
unfoldable instructions_of : List Placed → List Instruction
instructions_of xs = map (λ x. instruction x.code) xs

-- no skip goes beyond its thread's end
skips_inside : (xs : List Placed) → Everywhere Good xs → far_skip xs ≡ 0 → SkipsInside (instructions_of xs)
unfolding far_skip instructions_of
skips_inside [] g e = tt
skips_inside (x ∷ xs) g e = go (ltb (length xs) (skip_of x.code)) refl (λ k. skips_inside xs g.1 k)
  where
    go : (t : Bool) → ltb (length xs) (skip_of x.code) ≡ t → (far_skip xs ≡ 0 → SkipsInside (instructions_of xs))
        → SkipsInside (instructions_of (x ∷ xs))
    go true q later = let z : x.line ≡ 0 = rw (q, far_skip) at e in absurd (omega (arith, g.0.numbered))
    go false q later =
        let k : far_skip xs ≡ 0 = rw (q, far_skip) at e in
        let n = length-map xs (λ x. instruction x.code) in
        let fits : skip_of x.code ≤ length xs = ltb-false (length xs) (skip_of x.code) q in
        (omega (arith, most_skipped_lem x.code g.0.is_instruction), later k)

all_skips_inside : (cs : List (List Placed)) → Everywhere (Everywhere Good) cs → first_far_skip cs ≡ 0 → Everywhere SkipsInside (map instructions_of cs)
unfolding first_far_skip
all_skips_inside [] g e = tt
all_skips_inside (c ∷ cs) g e = go (eqb (far_skip c) 0) refl (λ k. all_skips_inside cs g.1 k)
  where
    go : (t : Bool) → eqb (far_skip c) 0 ≡ t → (first_far_skip cs ≡ 0 → Everywhere SkipsInside (map instructions_of cs))
        → Everywhere SkipsInside (map instructions_of (c ∷ cs))
    go true q later = (skips_inside c g.0 (eqb-true (far_skip c) 0 q), later (rw (q, first_far_skip) at e))
    go false q later = let z : far_skip c ≡ 0 = rw (q, first_far_skip) at e in absurd (eqb-false (far_skip c) 0 q z)

ranges : (xs : List Placed) → Everywhere Good xs → Everywhere InRange (instructions_of xs)
unfolding instructions_of
ranges xs g =
    everywhere_map Good InRange (λ x. instruction x.code)
    (λ x h. instruction_in_range x.code h.is_instruction h.bytes h.in_range)
    xs g

all_instructions : (cs : List (List Placed)) → Everywhere (Everywhere Good) cs → Everywhere (Everywhere (λ x. IsInstruction x.code)) cs
all_instructions cs g =
    everywhere_weaken (Everywhere Good) (Everywhere (λ x. IsInstruction x.code))
    (λ c. everywhere_weaken Good (λ x. IsInstruction x.code) (λ x h. h.is_instruction) c)
    cs g

short : (c : List Placed) → length c ≤ 16 → length (instructions_of c) ≤ 16
unfolding instructions_of
short c h = omega (arith, length-map c (λ x. instruction x.code))

-- threads of equal frames have equal code
equal_code : (cs : List (List Placed)) (t u : ℕ) → frames_of (get_or cs t []) ≡ frames_of (get_or cs u [])
    → get_or (map instructions_of cs) t [] ≡ get_or (map instructions_of cs) u []
unfolding frames_of instructions_of
equal_code cs t u e =
    get_or-map instructions_of cs t []
    ∙ sym (map-map instruction (λ (x : Placed). x.code) (get_or cs t []))
    ∙ ap (map instruction) e
    ∙ map-map instruction (λ (x : Placed). x.code) (get_or cs u [])
    ∙ sym (get_or-map instructions_of cs u [])

alike_group : (r : Reading) (g : List ℕ) → Alike r.threads g → Group (program_in r) g
unfolding program_in code_of instructions_of
alike_group r g a =
    record {
      two = a.two;
      six = a.six;
      ascend = a.ascend;
      exist = rw (length-map r.threads instructions_of) a.exist;
      equal = λ t u mt mu. equal_code r.threads t u (a.equal t u mt mu);
    }

-- starting values are words, where no line is for a location too
value_word : (l : ℕ) (ss : List Start) → Everywhere (λ (s : Start). s.value < 2 ^ 32) ss → value_at l ss < 2 ^ 32
unfolding value_at
value_word l [] h = omega arith
value_word l (s ∷ ss) h = go (eqb l s.location) (value_word l ss h.1)
  where
    go : (b : Bool) → value_at l ss < 2 ^ 32 → cond b s.value (value_at l ss) < 2 ^ 32
    go true k = h.0
    go false k = k

pub sound_well_formed : (r : Reading) → Sound r → first_far_skip r.threads ≡ 0 → WellFormed (program_in r)
unfolding program_in instructions_of
sound_well_formed r s e =
    let n = length-map r.threads instructions_of in
    record {
      six = omega (arith, s.six);
      sixteen = everywhere_map (λ (c : List Placed). length c ≤ 16) (λ (c : List Instruction). length c ≤ 16) instructions_of short r.threads s.sixteen;
      access_24 = rw (all_accesses_same r.threads (all_instructions r.threads s.good)) s.access_24;
      ranges = everywhere_map (Everywhere Good) (Everywhere InRange) instructions_of ranges r.threads s.good;
      skips = all_skips_inside r.threads s.good e;
      groups = everywhere_weaken (Alike r.threads) (Group (program_in r)) (alike_group r) r.groups s.groups;
      apart = s.apart;
      eight = refl;
      words = everywhere_map (λ (l : ℕ). l ≤ 7) (λ v. v < 2 ^ 32) (λ l. value_at l r.given) (λ l b. value_word l r.given s.words)
          locations (omega arith, (omega arith, (omega arith, (omega arith, (omega arith, (omega arith, (omega arith, (omega arith, tt))))))));
    }
