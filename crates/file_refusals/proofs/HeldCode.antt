-- Threads have the same code exactly when the rows that hold it agree.
use Prim.Native.Nat.{ℕ, ◌+◌, ◌*◌, ◌/◌, ◌%◌, ◌≤◌, ◌<◌}
use native.Mathlib.Omega.{arith}
use native.Mathlib.Nat.{div-add-mod'}
use mathlib.Core.Path.{◌≡◌, refl, ◌∙◌, ap, sym}
use mathlib.Core.Bool.{true}
use mathlib.Core.List.{List, [], ◌∷◌}
use lib.Dec.{eqb}
use lib.ListN.{length, get_or, length-map, get_or-map}
use lib.Seq.{ext_get_or}
use borrow.Author.Tests.{eq-eqb, eqb-true}
use Rattle.file_refusals.specs.declared.counts.Counts.{Counts}
use Rattle.spec_file.specs.Frames.{Frame, byte}
use Rattle.spec_file.specs.Lists.{same_list}
use Rattle.spec_file.proofs.Lists.{same_list_lem}
use Rattle.spec_file.specs.Decode.{Placed, Reading, thread_at, same_bytes, same_code}
use Rattle.file_refusals.specs.Held.{code_agrees, no_instruction, frame_at, Bounded, Holds}
use Rattle.spec_file.proofs.DigitValues.{both}
use Rattle.spec_file.proofs.Tests.{equal_tests}
use Rattle.spec_file.proofs.GroupLines.{frames_of, same_frames}
use Rattle.spec_file.proofs.FrameBytes.{sizes_same}
use Rattle.file_rows.proofs.Agree.{agree_true, agree_all}

-- the same frames are the same code
frames_same : (xs ys : List Placed) → frames_of xs ≡ frames_of ys → same_code xs ys ≡ true
unfolding same_code same_bytes same_list frames_of
frames_same [] [] e = refl
frames_same [] (y ∷ ys) e = let z : ◌≡◌ {A = ℕ} 0 1 = cc in absurd (omega arith)
frames_same (x ∷ xs) [] e = let z : ◌≡◌ {A = ℕ} 0 1 = cc in absurd (omega arith)
frames_same (x ∷ xs) (y ∷ ys) e =
    let h : x.code ≡ y.code = cc in
    let t : frames_of xs ≡ frames_of ys = cc in
    rw (h, same_list_lem eqb (λ n. eq-eqb n n refl) y.code, frames_same xs ys t)

frame_map : (xs : List Placed) (i : ℕ) → get_or (frames_of xs) i [] ≡ (get_or xs i no_instruction).code
unfolding frames_of no_instruction
frame_map xs i = get_or-map (λ (x : Placed). x.code) xs i no_instruction

length_frames : (xs : List Placed) → length (frames_of xs) ≡ length xs
unfolding frames_of
length_frames xs = length-map xs (λ (x : Placed). x.code)

-- no thread that has been read is longer than 16
pub held_short : (code : List ℕ) (s : Counts) (r : Reading) → Bounded s → Holds code s r → (t : ℕ) → length (thread_at r t) ≤ 16
held_short code s r bounded held t = let b = bounded.sixteen t in let l = held.lengths t in omega arith

module _ (code : List ℕ) (s : Counts) (r : Reading) (held : Holds code s r) (t u : ℕ) where
  -- the byte at k of thread t's rows
  held_byte : (v k : ℕ) → k < 256 → get_or code (v * 256 + k) 0 ≡ byte (frame_at r v (k / 16)) (k % 16)
  held_byte v k h =
      let d = div-add-mod' k 16 in
      let i : (v * 16 + k / 16) * 16 + k % 16 ≡ v * 256 + k = omega arith in
      ap (λ (n : ℕ). get_or code n 0) (sym i) ∙ held.bytes v (k / 16) (k % 16) (omega arith) (omega arith)

  agree_same : ((v : ℕ) → length (thread_at r v) ≤ 16) → code_agrees code s.lengths t u ≡ true → same_code (thread_at r t) (thread_at r u) ≡ true
  unfolding frame_at
  agree_same short e =
      let p = both (eqb (get_or s.lengths t 0) (get_or s.lengths u 0)) _ e in
      let lt = held.lengths t in
      let lu = held.lengths u in
      let n : length (thread_at r t) ≡ length (thread_at r u) = sym lt ∙ eqb-true (get_or s.lengths t 0) (get_or s.lengths u 0) p.0 ∙ lu in
      let bytes = agree_true code (t * 256) (u * 256) (get_or s.lengths t 0 * 16) p.1 in
      let at : (v i j : ℕ) → i < 16 → j < 16 → get_or code (v * 256 + (i * 16 + j)) 0 ≡ byte (frame_at r v i) j =
      λ v i j hi hj.
      let x : (v * 16 + i) * 16 + j ≡ v * 256 + (i * 16 + j) = omega arith in
      ap (λ (k : ℕ). get_or code k 0) (sym x) ∙ held.bytes v i j hi hj in
      let frame : (i : ℕ) → i < length (thread_at r t) → frame_at r t i ≡ frame_at r u i =
      λ i h.
      let b = short t in
      sizes_same (frame_at r t i) (frame_at r u i)
      (λ j hj. sym (at t i j (omega arith) hj) ∙ bytes (i * 16 + j) (omega arith) ∙ at u i j (omega arith) hj)
      (held.frames t i h).0 (held.frames u i (omega arith)).0 (held.frames t i h).1 in
      frames_same (thread_at r t) (thread_at r u)
      (ext_get_or [] (frames_of (thread_at r t)) (frames_of (thread_at r u))
      (length_frames (thread_at r t) ∙ n ∙ sym (length_frames (thread_at r u)))
      (λ i h. frame_map (thread_at r t) i ∙ frame i (omega (arith, length_frames (thread_at r t))) ∙ sym (frame_map (thread_at r u) i)))

  same_agree : ((v : ℕ) → length (thread_at r v) ≤ 16) → same_code (thread_at r t) (thread_at r u) ≡ true → code_agrees code s.lengths t u ≡ true
  unfolding frame_at
  same_agree short e =
      let f = same_frames (thread_at r t) (thread_at r u) e in
      let lt = held.lengths t in
      let lu = held.lengths u in
      let b = short t in
      let n : get_or s.lengths t 0 ≡ get_or s.lengths u 0 = lt ∙ sym (length_frames (thread_at r t)) ∙ ap length f ∙ length_frames (thread_at r u) ∙ sym lu in
      let frame : (i : ℕ) → frame_at r t i ≡ frame_at r u i =
      λ i. sym (frame_map (thread_at r t) i) ∙ ap (λ (l : List Frame). get_or l i []) f ∙ frame_map (thread_at r u) i in
      rw (
        eq-eqb (get_or s.lengths t 0) (get_or s.lengths u 0) n,
        agree_all code (t * 256) (u * 256) (get_or s.lengths t 0 * 16) (λ k h.
            held_byte t k (omega arith) ∙ ap (λ (g : Frame). byte g (k % 16)) (frame (k / 16)) ∙ sym (held_byte u k (omega arith))),
      )

  -- the rows agree exactly when the code is the same
  pub codes_agree : ((v : ℕ) → length (thread_at r v) ≤ 16) → code_agrees code s.lengths t u ≡ same_code (thread_at r t) (thread_at r u)
  codes_agree short = equal_tests (code_agrees code s.lengths t u) (same_code (thread_at r t) (thread_at r u)) (agree_same short) (same_agree short)
