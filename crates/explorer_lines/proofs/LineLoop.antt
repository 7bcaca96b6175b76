-- The lines of listed schedules, one row after the other; how long they are; the lines of the counts and of a refusal.
use Prim.Native.Nat.{ℕ, ◌+◌, ◌-◌, ◌*◌, ◌<◌, ◌≤◌}
use mathlib.Core.Path.{◌≡◌, refl, sym, ap, subst, ◌∙◌}
use mathlib.Core.Bool.{Bool, true, false, cond}
use mathlib.Core.List.{List, [], ◌∷◌, ◌++◌, map, map-append, append_assoc}
use native.Mathlib.Numerals.{add-one}
use native.Mathlib.Omega.{arith}
use lib.ListN.{length, get_or, take, drop, length-append}
use lib.Seq.{take-suc}
use borrow.Rule.Slice.PartMut.{mid_of, put_mid}
use Rattle.spec_file.specs.Text.{text, written}
use Rattle.spec_file.specs.Over.{over}
use Rattle.spec_file.proofs.Text.{length_text}
use Rattle.spec_file.specs.Program.{Program}
use Rattle.spec_file.specs.Decode.{refused}
use Rattle.spec_file.proofs.Everywhere.{everywhere_get_d}
use Rattle.spec_schedules.specs.Lists.{filter}
use Rattle.spec_schedules.specs.Order.{Schedule}
use Rattle.spec_schedules.proofs.Kept.{filter_append}
use Rattle.spec_sc.specs.Text.{text_of}
use Rattle.graph_writer.specs.NoteText.{Wrote}
use Rattle.graph_writer.proofs.WrittenLines.{wrote_one, wrote_more}
use Rattle.spec_model.specs.Model.{failing}
use Rattle.spec_model.specs.Answers.{Counts}
use Rattle.spec_sc.specs.Sequential.{sc}
use Rattle.spec_calls.specs.Rows.{row_of}
use Rattle.listing_cursor.specs.ListRows.{Shown}
use Rattle.spec_calls.specs.Rows.{row_bytes}
use Rattle.spec_calls.specs.Printed.{bytes_of, schedule_frame, count_frame, printed_frames}
use Rattle.explorer_lines.specs.Pieces.{Short}
use Rattle.listing_cursor.proofs.RowsRead.{row_shown}
use Rattle.explorer_lines.proofs.RowText.{row_failed, frame_is}

-- ---- one line
pub frame_wrote : (f g out xs : List ℕ) (n : ℕ) → f ≡ g → n ≡ length (written f (length out)) → xs ≡ over (written f (length out)) out → Wrote (g ∷ []) out xs n
frame_wrote f g out xs n e c w = subst (λ (h : List ℕ). Wrote (h ∷ []) out xs n) e (wrote_one f out xs n c w)

-- ---- the lines of the first k rows, and of one more
module _ (p : Program) (ss : List Schedule) where
  next_schedule : (k : ℕ) → k < length ss → take (k + 1) ss ≡ take k ss ++ (get_or ss k [] ∷ [])
  next_schedule k h = ap (λ (j : ℕ). take j ss) (add-one k) ∙ take-suc ss k [] h

  next_frames : (k : ℕ) → k < length ss → map (schedule_frame p) (take (k + 1) ss) ≡ map (schedule_frame p) (take k ss) ++ (schedule_frame p (get_or ss k []) ∷ [])
  next_frames k h = ap (map (schedule_frame p)) (next_schedule k h) ∙ map-append (schedule_frame p) (take k ss) (get_or ss k [] ∷ [])

  kept_one : (g : Schedule → Bool) (s : Schedule) (b : Bool) → g s ≡ b → length (filter g (s ∷ [])) ≡ cond b 1 0
  unfolding filter
  kept_one g s true e = rw (e, filter)
  kept_one g s false e = rw (e, filter)

  next_failed : (k : ℕ) → k < length ss → length (filter (failing sc p) (take (k + 1) ss)) ≡ length (filter (failing sc p) (take k ss)) + cond (failing sc p (get_or ss k [])) 1 0
  next_failed k h =
      ap (λ (l : List Schedule). length (filter (failing sc p) l)) (next_schedule k h)
      ∙ ap length (filter_append (failing sc p) (take k ss) (get_or ss k [] ∷ []))
      ∙ length-append (filter (failing sc p) (take k ss)) (filter (failing sc p) (get_or ss k [] ∷ []))
      ∙ ap (λ (j : ℕ). length (filter (failing sc p) (take k ss)) + j) (kept_one (failing sc p) (get_or ss k []) (failing sc p (get_or ss k [])) refl)

  pub lines_more : (held rows out xs ys row : List ℕ) (n k at m failed : ℕ) → Shown sc p ss held rows n → Short ss → k < n
      → (Wrote (map (schedule_frame p) (take k ss)) out xs at) × (failed ≡ length (filter (failing sc p) (take k ss)))
      → row ≡ take 26 (drop (k * 26) rows)
      → ((s : Schedule) (f : Bool) → row ≡ row_bytes 24 s f → length s ≤ 24 → Wrote ((0x50 ∷ cond f 1 0 ∷ s) ∷ []) (mid_of at (length xs - at) xs) ys m)
      → (Wrote (map (schedule_frame p) (take (k + 1) ss)) out (put_mid at (length xs - at) xs ys) (at + m)) × (failed + get_or row 1 0 ≡ length (filter (failing sc p) (take (k + 1) ss)))
  unfolding row_of
  lines_more held rows out xs ys row n k at m failed w short h so e line =
      let s : Schedule = get_or ss k [] in
      let b : k < length ss = omega (arith, w.counted) in
      let r : row ≡ row_bytes 24 s (failing sc p s) = e ∙ row_shown 24 (failing sc p) ss held rows n w k h in
      let wrote = line s (failing sc p s) r (everywhere_get_d (λ s. length s ≤ 24) ss k [] short (omega arith)) in (
        wrote_more (map (schedule_frame p) (take k ss)) (schedule_frame p s ∷ []) (map (schedule_frame p) (take (k + 1) ss)) out xs ys at m (next_frames k b) so.0
            (subst (λ (f : List ℕ). Wrote (f ∷ []) (mid_of at (length xs - at) xs) ys m) (frame_is p s) wrote),
        ap (λ (j : ℕ). j + get_or row 1 0) so.1 ∙ ap (λ (j : ℕ). length (filter (failing sc p) (take k ss)) + j) (row_failed s (failing sc p s) row r) ∙ sym (next_failed k b),
      )

-- ---- how long the lines are
frame_length : (p : Program) (s : Schedule) → length s ≤ 24 → length (text (schedule_frame p s)) ≤ 53
unfolding schedule_frame
frame_length p s h = omega (arith, length_text (schedule_frame p s))

pub lines_length : (p : Program) (ss : List Schedule) → Short ss → length (text_of (map (schedule_frame p) ss)) ≤ 53 * length ss
unfolding text_of
lines_length p [] short = omega arith
lines_length p (s ∷ ss) short =
    omega (arith, length-append (text (schedule_frame p s)) (text_of (map (schedule_frame p) ss)), frame_length p s short.0, lines_length p ss short.1)

pub text_append : (fs gs : List (List ℕ)) → text_of (fs ++ gs) ≡ text_of fs ++ text_of gs
unfolding text_of
text_append [] gs = refl
text_append (f ∷ fs) gs = ap (λ (l : List ℕ). text f ++ l) (text_append fs gs) ∙ sym (append_assoc (text f) (text_of fs) (text_of gs))

-- a line has at least one byte
pub lines_some : (p : Program) (ss : List Schedule) → length ss ≤ length (text_of (map (schedule_frame p) ss))
unfolding text_of
lines_some p [] = omega arith
lines_some p (s ∷ ss) = omega (arith, length-append (text (schedule_frame p s)) (text_of (map (schedule_frame p) ss)), length_text (schedule_frame p s), lines_some p ss)

pub count_length : (c : Counts) → length (text_of (count_frame c ∷ [])) ≡ 35
unfolding text_of count_frame bytes_of
count_length c = length-append (text (count_frame c)) [] ∙ ap (λ (j : ℕ). j + 0) (length_text (count_frame c)) ∙ refl

pub refusal_length : (n k : ℕ) → length (text_of (printed_frames (refused n k))) ≡ 9
unfolding text_of printed_frames bytes_of
refusal_length n k = let f : List ℕ = 0x52 ∷ n ∷ bytes_of 2 k in length-append (text f) [] ∙ ap (λ (j : ℕ). j + 0) (length_text f) ∙ refl
