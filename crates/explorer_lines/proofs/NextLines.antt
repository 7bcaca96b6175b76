-- The next piece: the lines of the next 256 listed schedules, or of all that are left with the line of the counts.
use Prim.Native.Nat.{ℕ, zero, suc, ◌+◌, ◌-◌, ◌/◌, ◌<◌, ◌≤◌, ◌^◌}
use mathlib.Core.Path.{◌≡◌, refl, sym, ap, ap₂, subst, ◌∙◌}
use mathlib.Core.Bool.{true, false, false≢true}
use mathlib.Core.List.{List, [], ◌∷◌, ◌++◌, map, map-append, append_assoc, append-nil}
use native.Mathlib.Omega.{arith}
use lib.ListN.{length, take, length-append, length-take}
use borrow.Rule.Slice.PartMut.{mid_of, put_mid}
use Rattle.spec_file.proofs.Over.{take_over, length_over}
use Rattle.spec_file.specs.Program.{Program}
use Rattle.spec_file.specs.WellFormed.{Everywhere}
use Rattle.file_decoder.specs.Compiled.{program_of}
use Rattle.spec_file.specs.Decode.{refused}
use Rattle.spec_file.specs.declared.refusal.Refusal.{Refusal}
use Rattle.spec_file.proofs.Everywhere.{everywhere_all}
use Rattle.spec_schedules.specs.Lists.{filter}
use Rattle.spec_schedules.specs.Order.{Schedule}
use Rattle.spec_schedules.proofs.Kept.{filter_length, filter_append}
use Rattle.spec_sc.specs.Text.{text_of}
use Rattle.graph_writer.specs.NoteText.{Wrote}
use Rattle.graph_writer.proofs.WrittenLines.{wrote_whole, wrote_more}
use Rattle.spec_model.specs.Model.{failing}
use Rattle.spec_model.specs.Answers.{Counts}
use Rattle.spec_model.specs.Search.{sought}
use Rattle.spec_sc.specs.Sequential.{sc}
use Rattle.spec_sc.proofs.Laws.{sc_laws}
use Rattle.listing_cursor.specs.declared.cursor.Page.{Page}
use Rattle.listing_cursor.specs.ListRows.{Shown}
use Rattle.listing_cursor.specs.ListRows.{remaining, Paged}
use Rattle.listing_cursor.specs.Cursor.{is_end}
use Rattle.listing_cursor.proofs.ListPages.{remaining_fits}
use Rattle.listing_cursor.proofs.CursorLaws.{from_end}
use Rattle.listing_cursor.proofs.PageLaws.{page_split}
use Rattle.spec_calls.specs.Printed.{schedule_frame, count_frame, printed_frames}
use Rattle.explorer_lines.specs.declared.pieces.Walk.{Walk}
use Rattle.explorer_lines.specs.declared.pieces.Listing.{Listing}
use Rattle.explorer_lines.specs.declared.pieces.Listing.TheVariants.{Refused, Walking, Ended}
use Rattle.explorer_lines.specs.Pieces.{Short, left, counts, frames_left, rest, Ready, Next}
use Rattle.explorer_lines.proofs.LineLoop.{lines_length, text_append, lines_some, count_length, refusal_length}

-- ---- what stands in front of the buffer
-- the text of these frames, where it fits
pub wrote_front : (fs : List (List ℕ)) (out xs : List ℕ) (n : ℕ) → length (text_of fs) ≤ length out → Wrote fs out xs n → (n ≤ length xs) × (take n xs ≡ text_of fs) × (n ≡ length (text_of fs))
wrote_front fs out xs n h w =
    let e = wrote_whole fs out xs n h w in
    let k : length xs ≡ length out = ap length e.1 ∙ length_over (text_of fs) out h in
    (omega (arith, e.0), ap₂ (λ (j : ℕ) (l : List ℕ). take j l) e.0 e.1 ∙ take_over (text_of fs) out, e.0)

-- ---- where nothing comes behind
-- all that was left is handed over
pub next_last : (s : Listing) (t : List ℕ) → t ≡ rest s → Next s t Ended
unfolding rest frames_left text_of
next_last s t q = record { sound = tt; text = sym q ∙ sym (append-nil t); ends = λ n. sym q ∙ n }

pub next_none : Next Ended [] Ended
unfolding rest frames_left text_of
next_none = next_last Ended [] refl

pub next_refusal : (r : Refusal) (out xs : List ℕ) (m : ℕ) → 13603 ≤ length out → Wrote (printed_frames (refused r.number r.place)) out xs m
    → (m ≤ length xs) × Next (Refused r) (take m xs) Ended
unfolding rest frames_left
next_refusal r out xs m room w =
    let f = wrote_front (printed_frames (refused r.number r.place)) out xs m (omega (arith, refusal_length r.number r.place)) w in
    (f.0, next_last (Refused r) (take m xs) f.1)

-- ---- the walk
-- some of a list
everywhere_take : {A : Type 0} (P : A → Type 0) (n : ℕ) (l : List A) → Everywhere P l → Everywhere P (take n l)
everywhere_take P zero l h = tt
everywhere_take P (suc n) [] h = tt
everywhere_take P (suc n) (x ∷ l) h = (h.0, everywhere_take P n l h.1)

-- listed schedules have at most 24 steps
pub short_left : (w : Walk) → Ready w → Short (take 256 (left w))
unfolding left
short_left w r =
    let l : List Schedule = remaining sc (program_of w.program) false w.cursor in
    everywhere_take (λ x. length x ≤ 24) 256 l (everywhere_all (λ x. length x ≤ 24) l (remaining_fits sc sc_laws (program_of w.program) (r.well_formed, refl) false w.cursor))

module _ (w : Walk) (r : Ready w) (held rows : List ℕ) (page : Page) (size : length held ≡ 6656)
    (paged : Paged sc (program_of w.program) false w.cursor held rows page) where
  abbrev p : Program
  p = program_of w.program

  abbrev n : ℕ
  n = page.rows

  abbrev next256 : List Schedule
  next256 = take 256 (left w)

  most : length held / 26 ≡ 256
  most = rw size refl

  -- the rows are of the next 256 that are left
  pub shown_left : Shown sc p next256 held rows n
  unfolding left
  shown_left = subst (λ (k : ℕ). Shown sc p (take k (remaining sc p false w.cursor)) held rows n) most paged.shown

  -- what is left is the next 256 schedules, and then what the next cursor has yet to come
  split_left : left w ≡ next256 ++ remaining sc p false page.cursor
  unfolding left
  split_left =
      page_split 24 (failing sc p) (sought sc false p) w.cursor held rows page paged
      ∙ ap (λ (k : ℕ). take k (remaining sc p false w.cursor) ++ remaining sc p false page.cursor) most

  pub few_rows : n ≤ 256
  few_rows = omega (arith, shown_left.counted, length-take 256 (left w))

  pub listed_fits : w.listed + n < 2 ^ 64
  listed_fits = omega (arith, shown_left.counted, length-take 256 (left w), r.fits)

  pub failed_fits : (m : ℕ) → m ≡ length (filter (failing sc p) next256) → w.failed + m ≤ w.listed + n
  failed_fits m e = omega (arith, shown_left.counted, r.few, filter_length (failing sc p) next256)

  -- at the end these are all that are left, and the counts come behind them
  all_left : is_end page.cursor ≡ true → next256 ≡ left w
  all_left e = sym (split_left ∙ ap (λ (l : List Schedule). next256 ++ l) (from_end (sought sc false p) page.cursor e) ∙ append-nil next256)

  pub next_counts : (out xs ys : List ℕ) (at m failed : ℕ) → 13603 ≤ length out → is_end page.cursor ≡ true
      → Wrote (map (schedule_frame p) next256) out xs at → failed ≡ length (filter (failing sc p) next256)
      → Wrote (count_frame (record { listed = w.listed + n; failed = w.failed + failed }) ∷ []) (mid_of at (length xs - at) xs) ys m
      → (at + m ≤ length (put_mid at (length xs - at) xs ys)) × Next (Walking w) (take (at + m) (put_mid at (length xs - at) xs ys)) Ended
  unfolding counts rest frames_left
  next_counts out xs ys at m failed room h wrote ef counted =
      let a = all_left h in
      let en : n ≡ length (left w) = shown_left.counted ∙ ap length a in
      let c : count_frame (record { listed = w.listed + n; failed = w.failed + failed }) ≡ count_frame (counts w) =
      ap₂ (λ (i j : ℕ). count_frame (record { listed = w.listed + i; failed = w.failed + j })) en (ef ∙ ap (λ (l : List Schedule). length (filter (failing sc p) l)) a) in
      let fs : List (List ℕ) = map (schedule_frame p) next256 ++ (count_frame (counts w) ∷ []) in
      let all : Wrote fs out (put_mid at (length xs - at) xs ys) (at + m) =
      wrote_more (map (schedule_frame p) next256) (count_frame (counts w) ∷ []) fs out xs ys at m refl wrote
      (subst (λ (f : List ℕ). Wrote (f ∷ []) (mid_of at (length xs - at) xs) ys m) c counted) in
      let long : length (text_of fs) ≤ length out =
      omega (arith, ap length (text_append (map (schedule_frame p) next256) (count_frame (counts w) ∷ [])), length-append (text_of (map (schedule_frame p) next256)) (text_of (count_frame (counts w) ∷ [])), lines_length p next256 (short_left w r), count_length (counts w), shown_left.counted, few_rows) in
      let f = wrote_front fs out (put_mid at (length xs - at) xs ys) (at + m) long all in (
        f.0,
        next_last (Walking w) (take (at + m) (put_mid at (length xs - at) xs ys))
            (f.1 ∙ ap (λ (l : List Schedule). text_of (map (schedule_frame p) l ++ (count_frame (counts w) ∷ []))) a),
      )

  -- where the next cursor is not at the end, the rest is what it has yet to come
  module _ (more : is_end page.cursor ≡ false) (failed : ℕ) (ef : failed ≡ length (filter (failing sc p) next256)) where
    all_256 : length next256 ≡ 256
    all_256 =
        let full : (n < length held / 26) → ⊥ = λ h. false≢true (sym more ∙ paged.ends h) in
        omega (arith, shown_left.counted, few_rows, full, most)

    abbrev behind : List Schedule
    behind = remaining sc p false page.cursor

    -- where the walk stands behind the page
    abbrev pub gone_on : Walk
    gone_on = record { program = w.program; cursor = page.cursor; listed = w.listed + n; failed = w.failed + failed }

    counts_same : counts gone_on ≡ counts w
    unfolding counts left
    counts_same =
        let a : length (left w) ≡ n + length behind = ap length split_left ∙ length-append next256 behind ∙ omega (arith, shown_left.counted) in
        let b : length (filter (failing sc p) (left w)) ≡ failed + length (filter (failing sc p) behind) =
        ap (λ (l : List Schedule). length (filter (failing sc p) l)) split_left ∙ ap length (filter_append (failing sc p) next256 behind)
        ∙ length-append (filter (failing sc p) next256) (filter (failing sc p) behind)
        ∙ ap (λ (i : ℕ). i + length (filter (failing sc p) behind)) (sym ef) in
        ap₂ (λ (i j : ℕ). record { listed = i; failed = j }) (omega (arith, a)) (omega (arith, b))

    listed_same : gone_on.listed + length (left gone_on) ≡ w.listed + length (left w)
    unfolding counts
    listed_same = ap (λ (c : Counts). c.listed) counts_same

    ready : Ready gone_on
    ready = record {
      well_formed = r.well_formed;
      fits = omega (arith, listed_same, r.fits);
      few = failed_fits failed ef;
    }

    pub next_more : (out xs : List ℕ) (at : ℕ) → 13603 ≤ length out → Wrote (map (schedule_frame p) next256) out xs at
        → (at ≤ length xs) × Next (Walking w) (take at xs) (Walking gone_on)
    unfolding rest frames_left left
    next_more out xs at room wrote =
        let f = wrote_front (map (schedule_frame p) next256) out xs at (omega (arith, lines_length p next256 (short_left w r), all_256)) wrote in
        let q : rest (Walking gone_on) ≡ text_of (map (schedule_frame p) behind ++ (count_frame (counts w) ∷ [])) =
        ap (λ (c : Counts). text_of (map (schedule_frame p) behind ++ (count_frame c ∷ []))) counts_same in (
          f.0,
          record {
            sound = ready;
            text = ap (λ (l : List Schedule). text_of (map (schedule_frame p) l ++ (count_frame (counts w) ∷ []))) split_left
                ∙ ap (λ (l : List (List ℕ)). text_of (l ++ (count_frame (counts w) ∷ []))) (map-append (schedule_frame p) next256 behind)
                ∙ ap text_of (append_assoc (map (schedule_frame p) next256) (map (schedule_frame p) behind) (count_frame (counts w) ∷ []))
                ∙ text_append (map (schedule_frame p) next256) (map (schedule_frame p) behind ++ (count_frame (counts w) ∷ []))
                ∙ ap₂ (λ (a b : List ℕ). a ++ b) (sym f.1) (sym q);
            ends = λ e. absurd (omega (arith, lines_some p next256, all_256, ap length (sym f.1 ∙ e)));
          },
        )
