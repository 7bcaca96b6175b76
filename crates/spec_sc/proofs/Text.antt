-- A graph's text says all of it: two graphs of as many threads, whose numbers are bytes, have different texts if they differ.
use Prim.Native.Nat.{ℕ, suc, ◌+◌, ◌<◌, ◌≤◌}
use mathlib.Core.Path.{◌≡◌, refl, sym, ap, ◌∙◌}
use mathlib.Core.List.{List, [], ◌∷◌, ◌++◌, append_cancel_left, map, reverse, Memᴰ}
use native.Mathlib.Omega.{arith}
use lib.ListN.{length, get_or, take, length-append}
use Rattle.spec_file.proofs.FrameTerms.{Bytes}
use Rattle.spec_file.specs.Frame.{pairs}
use Rattle.spec_file.specs.Text.{digits, text}
use Rattle.spec_file.specs.Split.{line_length}
use Rattle.spec_file.proofs.RoundTrip.{pairs_digits, take_text}
use Rattle.spec_file.proofs.Text.{length_text}
use Rattle.spec_file.specs.WellFormed.{Everywhere}
use Rattle.spec_sc.specs.State.{Event}
use Rattle.spec_sc.specs.Graph.{Graph}
use Rattle.spec_sc.specs.Text.{read_frame, read_frames, event_bytes, write_frame, write_frames, frames, text_of, graph_text}
use Rattle.spec_file.proofs.Everywhere.{everywhere_all, everywhere_append}
use Rattle.spec_sc.proofs.Everywhere.{everywhere_reverse}
use Rattle.spec_sc.proofs.Frames.{frames_injective}

-- both numbers of an event are bytes
abbrev pub EventByte : Event → Type 0
EventByte e = (e.0 < 256) × (e.1 < 256)

-- all three of a read's are
abbrev pub ReadByte : ℕ × Event → Type 0
ReadByte r = (r.0 < 256) × EventByte r.1

-- a graph of n threads and eight locations whose numbers are bytes
pub record Printable (n : ℕ) (g : Graph) : Type 0 where
  pub rows : length g.reads ≡ n
  pub eight : length g.writes ≡ 8
  pub few : n ≤ 256
  pub reads : (t : ℕ) (r : ℕ × Event) → Memᴰ r (get_or g.reads t []) → ReadByte r
  pub writes : (l : ℕ) (e : Event) → Memᴰ e (get_or g.writes l []) → EventByte e

-- different frames of bytes, different texts
pub text_frames : (fs gs : List (List ℕ)) → Everywhere Bytes fs → Everywhere Bytes gs → text_of fs ≡ text_of gs → fs ≡ gs
unfolding text_of
text_frames [] [] hf hg e = refl
text_frames [] (g ∷ gs) hf hg e = absurd (omega (arith, ap length e, length-append (text g) (text_of gs), length_text g))
text_frames (f ∷ fs) [] hf hg e = absurd (omega (arith, ap length e, length-append (text f) (text_of fs), length_text f))
text_frames (f ∷ fs) (g ∷ gs) hf hg e =
    let d : digits f ≡ digits g = sym (take_text f (text_of fs)) ∙ ap (λ (l : List ℕ). take (line_length l) l) e ∙ take_text g (text_of gs) in
    let q : f ≡ g = sym (pairs_digits f hf.0) ∙ ap pairs d ∙ pairs_digits g hg.0 in
    let r = text_frames fs gs hf.1 hg.1 (append_cancel_left (text f) (text_of fs) (text_of gs) (e ∙ ap (λ (k : List ℕ). text k ++ text_of gs) (sym q))) in
    ap (λ (k : List ℕ). k ∷ fs) q ∙ ap (λ (k : List (List ℕ)). g ∷ k) r

-- a printable graph has frames of bytes
row_bytes : (t : ℕ) → t < 256 → (rs : List (ℕ × Event)) → Everywhere ReadByte rs → Everywhere Bytes (map (read_frame t) rs)
unfolding read_frame
row_bytes t h [] b = tt
row_bytes t h (r ∷ rs) b = ((omega arith, (h, (b.0.0, (b.0.1.0, (b.0.1.1, tt))))), row_bytes t h rs b.1)

reads_bytes : (rows : List (List (ℕ × Event))) (t : ℕ) → t + length rows ≤ 256 → ((k : ℕ) (r : ℕ × Event) → Memᴰ r (get_or rows k []) → ReadByte r) → Everywhere Bytes (read_frames t rows)
unfolding read_frames
reads_bytes [] t h b = tt
reads_bytes (rs ∷ rows) t h b =
    everywhere_append Bytes (map (read_frame t) (reverse rs)) (read_frames (suc t) rows)
    (row_bytes t (omega arith) (reverse rs) (everywhere_reverse ReadByte rs (everywhere_all ReadByte rs (b 0))))
    (reads_bytes rows (suc t) (omega arith) (λ k. b (suc k)))

event_bytes_lem : (es : List Event) → Everywhere EventByte es → Bytes (event_bytes es)
unfolding event_bytes
event_bytes_lem [] b = tt
event_bytes_lem (e ∷ es) b = (b.0.0, (b.0.1, event_bytes_lem es b.1))

cell_bytes : (l : ℕ) → l < 256 → (ws : List Event) → Everywhere EventByte ws → Everywhere Bytes (write_frame l ws)
unfolding write_frame
cell_bytes l h [] b = tt
cell_bytes l h (e ∷ es) b = ((omega arith, (h, event_bytes_lem (reverse (e ∷ es)) (everywhere_reverse EventByte (e ∷ es) b))), tt)

writes_bytes : (rows : List (List Event)) (l : ℕ) → l + length rows ≤ 256 → ((k : ℕ) (e : Event) → Memᴰ e (get_or rows k []) → EventByte e) → Everywhere Bytes (write_frames l rows)
unfolding write_frames
writes_bytes [] l h b = tt
writes_bytes (ws ∷ rows) l h b =
    everywhere_append Bytes (write_frame l ws) (write_frames (suc l) rows)
    (cell_bytes l (omega arith) ws (everywhere_all EventByte ws (b 0)))
    (writes_bytes rows (suc l) (omega arith) (λ k. b (suc k)))

pub frames_bytes : (n : ℕ) (g : Graph) → Printable n g → Everywhere Bytes (frames g)
unfolding frames
frames_bytes n g p =
    everywhere_append Bytes (read_frames 0 g.reads) (write_frames 0 g.writes)
    (reads_bytes g.reads 0 (omega (arith, p.rows, p.few)) p.reads) (writes_bytes g.writes 0 (omega (arith, p.eight)) p.writes)

-- GRAPH TO TEXT IS INJECTIVE
pub text_injective : (n : ℕ) (g h : Graph) → Printable n g → Printable n h → graph_text g ≡ graph_text h → g ≡ h
unfolding graph_text
text_injective n g h p q e = frames_injective g h (p.rows ∙ sym q.rows) (p.eight ∙ sym q.eight) (text_frames (frames g) (frames h) (frames_bytes n g p) (frames_bytes n h q) e)
