-- Lines written one after the other, each into the part of the buffer behind the last.
use Prim.Native.Nat.{ℕ, ◌+◌, ◌-◌, ◌≤◌}
use native.Mathlib.Omega.{arith}
use mathlib.Core.Path.{◌≡◌, refl, sym, ap, ap₂, ◌∙◌}
use mathlib.Core.List.{List, [], ◌∷◌, ◌++◌, append-nil, append_assoc}
use lib.ListN.{length, length-append}
use borrow.Rule.Slice.PartMut.{mid_of, put_mid, mid_len}
use Rattle.spec_file.specs.Text.{text, written}
use Rattle.spec_file.specs.Over.{over}
use Rattle.spec_file.proofs.Text.{length_text, written_fits, length_written}
use Rattle.spec_file.proofs.Over.{over_nil, length_over, over_part}
use Rattle.spec_sc.specs.Text.{text_of}
use Rattle.graph_writer.specs.NoteText.{written_lines, Wrote}

-- what is written fits
pub written_within : (fs : List (List ℕ)) (room : ℕ) → length (written_lines fs room) ≤ room
unfolding written_lines
written_within [] room = omega arith
written_within (f ∷ fs) room = omega (arith, length-append (written f room) (written_lines fs (room - length (written f room))), length_written f room, written_within fs (room - length (written f room)))

-- some lines, then others where there is room left
pub written_append : (fs gs : List (List ℕ)) (room : ℕ) → written_lines (fs ++ gs) room ≡ written_lines fs room ++ written_lines gs (room - length (written_lines fs room))
unfolding written_lines
written_append [] gs room = let e : room ≡ room - 0 = omega arith in ap (written_lines gs) e
written_append (f ∷ fs) gs room =
    let w = written f room in
    let r = room - length w in
    let n = length-append w (written_lines fs r) in
    let e : r - length (written_lines fs r) ≡ room - length (w ++ written_lines fs r) = omega arith in
    ap (λ (k : List ℕ). w ++ k) (written_append fs gs r)
    ∙ sym (append_assoc w (written_lines fs r) (written_lines gs (r - length (written_lines fs r))))
    ∙ ap (λ (k : ℕ). (w ++ written_lines fs r) ++ written_lines gs k) e

-- all lines, where the whole text fits
pub written_whole : (fs : List (List ℕ)) (room : ℕ) → length (text_of fs) ≤ room → written_lines fs room ≡ text_of fs
unfolding written_lines text_of
written_whole [] room h = refl
written_whole (f ∷ fs) room h =
    let a = length-append (text f) (text_of fs) in
    let w = written_fits f room (omega (arith, length_text f)) in
    ap₂ (λ (x : List ℕ) (y : ℕ). x ++ written_lines fs y) w (ap (λ (x : List ℕ). room - length x) w)
    ∙ ap (λ (k : List ℕ). text f ++ k) (written_whole fs (room - length (text f)) (omega arith))

-- ---- a buffer
pub wrote_none : (l : List ℕ) → Wrote [] l l 0
unfolding written_lines
wrote_none l = record { count = refl; content = sym (over_nil l) }

pub wrote_one : (f l xs : List ℕ) (n : ℕ) → n ≡ length (written f (length l)) → xs ≡ over (written f (length l)) l → Wrote (f ∷ []) l xs n
unfolding written_lines
wrote_one f l xs n c e = let q = append-nil (written f (length l)) in record { count = rw q c; content = rw q e }

pub wrote_within : (fs : List (List ℕ)) (l xs : List ℕ) (n : ℕ) → Wrote fs l xs n → (n ≤ length l) × (length xs ≡ length l)
wrote_within fs l xs n w =
    let h = written_within fs (length l) in
    (omega (arith, w.count), ap length w.content ∙ length_over (written_lines fs (length l)) l h)

-- more lines, in the part behind the last
pub wrote_more : (fs gs hs : List (List ℕ)) (l xs ys : List ℕ) (a b : ℕ) → hs ≡ fs ++ gs → Wrote fs l xs a → Wrote gs (mid_of a (length xs - a) xs) ys b →
    Wrote hs l (put_mid a (length xs - a) xs ys) (a + b)
wrote_more fs gs hs l xs ys a b q v w =
    let h = wrote_within fs l xs a v in
    let room : length (mid_of a (length xs - a) xs) ≡ length l - length (written_lines fs (length l)) = mid_len a (length xs) xs (omega arith) ∙ omega (arith, v.count, h.1) in
    let e : written_lines hs (length l) ≡ written_lines fs (length l) ++ written_lines gs (length (mid_of a (length xs - a) xs)) =
    ap (λ (k : List (List ℕ)). written_lines k (length l)) q ∙ written_append fs gs (length l)
    ∙ ap (λ (k : ℕ). written_lines fs (length l) ++ written_lines gs k) (sym room) in
    record {
      count = omega (arith, v.count, w.count, ap length e, length-append (written_lines fs (length l)) (written_lines gs (length (mid_of a (length xs - a) xs))));
      content = over_part (written_lines fs (length l)) (written_lines gs (length (mid_of a (length xs - a) xs))) l xs ys a v.content (sym v.count) (written_within fs (length l)) w.content
          ∙ ap (λ (k : List ℕ). over k l) (sym e);
    }

-- the whole text
pub wrote_whole : (fs : List (List ℕ)) (l xs : List ℕ) (n : ℕ) → length (text_of fs) ≤ length l → Wrote fs l xs n → (n ≡ length (text_of fs)) × (xs ≡ over (text_of fs) l)
wrote_whole fs l xs n h w = let e = written_whole fs (length l) h in (w.count ∙ ap length e, w.content ∙ ap (λ (k : List ℕ). over k l) e)
