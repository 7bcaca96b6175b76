-- Members marked one after the other.
use Prim.Native.Nat.{ℕ, ◌+◌, ◌≤◌, ◌<◌}
use native.Mathlib.Numerals.{add-one}
use mathlib.Core.Path.{◌≡◌, ◌∙◌, ap, sym}
use mathlib.Core.List.{List}
use lib.ListN.{length, get_or, set, drop, length-set, drop_of_length-le}
use lib.Seq.{drop-cons}
use Rattle.file_decoder.specs.Held.{marked}

-- members marked: the line's frame from position j on
pub marked_more : (g : ℕ) (f c : List ℕ) (j t : ℕ) → j < length f → t ≡ get_or f j 0 → marked g (drop j f) c ≡ marked g (drop (j + 1) f) (set c t g)
unfolding marked
marked_more g f c j t h e = ap (λ (l : List ℕ). marked g l c) (drop-cons f j 0 h) ∙ rw (add-one j, ← e)

pub marked_none : (g : ℕ) (f c : List ℕ) (j : ℕ) → length f ≤ j → marked g (drop j f) c ≡ c
unfolding marked
marked_none g f c j h = ap (λ (l : List ℕ). marked g l c) (drop_of_length-le f h)

-- one member more is marked
pub marking : (g : ℕ) (f c c' : List ℕ) (j t : ℕ) (whole : List ℕ) → length c ≡ 6 → whole ≡ marked g (drop j f) c → j < length f → t ≡ get_or f j 0 → c' ≡ set c t g
    → (length c' ≡ 6) × (whole ≡ marked g (drop (j + 1) f) c')
marking g f c c' j t whole n e h b s =
    (ap length s ∙ length-set c t g ∙ n, e ∙ marked_more g f c j t h b ∙ ap (λ (l : List ℕ). marked g (drop (j + 1) f) l) (sym s))
