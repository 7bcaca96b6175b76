-- A buffer with a text over its front: its length, what is read back of the text, one more byte at the text's end, and what a writer wrote into the
-- part behind the text.
use Prim.Native.Nat.{ℕ, suc, ◌+◌, ◌-◌, ◌≤◌, ◌<◌}
use native.Mathlib.Omega.{arith}
use mathlib.Core.Path.{◌≡◌, refl, sym, ◌∙◌, ap, ap₂}
use mathlib.Core.List.{List, [], ◌∷◌, ◌++◌, append_assoc, append-nil}
use lib.ListN.{length, get_or, set, take, drop, length-append, length-drop, drop_of_length-le}
use lib.Seq.{drop-cons, set_at, drop_at, take_at, take_all, take-suc, drop-drop, take-append-le, drop-append-le, length-take-le}
use borrow.Rule.Slice.PartMut.{mid_of, put_mid}
use Rattle.spec_file.specs.Over.{over}

-- nothing over a buffer leaves it as it was
pub over_nil : (l : List ℕ) → over [] l ≡ l
unfolding over
over_nil l = refl

-- the text is found at the buffer's front
pub take_over : (t l : List ℕ) → take (length t) (over t l) ≡ t
unfolding over
take_over t l = take_at t (drop (length t) l) (length t) refl

-- what stood behind the text still does
pub drop_over : (t l : List ℕ) → drop (length t) (over t l) ≡ drop (length t) l
unfolding over
drop_over t l = drop_at t (drop (length t) l) (length t) refl

-- a part of the text is found there too
pub part_over : (t l : List ℕ) (a n : ℕ) → a + n ≤ length t → take n (drop a (over t l)) ≡ take n (drop a t)
unfolding over
part_over t l a n h =
    ap (take n) (drop-append-le a t (drop (length t) l) (omega arith)) ∙ take-append-le n (drop a t) (drop (length t) l) (omega (arith, length-drop a t))

-- a text that is no shorter than the buffer fills it
pub over_whole : (t l : List ℕ) → length l ≤ length t → over t l ≡ t
unfolding over
over_whole t l h = ap (λ (d : List ℕ). t ++ d) (drop_of_length-le l h) ∙ append-nil t

pub length_over : (t l : List ℕ) → length t ≤ length l → length (over t l) ≡ length l
unfolding over
length_over t l h = simp (length-append, length-drop) (omega arith)

-- a store at the end of the text
pub over_snoc : (t l : List ℕ) (i v : ℕ) → length t ≡ i → i < length l → set (over t l) i v ≡ over (t ++ (v ∷ [])) l
unfolding over
over_snoc t l i v e h =
    let k : length t < length l = omega arith in
    let n : length (t ++ (v ∷ [])) ≡ suc (length t) = simp length-append (omega arith) in
    ap (λ (d : List ℕ). set (t ++ d) i v) (drop-cons l (length t) 0 k)
    ∙ set_at t (get_or l (length t) 0) (drop (suc (length t)) l) v i e
    ∙ sym (ap (λ (j : ℕ). (t ++ (v ∷ [])) ++ drop j l) n ∙ append_assoc t (v ∷ []) (drop (suc (length t)) l))

-- one byte more of a text that is copied
pub over_more : (t l out : List ℕ) (i v : ℕ) → i < length t → i < length l → out ≡ over (take i t) l → v ≡ get_or t i 0 → set out i v ≡ over (take (i + 1) t) l
over_more t l out i v h room e q =
    let c : length (take i t) ≡ i = length-take-le i t (omega arith) in
    let j : suc i ≡ i + 1 = omega arith in
    ap₂ (λ (o : List ℕ) (x : ℕ). set o i x) e q
    ∙ over_snoc (take i t) l i (get_or t i 0) c room
    ∙ ap (λ (u : List ℕ). over u l) (sym (take-suc t i 0 h) ∙ ap (λ (k : ℕ). take k t) j)

-- what a callee wrote into `&mut xs[a..]`, said of the whole buffer
pub over_part : (t u l xs ys : List ℕ) (a : ℕ) → xs ≡ over t l → length t ≡ a → length t ≤ length l
    → ys ≡ over u (mid_of a (length xs - a) xs) → put_mid a (length xs - a) xs ys ≡ over (t ++ u) l
unfolding over
over_part t u l xs ys a ex ea h ey =
    let d : drop a xs ≡ drop (length t) l = ap (drop a) ex ∙ drop_at t (drop (length t) l) a ea in
    let n : length (drop a xs) ≤ length xs - a = simp length-drop (omega arith) in
    let z : drop (length xs - a) (drop a xs) ≡ [] = drop_of_length-le (drop a xs) n in
    let m : take (length xs - a) (drop a xs) ≡ drop (length t) l = take_all (length xs - a) (drop a xs) n ∙ d in
    ap (λ (p : List ℕ). p ++ (ys ++ drop (length xs - a) (drop a xs))) (ap (take a) ex ∙ take_at t (drop (length t) l) a ea)
    ∙ ap (λ (p : List ℕ). t ++ (ys ++ p)) z
    ∙ ap (λ (p : List ℕ). t ++ p) (append-nil ys ∙ ey ∙ ap (λ (p : List ℕ). u ++ drop (length u) p) m
    ∙ ap (λ (p : List ℕ). u ++ p) (drop-drop (length u) (length t) l))
    ∙ sym (ap (λ (j : ℕ). (t ++ u) ++ drop j l) (length-append t u) ∙ append_assoc t u (drop (length t + length u) l))
