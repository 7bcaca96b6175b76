-- A text split at its 0a: how long the line is that starts at a place, by the byte there, and where it ends.
use Prim.Native.Nat.{ℕ, zero, suc, ◌+◌, ◌≤◌, ◌<◌}
use native.Mathlib.Numerals.{add-one}
use native.Mathlib.Omega.{arith}
use mathlib.Core.Path.{◌≡◌, refl, sym, ◌∙◌, ap}
use mathlib.Core.Bool.{Bool, true, false}
use mathlib.Core.List.{List, [], ◌∷◌, ◌++◌}
use lib.Dec.{eqb}
use lib.ListN.{length, get_or, drop, length-drop, drop_of_length-le}
use lib.Seq.{drop-cons, get_or-drop}
use borrow.Author.Tests.{eq-eqb, ne_eqb, eqb-true, eqb-false}
use Rattle.spec_file.specs.Split.{line_length}

-- ---- the line that starts at i, by the byte at i
pub line_stops : (t : List ℕ) (i : ℕ) → i < length t → get_or t i 0 ≡ 10 → line_length (drop i t) ≡ 0
unfolding line_length
line_stops t i h e = ap line_length (drop-cons t i 0 h) ∙ rw (eq-eqb (get_or t i 0) 10 e, line_length)

pub line_goes_on : (t : List ℕ) (i : ℕ) → i < length t → (get_or t i 0 ≡ 10 → ⊥) → line_length (drop i t) ≡ suc (line_length (drop (i + 1) t))
unfolding line_length
line_goes_on t i h e = ap line_length (drop-cons t i 0 h) ∙ rw (ne_eqb (get_or t i 0) 10 e, line_length, add-one i)

pub line_none : (t : List ℕ) (i : ℕ) → length t ≤ i → line_length (drop i t) ≡ 0
unfolding line_length
line_none t i h = ap line_length (drop_of_length-le t {i = i} h)

-- ---- the first line of a text
line_length_le : (l : List ℕ) → line_length l ≤ length l
unfolding line_length
line_length_le [] = omega arith
line_length_le (x ∷ l) = go (eqb x 10) refl (line_length_le l)
  where
    go : (t : Bool) → eqb x 10 ≡ t → line_length l ≤ length l → line_length (x ∷ l) ≤ suc (length l)
    go true e h = rw (e, line_length) (omega arith)
    go false e h = rw (e, line_length) (omega arith)

line_length_stop : (l : List ℕ) → line_length l < length l → get_or l (line_length l) 0 ≡ 10
unfolding line_length
line_length_stop [] h = absurd (omega arith)
line_length_stop (x ∷ l) h = go (eqb x 10) refl (line_length_stop l) h
  where
    go : (t : Bool) → eqb x 10 ≡ t → (line_length l < length l → get_or l (line_length l) 0 ≡ 10) → line_length (x ∷ l) < suc (length l)
        → get_or (x ∷ l) (line_length (x ∷ l)) 0 ≡ 10
    go true e ih k = rw (e, line_length) (eqb-true x 10 e)
    go false e ih k = let m : suc (line_length l) < suc (length l) = rw (e, line_length) at k in rw (e, line_length) (ih (omega arith))

line_length_clear : (l : List ℕ) (k : ℕ) → k < line_length l → get_or l k 0 ≡ 10 → ⊥
unfolding line_length
line_length_clear [] k h e = omega arith
line_length_clear (x ∷ l) k h e = go (eqb x 10) refl (line_length_clear l) k h e
  where
    go : (t : Bool) → eqb x 10 ≡ t → ((j : ℕ) → j < line_length l → get_or l j 0 ≡ 10 → ⊥) → (j : ℕ) → j < line_length (x ∷ l)
        → get_or (x ∷ l) j 0 ≡ 10 → ⊥
    go true p ih j m q = let n : j < 0 = rw (p, line_length) at m in omega arith
    go false p ih zero m q = eqb-false x 10 p q
    go false p ih (suc j) m q = let n : suc j < suc (line_length l) = rw (p, line_length) at m in ih j (omega arith) q

-- ---- the line that starts at a
-- it ends within the text
pub line_within : (t : List ℕ) (a : ℕ) → a ≤ length t → a + line_length (drop a t) ≤ length t
line_within t a h = omega (arith, line_length_le (drop a t), length-drop a t)

-- where it ends before the text does, there is a 0a
pub line_ended : (t : List ℕ) (a : ℕ) → a + line_length (drop a t) < length t → get_or t (a + line_length (drop a t)) 0 ≡ 10
line_ended t a h =
    sym (get_or-drop a t (line_length (drop a t)) 0) ∙ line_length_stop (drop a t) (omega (arith, length-drop a t))

-- a line has no 0a in it
pub line_clear : (t : List ℕ) (a k : ℕ) → k < line_length (drop a t) → get_or t (a + k) 0 ≡ 10 → ⊥
line_clear t a k h e = line_length_clear (drop a t) k h (get_or-drop a t k 0 ∙ e)

-- a line is found whole in front of its 0a, whatever follows
pub line_length_append : (l r : List ℕ) → line_length l ≡ length l → line_length (l ++ (10 ∷ r)) ≡ length l
unfolding line_length
line_length_append [] r e = refl
line_length_append (x ∷ l) r e = go (eqb x 10) refl (line_length_append l r) e
  where
    go : (t : Bool) → eqb x 10 ≡ t → (line_length l ≡ length l → line_length (l ++ (10 ∷ r)) ≡ length l) → line_length (x ∷ l) ≡ suc (length l)
        → line_length (x ∷ (l ++ (10 ∷ r))) ≡ suc (length l)
    go true p ih q = let n : 0 ≡ suc (length l) = rw (p, line_length) at q in absurd (omega arith)
    go false p ih q = let n : suc (line_length l) ≡ suc (length l) = rw (p, line_length) at q in rw (p, line_length) (ap suc (ih (omega arith)))

-- a line that does not end the text ends inside of it
pub before_end : (text : List ℕ) (at end : ℕ) → at < length text → end ≡ at + line_length (drop at text) → (end ≡ length text → ⊥) → end < length text
before_end text at end h e ne = let w = line_within text at (omega arith) in omega (arith, ne)
