-- The lines of a text, one after the other: the first goes up to the first 0a, and the rest are the lines of what stands behind it.
use Prim.Native.Nat.{ℕ, suc, ◌+◌, ◌-◌, ◌≤◌, ◌<◌}
use native.Mathlib.Omega.{arith}
use mathlib.Core.Path.{◌≡◌, refl, sym, ◌∙◌, ap}
use mathlib.Core.Bool.{Bool, true, false}
use mathlib.Core.List.{List, [], ◌∷◌, ◌++◌}
use lib.Dec.{eqb}
use lib.ListN.{length, take, drop, length-drop}
use lib.Seq.{drop-drop}
use Rattle.spec_file.specs.Split.{line_length}
use Rattle.spec_file.specs.TextLines.{TextLine, prepend, before, split}

-- a line with its 0a, and the last one without
abbrev pub whole : List ℕ → TextLine
whole l = record { bytes = l; ended = true }

abbrev pub unended : List ℕ → TextLine
unended l = record { bytes = l; ended = false }

-- the first line has its 0a
split_first : (l : List ℕ) → line_length l < length l → split l ≡ whole (take (line_length l) l) ∷ split (drop (suc (line_length l)) l)
unfolding line_length split before prepend
split_first [] h = absurd (omega arith)
split_first (x ∷ l) h = go (eqb x 10) refl (split_first l) h
  where
    go : (t : Bool) → eqb x 10 ≡ t → (line_length l < length l → split l ≡ whole (take (line_length l) l) ∷ split (drop (suc (line_length l)) l))
        → line_length (x ∷ l) < suc (length l)
        → split (x ∷ l) ≡ whole (take (line_length (x ∷ l)) (x ∷ l)) ∷ split (drop (line_length (x ∷ l)) l)
    go true e ih k = rw (e, line_length, before)
    go false e ih k =
        let m : suc (line_length l) < suc (length l) = rw (e, line_length) at k in
        let j : split l ≡ whole (take (line_length l) l) ∷ split (drop (suc (line_length l)) l) = ih (omega arith) in
        rw (e, line_length, before, j)

-- the only line has none
pub split_only : (l : List ℕ) → 0 < length l → line_length l ≡ length l → split l ≡ unended l ∷ []
unfolding line_length split before prepend
split_only [] h e = absurd (omega arith)
split_only (x ∷ l) h e = go l (eqb x 10) refl (split_only l) e
  where
    go : (r : List ℕ) (t : Bool) → eqb x 10 ≡ t → (0 < length r → line_length r ≡ length r → split r ≡ unended r ∷ [])
        → line_length (x ∷ r) ≡ suc (length r) → split (x ∷ r) ≡ unended (x ∷ r) ∷ []
    go r true p ih q = let n : 0 ≡ suc (length r) = rw (p, line_length) at q in absurd (omega arith)
    go [] false p ih q = rw (p, before)
    go (y ∷ r) false p ih q =
        let n : suc (line_length (y ∷ r)) ≡ suc (suc (length r)) = rw (p, line_length) at q in
        let j : split (y ∷ r) ≡ unended (y ∷ r) ∷ [] = ih (omega arith) (omega arith) in
        ap (λ (ls : List TextLine). before x ls) j ∙ rw (p, before)

-- a line and its 0a in front of a text
pub split_line : (l r : List ℕ) → line_length l ≡ length l → split (l ++ (10 ∷ r)) ≡ whole l ∷ split r
unfolding line_length split before prepend
split_line [] r e = refl
split_line (x ∷ l) r e = go (eqb x 10) refl (split_line l r) e
  where
    go : (t : Bool) → eqb x 10 ≡ t → (line_length l ≡ length l → split (l ++ (10 ∷ r)) ≡ whole l ∷ split r) → line_length (x ∷ l) ≡ suc (length l)
        → split (x ∷ (l ++ (10 ∷ r))) ≡ whole (x ∷ l) ∷ split r
    go true p ih q = let n : 0 ≡ suc (length l) = rw (p, line_length) at q in absurd (omega arith)
    go false p ih q =
        let n : suc (line_length l) ≡ suc (length l) = rw (p, line_length) at q in
        ap (λ (ls : List TextLine). before x ls) (ih (omega arith)) ∙ rw (p, before)

-- ---- a text has no more lines than bytes
prepend_length : (c : ℕ) (ls : List TextLine) → length (prepend c ls) ≤ suc (length ls)
unfolding prepend
prepend_length c [] = omega arith
prepend_length c (l ∷ ls) = omega arith

before_length : (c : ℕ) (ls : List TextLine) → length (before c ls) ≤ suc (length ls)
unfolding before
before_length c ls = go (eqb c 10) refl
  where
    go : (b : Bool) → eqb c 10 ≡ b → length (before c ls) ≤ suc (length ls)
    go true q = rw (q, before) (omega arith)
    go false q = rw (q, before) (prepend_length c ls)

pub split_length : (cs : List ℕ) → length (split cs) ≤ length cs
unfolding split
split_length [] = omega arith
split_length (c ∷ cs) = omega (arith, before_length c (split cs), split_length cs)

-- ---- where a reader stands in a text
-- the line that starts at a and ends at e, and the lines behind it
pub split_at : (t : List ℕ) (a e : ℕ) → e ≡ a + line_length (drop a t) → e < length t
    → split (drop a t) ≡ whole (take (e - a) (drop a t)) ∷ split (drop (e + 1) t)
split_at t a e q h =
    let n : e - a ≡ line_length (drop a t) = omega arith in
    let m : a + suc (line_length (drop a t)) ≡ e + 1 = omega arith in
    split_first (drop a t) (omega (arith, length-drop a t))
    ∙ ap (λ (k : ℕ). whole (take k (drop a t)) ∷ split (drop (suc (line_length (drop a t))) (drop a t))) (sym n)
    ∙ ap (λ (r : List ℕ). whole (take (e - a) (drop a t)) ∷ split r)
    (drop-drop (suc (line_length (drop a t))) a t ∙ ap (λ (k : ℕ). drop k t) m)

-- the line that starts at a and has no 0a
pub split_end : (t : List ℕ) (a : ℕ) → a < length t → a + line_length (drop a t) ≡ length t → split (drop a t) ≡ unended (drop a t) ∷ []
split_end t a h e = split_only (drop a t) (omega (arith, length-drop a t)) (omega (arith, length-drop a t))
