-- Lists with zeros behind, up to so many numbers: stored into one place after the other, joined by two, and cut off.
use Prim.Native.Nat.{ℕ, zero, suc, ◌+◌, ◌-◌, ◌*◌, ◌^◌, ◌<◌, ◌≤◌}
use mathlib.Core.Path.{◌≡◌, refl, sym, ap, ap₂, ◌∙◌}
use mathlib.Core.Bool.{Bool, true, false, cond}
use mathlib.Core.List.{List, [], ◌∷◌, ◌++◌, append_assoc, append-nil, map}
use native.Mathlib.Omega.{arith}
use native.Mathlib.Numerals.{add-one}
use lib.ListN.{length, get_or, set, take, drop, replicate, length-append}
use lib.Seq.{paste, set_at, take-suc, take_all, take_at, drop-append-add}
use Rattle.std.proofs.lemmas.List.{drop-replicate}
use Rattle.std.proofs.lemmas.List.Edits.{paste_all}
use Rattle.spec_schedules.specs.Lists.{range, filter}
use Rattle.spec_schedules.specs.Sets.{has}
use Rattle.theory_sc.specs.Sets.{addend}
use Rattle.theory_sc_key.specs.Key.{pairs, padded}
use Rattle.states_key.specs.Gathered.{chosen}

-- nothing but zeros
pub padded_none : (l : List ℕ) → l ≡ [] → replicate 32 0 ≡ padded 32 l
unfolding padded
padded_none l e = rw e

-- ---- one number more
-- the first of the zeros
zeros_more : (k : ℕ) → 0 < k → replicate {A = ℕ} k 0 ≡ 0 ∷ replicate (k - 1) 0
zeros_more zero h = absurd (omega arith)
zeros_more (suc k) h = let e : k ≡ suc k - 1 = omega arith in ap (λ (j : ℕ). 0 ∷ replicate j 0) e

padded_set : (k : ℕ) (l : List ℕ) (n v : ℕ) → length l ≡ n → n < k → set (padded k l) n v ≡ l ++ (v ∷ replicate (k - length l - 1) 0)
unfolding padded
padded_set k l n v e h =
    ap (λ (z : List ℕ). set (l ++ z) n v) (zeros_more (k - length l) (omega arith)) ∙ set_at l 0 (replicate (k - length l - 1) 0) v n e

pub padded_put : (k : ℕ) (l : List ℕ) (n v : ℕ) → length l ≡ n → n < k → set (padded k l) n v ≡ padded k (l ++ (v ∷ []))
unfolding padded
padded_put k l n v e h =
    let j : k - length l - 1 ≡ k - length (l ++ (v ∷ [])) = omega (arith, length-append l (v ∷ [])) in
    padded_set k l n v e h ∙ ap (λ (m : ℕ). l ++ (v ∷ replicate m 0)) j ∙ sym (append_assoc l (v ∷ []) (replicate (k - length (l ++ (v ∷ []))) 0))

-- a zero changes nothing
padded_zero : (k : ℕ) (l : List ℕ) (n : ℕ) → length l ≡ n → n < k → set (padded k l) n 0 ≡ padded k l
unfolding padded
padded_zero k l n e h = padded_set k l n 0 e h ∙ ap (λ (z : List ℕ). l ++ z) (sym (zeros_more (k - length l) (omega arith)))

-- ---- a number where it is wanted
abbrev pub wanted : Bool → ℕ → List ℕ
wanted b v = cond b (v ∷ []) []

module _ (values l : List ℕ) (n : ℕ) (held : values ≡ padded 32 l) (size : length l ≡ n) (room : n < 32) (b : Bool) (v : ℕ) where
  pub put_held : (after : List ℕ) → after ≡ set values n (cond b v 0) → after ≡ padded 32 (l ++ wanted b v)
  put_held after e = e ∙ ap (λ (z : List ℕ). set z n (cond b v 0)) held ∙ go b
    where
      go : (b : Bool) → set (padded 32 l) n (cond b v 0) ≡ padded 32 (l ++ wanted b v)
      go true = padded_put 32 l n v size room
      go false = padded_zero 32 l n size room ∙ ap (padded 32) (sym (append-nil l))

  pub put_size : (r : ℕ) → r ≡ n + addend b 1 → length (l ++ wanted b v) ≡ r
  unfolding addend
  put_size r e = length-append l (wanted b v) ∙ go b e
    where
      go : (b : Bool) → r ≡ n + addend b 1 → length l + length (wanted b v) ≡ r
      go true q = omega (arith, q)
      go false q = omega (arith, q)

-- ---- the registers in a set
chosen_more : (f : ℕ → ℕ) (g : ℕ → Bool) (x : ℕ) (l : List ℕ) → map f (filter g (x ∷ l)) ≡ wanted (g x) (f x) ++ map f (filter g l)
unfolding filter
chosen_more f g x l = go (g x) refl
  where
    go : (b : Bool) → g x ≡ b → map f (filter g (x ∷ l)) ≡ wanted (g x) (f x) ++ map f (filter g l)
    go true e = rw (e, filter)
    go false e = rw (e, filter)

pub chosen_four : (mask : ℕ) (rs l : List ℕ) (b0 b1 b2 b3 : Bool) → b0 ≡ has mask 0 → b1 ≡ has mask 1 → b2 ≡ has mask 2 → b3 ≡ has mask 3 →
    (((l ++ wanted b0 (get_or rs 0 0)) ++ wanted b1 (get_or rs 1 0)) ++ wanted b2 (get_or rs 2 0)) ++ wanted b3 (get_or rs 3 0) ≡ l ++ chosen mask rs
unfolding range filter
chosen_four mask rs l b0 b1 b2 b3 e0 e1 e2 e3 =
    let w : ℕ → List ℕ = λ i. wanted (has mask i) (get_or rs i 0) in
    let f : ℕ → ℕ = λ i. get_or rs i 0 in
    let all : chosen mask rs ≡ w 0 ++ (w 1 ++ (w 2 ++ (w 3 ++ []))) =
    chosen_more f (has mask) 0 (1 ∷ 2 ∷ 3 ∷ []) ∙ ap (λ (z : List ℕ). w 0 ++ z) (chosen_more f (has mask) 1 (2 ∷ 3 ∷ []) ∙ ap (λ (z : List ℕ). w 1 ++ z) (chosen_more f (has mask) 2 (3 ∷ []) ∙ ap (λ (z : List ℕ). w 2 ++ z) (chosen_more f (has mask) 3 []))) in
    rw (e0, e1, e2, e3)
    (append_assoc (l ++ w 0 ++ w 1) (w 2) (w 3) ∙ append_assoc (l ++ w 0) (w 1) (w 2 ++ w 3) ∙ append_assoc l (w 0) (w 1 ++ (w 2 ++ w 3))
    ∙ sym (ap (λ (z : List ℕ). l ++ z) (all ∙ ap (λ (z : List ℕ). w 0 ++ (w 1 ++ (w 2 ++ z))) (append-nil (w 3)))))

take_size : (i : ℕ) (l : List ℕ) → i ≤ length l → length (take i l) ≡ i
take_size zero l h = refl
take_size (suc i) [] h = absurd (omega arith)
take_size (suc i) (x ∷ l) h = ap suc (take_size i l (omega arith))

-- ---- a stretch of numbers, stored over zeros
pub stretch_put : (l from : List ℕ) (n : ℕ) → length l ≡ n → length from ≡ 8 → n + 8 ≤ 32 → paste (padded 32 l) n from 8 ≡ padded 32 (l ++ from)
unfolding padded
stretch_put l from n size eight room =
    let zeros : List ℕ = replicate (32 - length l) 0 in
    let behind : drop (length l + 8) (l ++ zeros) ≡ replicate (32 - length l - 8) 0 = drop-append-add l zeros 8 ∙ drop-replicate 8 (32 - length l) 0 in
    let same : length l + 8 ≡ n + 8 = omega arith in
    let less : 32 - length l - 8 ≡ 32 - length (l ++ from) = omega (arith, length-append l from) in
    paste_all (l ++ zeros) n from 8 (sym eight)
    ∙ ap₂ (λ (a b : List ℕ). a ++ (from ++ b)) (take_at l zeros n size) (ap (λ (k : ℕ). drop k (l ++ zeros)) (sym same) ∙ behind ∙ ap (λ (k : ℕ). replicate k 0) less)
    ∙ sym (append_assoc l from (replicate (32 - length (l ++ from)) 0))

-- ---- by two
pub pairs_at : (l : List ℕ) (i : ℕ) → i * 2 + 1 < length l → get_or (pairs l) i 0 ≡ get_or l (i * 2) 0 + 2 ^ 32 * get_or l (i * 2 + 1) 0
unfolding pairs
pairs_at [] i h = absurd (omega arith)
pairs_at (a ∷ []) i h = absurd (omega arith)
pairs_at (a ∷ b ∷ l) zero h = refl
pairs_at (a ∷ b ∷ l) (suc i) h =
    let e : suc i * 2 ≡ suc (suc (i * 2)) = omega arith in
    let f : suc i * 2 + 1 ≡ suc (suc (i * 2 + 1)) = omega arith in
    pairs_at l i (omega arith) ∙ sym (ap₂ (λ (y z : ℕ). get_or (a ∷ b ∷ l) y 0 + 2 ^ 32 * get_or (a ∷ b ∷ l) z 0) e f)

pub pairs_size : (m : ℕ) (l : List ℕ) → length l ≡ m * 2 → length (pairs l) ≡ m
unfolding pairs
pairs_size zero [] h = refl
pairs_size (suc m) [] h = absurd (omega arith)
pairs_size m (a ∷ []) h = absurd (omega arith)
pairs_size zero (a ∷ b ∷ l) h = absurd (omega arith)
pairs_size (suc m) (a ∷ b ∷ l) h = ap suc (pairs_size m l (omega arith))

zeros_by_two : (m : ℕ) → pairs (replicate (m * 2) 0) ≡ replicate m 0
unfolding pairs
zeros_by_two zero = refl
zeros_by_two (suc m) =
    let e : suc m * 2 ≡ suc (suc (m * 2)) = omega arith in
    ap (λ (k : ℕ). pairs (replicate k 0)) e ∙ ap (λ (l : List ℕ). 0 ∷ l) (zeros_by_two m)

-- zeros behind come to zeros behind
pub pairs_padded : (m : ℕ) (l : List ℕ) → length l ≤ m * 2 → pairs (padded (m * 2) l) ≡ padded m (pairs l)
unfolding pairs padded
pairs_padded m [] h =
    let e : m * 2 - 0 ≡ m * 2 = omega arith in
    let f : m - 0 ≡ m = omega arith in
    ap (λ (k : ℕ). pairs (replicate k 0)) e ∙ zeros_by_two m ∙ ap (λ (k : ℕ). replicate k 0) (sym f)
pairs_padded zero (a ∷ l) h = absurd (omega arith)
pairs_padded (suc m) (a ∷ []) h =
    let e : suc m * 2 - 1 ≡ suc (m * 2) = omega arith in
    let f : suc m - 1 ≡ m = omega arith in
    let g : a + 2 ^ 32 * 0 ≡ a = omega arith in
    ap (λ (k : ℕ). pairs (a ∷ replicate k 0)) e ∙ ap₂ (λ (x : ℕ) (l : List ℕ). x ∷ l) g (zeros_by_two m) ∙ ap (λ (k : ℕ). a ∷ replicate k 0) (sym f)
pairs_padded (suc m) (a ∷ b ∷ l) h =
    let e : suc m * 2 - suc (suc (length l)) ≡ m * 2 - length l = omega arith in
    let f : suc m - suc (length (pairs l)) ≡ m - length (pairs l) = omega arith in
    ap (λ (k : ℕ). (a + 2 ^ 32 * b) ∷ pairs (l ++ replicate k 0)) e ∙ ap (λ (z : List ℕ). (a + 2 ^ 32 * b) ∷ z) (pairs_padded m l (omega arith))
    ∙ ap (λ (k : ℕ). (a + 2 ^ 32 * b) ∷ (pairs l ++ replicate k 0)) (sym f)

-- ---- cut off
zeros_cut : (n k : ℕ) → n ≤ k → take {A = ℕ} n (replicate k 0) ≡ replicate n 0
zeros_cut zero k h = refl
zeros_cut (suc n) zero h = absurd (omega arith)
zeros_cut (suc n) (suc k) h = ap (λ (l : List ℕ). 0 ∷ l) (zeros_cut n k (omega arith))

pub padded_cut : (n k : ℕ) (l : List ℕ) → length l ≤ n → n ≤ k → take n (padded k l) ≡ padded n l
unfolding padded
padded_cut n k [] h i =
    let e : k - 0 ≡ k = omega arith in
    let f : n - 0 ≡ n = omega arith in
    ap (λ (m : ℕ). take n (replicate m 0)) e ∙ zeros_cut n k i ∙ ap (λ (m : ℕ). replicate m 0) (sym f)
padded_cut zero k (x ∷ l) h i = absurd (omega arith)
padded_cut (suc n) zero (x ∷ l) h i = absurd (omega arith)
padded_cut (suc n) (suc k) (x ∷ l) h i =
    let e : suc k - suc (length l) ≡ k - length l = omega arith in
    let f : suc n - suc (length l) ≡ n - length l = omega arith in
    ap (λ (m : ℕ). x ∷ take n (l ++ replicate m 0)) e ∙ ap (λ (z : List ℕ). x ∷ z) (padded_cut n k l (omega arith) (omega arith)) ∙ ap (λ (m : ℕ). x ∷ (l ++ replicate m 0)) (sym f)

pub padded_whole : (k : ℕ) (l : List ℕ) → length l ≡ k → padded k l ≡ l
unfolding padded
padded_whole k l e = let z : k - length l ≡ 0 = omega arith in ap (λ (m : ℕ). l ++ replicate m 0) z ∙ append-nil l

-- two in front
pub padded_front : (a b : ℕ) (l : List ℕ) → length l ≤ 16 → a ∷ b ∷ padded 16 l ≡ padded 18 (a ∷ b ∷ l)
unfolding padded
padded_front a b l h = let e : 16 - length l ≡ 18 - suc (suc (length l)) = omega arith in ap (λ (m : ℕ). a ∷ b ∷ (l ++ replicate m 0)) e

-- ---- two words, and values by two, one word after the other
module _ (first second : ℕ) (values : List ℕ) (size : length values ≡ 32) where
  pub words_none : (words : List ℕ) → words ≡ set (set (replicate 18 0) 0 first) 1 second → words ≡ padded 18 (first ∷ second ∷ take 0 (pairs values))
  unfolding padded
  words_none words e = e

  pub words_more : (words : List ℕ) (i w : ℕ) → words ≡ padded 18 (first ∷ second ∷ take i (pairs values)) → i < 16 → w ≡ get_or values (i * 2) 0 + 2 ^ 32 * get_or values (i * 2 + 1) 0
      → set words (i + 2) w ≡ padded 18 (first ∷ second ∷ take (i + 1) (pairs values))
  words_more words i w held h e =
      let all : length (pairs values) ≡ 16 = pairs_size 16 values size in
      let cut = take_size i (pairs values) (omega (arith, all)) in
      let many : length (first ∷ second ∷ take i (pairs values)) ≡ i + 2 = omega (arith, cut) in
      let next : take i (pairs values) ++ (w ∷ []) ≡ take (i + 1) (pairs values) = sym (ap (λ (k : ℕ). take k (pairs values)) (add-one i) ∙ take-suc (pairs values) i 0 (omega (arith, all)) ∙ ap (λ (z : ℕ). take i (pairs values) ++ (z ∷ [])) (pairs_at values i (omega (arith, size)) ∙ sym e)) in
      ap (λ (z : List ℕ). set z (i + 2) w) held ∙ padded_put 18 (first ∷ second ∷ take i (pairs values)) (i + 2) w many (omega arith) ∙ ap (λ (z : List ℕ). padded 18 (first ∷ second ∷ z)) next

  pub words_all : (words : List ℕ) (i : ℕ) → words ≡ padded 18 (first ∷ second ∷ take i (pairs values)) → i ≡ 16 → words ≡ first ∷ second ∷ pairs values
  words_all words i held e =
      let all : length (pairs values) ≡ 16 = pairs_size 16 values size in
      held ∙ ap (λ (z : List ℕ). padded 18 (first ∷ second ∷ z)) (take_all i (pairs values) (omega (arith, e, all))) ∙ padded_whole 18 (first ∷ second ∷ pairs values) (omega (arith, all))
