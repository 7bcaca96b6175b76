-- EQUAL WORDS, EQUAL KEYS: the first two words say how many there are of everything that follows.
use Prim.Native.Nat.{ℕ, zero, suc, ◌+◌, ◌-◌, ◌*◌, ◌^◌, ◌<◌, ◌≤◌}
use mathlib.Core.Path.{◌≡◌, refl, sym, ap, ap₂, subst, ◌∙◌}
use mathlib.Core.Logic.{◌≢◌}
use mathlib.Core.List.{List, [], ◌∷◌, ◌++◌, map, append_assoc}
use native.Mathlib.Omega.{arith}
use native.Mathlib.Nat.{pow-suc, pow-le-pow_right}
use lib.ListN.{length, length-append, length-map, get_or, drop, replicate}
use Rattle.spec_file.specs.WellFormed.{Everywhere}
use Rattle.spec_file.proofs.Everywhere.{everywhere_at, everywhere_append, everywhere_map}
use Rattle.theory_sc.specs.ThreadWords.{digits}
use Rattle.theory_sc.proofs.ThreadWords.{digits_fit}
use Rattle.theory_sc_key.specs.Key.{pairs, padded}
use Rattle.theory_sc_key.proofs.Packing.{Halves, pairs_once, pairs_length, pairs_half, pairs_below, front_once, padded_length}
use Rattle.spec_tso.specs.Queue.{Entry}
use Rattle.theory_tso_key.specs.Key.{Key}
use Rattle.theory_tso_key.specs.Words.{join, locations, stored, number, appended, sets_of, words_of, Plain, Shaped}

-- ---- NUMBERS of equally many digits
abbrev Splits : ℕ → Type 0
Splits b = (x y d e : ℕ) → d < b → e < b → x * b + d ≡ y * b + e → (x ≡ y) × (d ≡ e)

number_once : (b : ℕ) → Splits b → (ds es : List ℕ) → length ds ≡ length es → Everywhere (λ x. x < b) ds → Everywhere (λ x. x < b) es → number b ds ≡ number b es → ds ≡ es
unfolding digits
number_once b s [] [] l x y e = refl
number_once b s [] (d ∷ es) l x y e = absurd (omega arith)
number_once b s (d ∷ ds) [] l x y e = absurd (omega arith)
number_once b s (d ∷ ds) (c ∷ es) l x y e =
    let q = s (number b ds) (number b es) d c x.0 y.0 e in
    ap₂ (λ (i : ℕ) (j : List ℕ). i ∷ j) q.1 (number_once b s ds es (omega arith) x.1 y.1 q.0)

-- the same of digits that are appended
appended_once : (b : ℕ) → Splits b → (m n : ℕ) (ds es : List ℕ) → length ds ≡ length es → Everywhere (λ x. x < b) ds → Everywhere (λ x. x < b) es → appended b m ds ≡ appended b n es → (m ≡ n) × (ds ≡ es)
unfolding appended
appended_once b s m n [] [] l x y e = (e, refl)
appended_once b s m n [] (d ∷ es) l x y e = absurd (omega arith)
appended_once b s m n (d ∷ ds) [] l x y e = absurd (omega arith)
appended_once b s m n (d ∷ ds) (c ∷ es) l x y e =
    let q = appended_once b s (m * b + d) (n * b + c) ds es (omega arith) x.1 y.1 e in
    let r = s m n d c x.0 y.0 q.0 in
    (r.0, ap₂ (λ (i : ℕ) (j : List ℕ). i ∷ j) r.1 q.1)

pub appended_below : (n k : ℕ) (ds : List ℕ) → n < 8 ^ k → Everywhere (λ x. x < 8) ds → appended 8 n ds < 8 ^ (k + length ds)
unfolding appended
appended_below n k [] h x = let e : k + 0 ≡ k = omega arith in subst (λ (i : ℕ). n < 8 ^ i) (sym e) h
appended_below n k (d ∷ ds) h x =
    let i = x.0 in
    let more : n * 8 + d < 8 ^ suc k = omega (arith, h, i, pow-suc 8 k) in
    let e : suc k + length ds ≡ k + suc (length ds) = omega arith in
    subst (λ (j : ℕ). appended 8 (n * 8 + d) ds < 8 ^ j) e (appended_below (n * 8 + d) (suc k) ds more x.1)

pub appended_more : (b n : ℕ) (ds es : List ℕ) → appended b n (ds ++ es) ≡ appended b (appended b n ds) es
unfolding appended
appended_more b n [] es = refl
appended_more b n (d ∷ ds) es = appended_more b (n * b + d) ds es

-- ---- LISTS ONE BEHIND THE OTHER
pub join_length : {A : Type 0} (ls ms : List (List A)) → map length ls ≡ map length ms → length (join ls) ≡ length (join ms)
unfolding join
join_length [] [] h = refl
join_length [] (m ∷ ms) h = let z = ap length h in absurd (omega (arith, z))
join_length (l ∷ ls) [] h = let z = ap length h in absurd (omega (arith, z))
join_length (l ∷ ls) (m ∷ ms) h =
    let i : length l ≡ length m = cc in
    let t : map length ls ≡ map length ms = cc in
    length-append l (join ls) ∙ ap₂ (λ (a b : ℕ). a + b) i (join_length ls ms t) ∙ sym (length-append m (join ms))

split_once : {A : Type 0} (a b c d : List A) → length a ≡ length b → a ++ c ≡ b ++ d → (a ≡ b) × (c ≡ d)
split_once [] [] c d l e = (refl, e)
split_once [] (y ∷ b) c d l e = absurd (omega arith)
split_once (x ∷ a) [] c d l e = absurd (omega arith)
split_once {A} (x ∷ a) (y ∷ b) c d l e =
    let h : x ≡ y = cc in
    let t : a ++ c ≡ b ++ d = cc in
    let q = split_once a b c d (omega arith) t in
    (ap₂ (λ (i : A) (j : List A). i ∷ j) h q.0, q.1)

join_once : {A : Type 0} (xs ys : List (List A)) → map length xs ≡ map length ys → join xs ≡ join ys → xs ≡ ys
unfolding join
join_once [] [] l e = refl
join_once [] (b ∷ ys) l e = let z = ap length l in absurd (omega (arith, z))
join_once (a ∷ xs) [] l e = let z = ap length l in absurd (omega (arith, z))
join_once {A} (a ∷ xs) (b ∷ ys) l e =
    let h : length a ≡ length b = cc in
    let t : map length xs ≡ map length ys = cc in
    let q = split_once a b (join xs) (join ys) h e in
    ap₂ (λ (i : List A) (j : List (List A)). i ∷ j) q.0 (join_once xs ys t q.1)

stores_once : (q r : List Entry) → Everywhere Plain q → Everywhere Plain r → locations q ≡ locations r → stored q ≡ stored r → q ≡ r
stores_once [] [] x y e f = refl
stores_once [] (b ∷ r) x y e f = let z = ap length e in absurd (omega (arith, z))
stores_once (a ∷ q) [] x y e f = let z = ap length e in absurd (omega (arith, z))
stores_once (a ∷ q) (b ∷ r) x y e f =
    let l : a.location ≡ b.location = cc in
    let v : a.value ≡ b.value = cc in
    let n : a.number ≡ b.number = x.0.0 ∙ sym y.0.0 in
    let ls : locations q ≡ locations r = cc in
    let vs : stored q ≡ stored r = cc in
    let same : a ≡ b = ap₂ (λ (i j : ℕ). let z : Entry = record { number = i; location = j; value = a.value } in z) n l ∙ ap (λ (i : ℕ). let z : Entry = record { number = b.number; location = b.location; value = i } in z) v in
    ap₂ (λ (i : Entry) (j : List Entry). i ∷ j) same (stores_once q r x.1 y.1 ls vs)

module _ (k : Key) (x : Shaped k) where
  places_small : Everywhere (λ n. n < 8) (locations (join k.queues))
  places_small = everywhere_map Plain (λ n. n < 8) (λ (e : Entry). e.location) (λ e p. p.1) (join k.queues) x.plain

  stored_small : Halves (stored (join k.queues))
  stored_small = everywhere_map Plain (λ n. n < 2 ^ 32) (λ (e : Entry). e.value) (λ e p. p.2) (join k.queues) x.plain

  many_lengths : length (map length k.queues ++ k.left) ≡ 12
  many_lengths = let a = length-append (map length k.queues) k.left in let b = length-map k.queues length in omega (arith, a, b, x.queues, x.left)

  -- THE WORDS: each of 64 bits, at most 27, the first not 0
  pub words_below : Everywhere (λ n. n < 2 ^ 64) (words_of k)
  unfolding words_of
  words_below =
      let fit : (b : ℕ) → 0 < b → (n : ℕ) (l : List ℕ) → length l ≤ n → Everywhere (λ i. i < b) l → number b l < b ^ n = λ b h n l i e. digits_fit b h (λ n. n) l n i (λ y m. everywhere_at (λ j. j < b) m e) in
      let a = fit 64 (omega arith) 9 (sets_of k) (omega (arith, x.near)) x.sets in
      let b = fit 32 (omega arith) 12 (map length k.queues ++ k.left) (omega (arith, many_lengths)) x.lengths in
      let few : 0 + length (locations (join k.queues)) ≤ 16 = omega (arith, length-map (join k.queues) (λ (e : Entry). e.location), x.sixteen) in
      let one : 0 < 8 ^ 0 = omega arith in
      let c = appended_below 0 0 (locations (join k.queues)) one places_small in
      let top = pow-le-pow_right {n = 8} (omega arith) {i = 0 + length (locations (join k.queues))} {j = 16} few in
      (omega (arith, a), (omega (arith, b), (omega (arith, c, top), everywhere_append (λ n. n < 2 ^ 64) (pairs (stored (join k.queues))) (pairs k.values) (pairs_below (stored (join k.queues)) stored_small) (pairs_below k.values x.values))))

  pub words_few : length (words_of k) ≤ 27
  unfolding words_of
  words_few = omega (
    arith,
    length-append (pairs (stored (join k.queues))) (pairs k.values),
    pairs_half (stored (join k.queues)),
    length-map (join k.queues) (λ (e : Entry). e.value),
    x.sixteen,
    pairs_half k.values,
    x.many,
  )

pub words_first : (n : ℕ) (k : Key) → get_or (padded n (words_of k)) 0 0 ≢ 0
unfolding words_of padded
words_first n k e = omega arith

-- ---- EQUAL WORDS
module _ (n : ℕ) (j k : Key) (x : Shaped j) (y : Shaped k) (e : padded n (words_of j) ≡ padded n (words_of k)) where
  pub sets_same : sets_of j ≡ sets_of k
  unfolding words_of padded
  sets_same =
      let f : 2 ^ 63 + number 64 (sets_of j) ≡ 2 ^ 63 + number 64 (sets_of k) = cc in
      number_once 64 (λ x y d e h i q. (omega arith, omega arith)) (sets_of j) (sets_of k) (omega (arith, x.near, y.near)) x.sets y.sets (omega (arith, f))

  lengths_same : (map length j.queues ≡ map length k.queues) × (j.left ≡ k.left)
  unfolding words_of padded
  lengths_same =
      let f : number 32 (map length j.queues ++ j.left) ≡ number 32 (map length k.queues ++ k.left) = cc in
      split_once (map length j.queues) (map length k.queues) j.left k.left (length-map j.queues length ∙ x.queues ∙ sym y.queues ∙ sym (length-map k.queues length))
      (number_once 32 (λ x y d e h i q. (omega arith, omega arith)) (map length j.queues ++ j.left) (map length k.queues ++ k.left) (many_lengths j x ∙ sym (many_lengths k y)) x.lengths y.lengths f)

  pub left_same : j.left ≡ k.left
  left_same = lengths_same.1

  as_many : length (join j.queues) ≡ length (join k.queues)
  as_many = join_length j.queues k.queues lengths_same.0

  as_many_of : (f : Entry → ℕ) → length (map f (join j.queues)) ≡ length (map f (join k.queues))
  as_many_of f = length-map (join j.queues) f ∙ as_many ∙ sym (length-map (join k.queues) f)

  places_same : locations (join j.queues) ≡ locations (join k.queues)
  unfolding words_of padded
  places_same =
      let f : appended 8 0 (locations (join j.queues)) ≡ appended 8 0 (locations (join k.queues)) = cc in
      (appended_once 8 (λ x y d e h i q. (omega arith, omega arith)) 0 0 (locations (join j.queues)) (locations (join k.queues)) (as_many_of (λ (e : Entry). e.location)) (places_small j x) (places_small k y) f).1

  -- what stands behind the first three
  tails : (pairs (stored (join j.queues)) ≡ pairs (stored (join k.queues)))
      × (pairs j.values ++ replicate (n - length (words_of j)) 0 ≡ pairs k.values ++ replicate (n - length (words_of k)) 0)
  unfolding words_of padded
  tails =
      let f : (pairs (stored (join j.queues)) ++ pairs j.values) ++ replicate (n - length (words_of j)) 0 ≡ (pairs (stored (join k.queues)) ++ pairs k.values) ++ replicate (n - length (words_of k)) 0 = cc in
      split_once (pairs (stored (join j.queues))) (pairs (stored (join k.queues))) (pairs j.values ++ replicate (n - length (words_of j)) 0) (pairs k.values ++ replicate (n - length (words_of k)) 0)
      (pairs_length (stored (join j.queues)) (stored (join k.queues)) (as_many_of (λ (e : Entry). e.value)))
      (sym (append_assoc (pairs (stored (join j.queues))) (pairs j.values) (replicate (n - length (words_of j)) 0)) ∙ f
      ∙ append_assoc (pairs (stored (join k.queues))) (pairs k.values) (replicate (n - length (words_of k)) 0))

  stored_same : stored (join j.queues) ≡ stored (join k.queues)
  stored_same = pairs_once (stored (join j.queues)) (stored (join k.queues)) (as_many_of (λ (e : Entry). e.value)) (stored_small j x) (stored_small k y) tails.0

  pub queues_same : j.queues ≡ k.queues
  queues_same = join_once j.queues k.queues lengths_same.0 (stores_once (join j.queues) (join k.queues) x.plain y.plain places_same stored_same)

  pub values_same : length j.values ≡ length k.values → j.values ≡ k.values
  values_same m = pairs_once j.values k.values m x.values y.values
      (split_once (pairs j.values) (pairs k.values) (replicate (n - length (words_of j)) 0) (replicate (n - length (words_of k)) 0) (pairs_length j.values k.values m) tails.1).0

  -- THE KEYS ARE EQUAL, where they have equally many values
  pub words_once : length j.values ≡ length k.values → j ≡ k
  words_once m =
      let s = sets_same in
      let a : j.late_accesses ≡ k.late_accesses = ap (λ (l : List ℕ). get_or l 0 0) s in
      let b : j.late_moves ≡ k.late_moves = ap (λ (l : List ℕ). get_or l 1 0) s in
      let c : j.far_moves ≡ k.far_moves = ap (λ (l : List ℕ). get_or l 2 0) s in
      let d : j.nearness ≡ k.nearness = ap (λ (l : List ℕ). drop 3 l) s in
      let mk : ℕ → ℕ → ℕ → List ℕ → List ℕ → List (List Entry) → List ℕ → Key =
      λ x y z w l q v. record { late_accesses = x; late_moves = y; far_moves = z; nearness = w; left = l; queues = q; values = v } in
      ap₂ (λ (x y : ℕ). mk x y j.far_moves j.nearness j.left j.queues j.values) a b
      ∙ ap₂ (λ (z : ℕ) (w : List ℕ). mk k.late_accesses k.late_moves z w j.left j.queues j.values) c d
      ∙ ap₂ (λ (l : List ℕ) (q : List (List Entry)). mk k.late_accesses k.late_moves k.far_moves k.nearness l q j.values) left_same queues_same
      ∙ ap (mk k.late_accesses k.late_moves k.far_moves k.nearness k.left k.queues) (values_same m)
