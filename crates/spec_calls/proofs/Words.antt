-- A word tells what a call says exactly: kind, number, and length or place are read back from it, so that two answers that fit have one word only
-- where they are one answer.
use Prim.Native.Nat.{◌^◌, ◌<◌}
use mathlib.Core.Path.{◌≡◌, refl, sym, ap, ◌∙◌}
use native.Mathlib.Omega.{arith}
use Rattle.spec_calls.specs.Word.{Reply, answered, nothing, refused, second_refused, word_of, Fits, kind_in, number_in, rest_in, read_in}

pub read_back : (a : Reply) → Fits a → read_in (word_of a) ≡ a
unfolding read_in word_of kind_in number_in rest_in
read_back (answered n) h =
    let k : kind_in (word_of (answered n)) ≡ 1 = omega arith in
    let r : rest_in (word_of (answered n)) ≡ n = omega arith in
    rw (k, r)
read_back nothing h = refl
read_back (refused i n) h =
    let k : kind_in (word_of (refused i n)) ≡ 3 = omega arith in
    let j : number_in (word_of (refused i n)) ≡ i = omega arith in
    let r : rest_in (word_of (refused i n)) ≡ n = omega arith in
    rw (k, j, r)
read_back (second_refused i n) h =
    let k : kind_in (word_of (second_refused i n)) ≡ 4 = omega arith in
    let j : number_in (word_of (second_refused i n)) ≡ i = omega arith in
    let r : rest_in (word_of (second_refused i n)) ≡ n = omega arith in
    rw (k, j, r)

-- ONE WORD, ONE ANSWER
pub word_injective : (a b : Reply) → Fits a → Fits b → word_of a ≡ word_of b → a ≡ b
word_injective a b f g e = sym (read_back a f) ∙ ap read_in e ∙ read_back b g

-- a word of kind 1 is an answer, of the length that it tells; of a refusal it is enough that its number fits
abbrev pub Kinded : Reply → Type 0
Kinded (answered n) = n < 2 ^ 48
Kinded nothing = Unit {0}
Kinded (refused k n) = k < 256
Kinded (second_refused k n) = k < 256

pub kinded_one : (a : Reply) → Kinded a → kind_in (word_of a) ≡ 1 → a ≡ answered (rest_in (word_of a))
unfolding word_of kind_in rest_in
kinded_one (answered n) h e = let r : rest_in (word_of (answered n)) ≡ n = omega arith in ap answered (sym r)
kinded_one nothing h e = absurd (omega arith)
kinded_one (refused k n) h e = absurd (omega arith)
kinded_one (second_refused k n) h e = absurd (omega arith)

pub kind_one : (a : Reply) → Fits a → kind_in (word_of a) ≡ 1 → a ≡ answered (rest_in (word_of a))
kind_one a h e = kinded_one a (go a h) e
  where
    go : (b : Reply) → Fits b → Kinded b
    go (answered n) h = h
    go nothing h = tt
    go (refused k n) h = h.0
    go (second_refused k n) h = h.0
