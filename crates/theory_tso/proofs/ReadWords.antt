-- What a thread's word is behind a step: the stepping thread's gains a digit or is lone, every other thread keeps its word.
use Prim.Native.Nat.{ℕ, zero, suc, ◌+◌, ◌*◌, ◌^◌, ◌<◌, ◌≤◌}
use mathlib.Core.Path.{◌≡◌, refl, sym, ap, ap₂, subst, ◌∙◌}
use mathlib.Core.Logic.{◌≢◌, ◌⊎◌, inl, inr, ⊎_elim}
use mathlib.Core.Bool.{Bool, true, false, cond, not, ◌&&◌, true≢false, false≢true}
use mathlib.Core.Option.{Option, none, some}
use mathlib.Core.List.{List, [], ◌∷◌, Memᴰ}
use native.Mathlib.Omega.{arith}
use native.Mathlib.Decide.{ℕ_discrete, dec_lt}
use lib.Dec.{eqb, ltb}
use lib.ListN.{length}
use borrow.Author.Tests.{eqb-true, eqb-false, eq-eqb, ne_eqb, ltb-true, ltb-false, lt-ltb, le-ltb}
use Rattle.spec_sc.specs.State.{Event, History, Cell, noted}
use Rattle.theory_search.specs.Standing.{silent}
use Rattle.theory_sc.proofs.ThreadWords.{digits_fit, digits_above}
use Rattle.theory_tso.specs.ReadWords.{sources_of, source_digit, digit, digits}

-- ---- sources
-- reads of some of the first n accesses, latest first
abbrev pub Numbered : ℕ → List (ℕ × Event) → Type 0
Numbered n [] = Unit {0}
Numbered n (r ∷ rs) = (r.0 < n) × Numbered r.0 rs

pub numbered_more : (n k : ℕ) (rs : List (ℕ × Event)) → n ≤ k → Numbered n rs → Numbered k rs
numbered_more n k [] h x = tt
numbered_more n k (r ∷ rs) h x = let i = x.0 in (omega arith, x.1)

-- one access more: a read of e, or none
unfoldable pub source_or : Bool → Event → Option Event
source_or true e = some e
source_or false e = none

sources_read : (n : ℕ) (e : Event) (rs : List (ℕ × Event)) → sources_of (suc n) ((n, e) ∷ rs) ≡ some e ∷ sources_of n rs
unfolding sources_of
sources_read n e rs = let q = eq-eqb n n refl in rw (q, sources_of)

sources_none : (n : ℕ) (rs : List (ℕ × Event)) → Numbered n rs → sources_of (suc n) rs ≡ none ∷ sources_of n rs
unfolding sources_of
sources_none n [] x = refl
sources_none n (r ∷ rs) x = let i = x.0 in let q = ne_eqb r.0 n (λ e. omega (arith, i, e)) in rw (q, sources_of)

pub sources_noted : (b : Bool) (e : Event) (h : History) → Numbered h.done h.reads → sources_of (noted b e h).done (noted b e h).reads ≡ source_or b e ∷ sources_of h.done h.reads
unfolding noted source_or
sources_noted true e h x = sources_read h.done e h.reads
sources_noted false e h x = sources_none h.done h.reads x

pub numbered_noted : (b : Bool) (e : Event) (h : History) → Numbered h.done h.reads → Numbered (noted b e h).done (noted b e h).reads
unfolding noted
numbered_noted true e h x = (omega arith, x)
numbered_noted false e h x = numbered_more h.done (suc h.done) h.reads (omega arith) x

pub sources_length : (n : ℕ) (rs : List (ℕ × Event)) → length (sources_of n rs) ≡ n
unfolding sources_of
sources_length zero rs = refl
sources_length (suc n) [] = ap suc (sources_length n [])
sources_length (suc n) (r ∷ rs) = go (eqb r.0 n) refl (sources_length n rs) (sources_length n (r ∷ rs))
  where
    go : (b : Bool) → eqb r.0 n ≡ b → length (sources_of n rs) ≡ n → length (sources_of n (r ∷ rs)) ≡ n → length (sources_of (suc n) (r ∷ rs)) ≡ suc n
    go true q i j = rw (q, sources_of) (ap suc i)
    go false q i j = rw (q, sources_of) (ap suc j)

-- ---- digits
-- each digit is one of 1 to 127
abbrev pub Small : ℕ → List (Option Event) → Type 0
Small t os = (o : Option Event) → Memᴰ o os → digit t o < 128

pub digit_positive : (t : ℕ) (o : Option Event) → 0 < digit t o
unfolding digit source_digit
digit_positive t none = omega arith
digit_positive t (some e) = go (eqb e.0 t) (ltb e.0 6)
  where
    go : (a b : Bool) → 0 < cond a (e.1 + 3) (cond b (e.0 * 16 + e.1 + 19) 2)
    go true b = omega arith
    go false true = omega arith
    go false false = omega arith

-- eight digits do not fit with one more, fewer do
pub word_room : (t n : ℕ) (os : List (Option Event)) → length os ≡ n → Small t os → ltb n 9 ≡ true → ltb (digits t os) (2 ^ 49) ≡ ltb (suc n) 9
word_room t n os e s h = go (dec_lt n 8)
  where
    top : 128 ^ 7 ≡ 2 ^ 49
    top = refl

    go : Dec (n < 8) → ltb (digits t os) (2 ^ 49) ≡ ltb (suc n) 9
    go (yes i) = lt-ltb (digits t os) (2 ^ 49) (omega (arith, top, digits_fit 128 (omega arith) (digit t) os 7 (omega arith) s)) ∙ sym (lt-ltb (suc n) 9 (omega arith))
    go (no i) = le-ltb (digits t os) (2 ^ 49) (full os e) ∙ sym (le-ltb (suc n) 9 (omega arith))
      where
        full : (xs : List (Option Event)) → length xs ≡ n → 2 ^ 49 ≤ digits t xs
        full [] q = absurd (omega (arith, q, i))
        full (x ∷ xs) q =
            let k : length xs ≡ 7 = omega (arith, q, i, ltb-true n 9 h) in
            omega (arith, digits_above 128 (omega arith) (digit t) x xs (digit_positive t), ap (λ (j : ℕ). 128 ^ j) k, top)
