-- A `02` line's members pass by the counts exactly when they pass by what has been read.
use Prim.Native.Nat.{ℕ, suc, ◌+◌, ◌≤◌, ◌<◌}
use native.Mathlib.Numerals.{add-one}
use native.Mathlib.Omega.{arith}
use mathlib.Core.Path.{◌≡◌, refl, ◌∙◌, ap, sym}
use mathlib.Core.Bool.{Bool, true, false, not, ◌&&◌}
use mathlib.Core.List.{List, [], ◌∷◌}
use lib.Dec.{eqb, ltb}
use lib.ListN.{length, get_or, drop, drop_of_length-le}
use lib.Seq.{drop-cons}
use borrow.Author.Tests.{lt-ltb, ltb-true, ne_eqb}
use Rattle.file_refusals.specs.declared.counts.Counts.{Counts}
use Rattle.spec_file.specs.Frames.{Frame, byte}
use Rattle.spec_file.specs.Decode.{Reading, thread_at, same_code, among, grouped, member_fits, followers_fit, members_fit}
use Rattle.file_refusals.specs.Held.{code_agrees, class_from, Bounded, Holds}
use Rattle.spec_file.proofs.DigitValues.{both}
use Rattle.file_refusals.proofs.HeldCode.{held_short, codes_agree}

-- no group has a thread exactly when its number is 0
class_none : (k t : ℕ) (gs : List (List ℕ)) → eqb (class_from (suc k) t gs) 0 ≡ not (grouped t gs)
unfolding class_from grouped
class_none k t [] = refl
class_none k t (g ∷ gs) = go (among t g) refl (class_none (suc k) t gs)
  where
    go : (b : Bool) → among t g ≡ b → eqb (class_from (suc (suc k)) t gs) 0 ≡ not (grouped t gs)
        → eqb (class_from (suc k) t (g ∷ gs)) 0 ≡ not (grouped t (g ∷ gs))
    go true e ih = rw (e, ne_eqb (suc k) 0 (λ z. omega arith))
    go false e ih = rw (e, ih)

-- what `is_free_lem` tests
abbrev pub is_free : Counts → ℕ → Bool
is_free s t = ltb t s.threads && (ltb t 6 && eqb (get_or s.class t 0) 0)

pub free_below : (s : Counts) (t : ℕ) → is_free s t ≡ true → t < 6
free_below s t e = ltb-true t 6 (both (ltb t 6) _ (both (ltb t s.threads) _ e).1).0

module _ (code : List ℕ) (s : Counts) (r : Reading) (bounded : Bounded s) (held : Holds code s r) where
  pub free_member : (t : ℕ) → is_free s t ≡ member_fits r t
  unfolding member_fits
  free_member t = go (ltb t s.threads) refl
    where
      six : s.threads ≤ 6
      six = bounded.six

      go : (b : Bool) → ltb t s.threads ≡ b → is_free s t ≡ (ltb t (length r.threads) && not (grouped t r.groups))
      go true e =
          let h = ltb-true t s.threads e in
          rw (← held.threads, e, lt-ltb t 6 (omega arith), held.class t (omega arith)) (class_none 0 t r.groups)
      go false e = rw (← held.threads, e)

  -- the first member
  pub members_start : (f : Frame) (t : ℕ) → 2 ≤ length f → t ≡ byte f 1 → members_fit r (drop 1 f) ≡ (is_free s t && followers_fit r t (drop 2 f))
  unfolding members_fit
  members_start f t h e =
      ap (members_fit r) (drop-cons f 1 0 (omega arith))
      ∙ ap (λ (u : ℕ). member_fits r u && followers_fit r u (drop 2 f)) (sym e)
      ∙ ap (λ (b : Bool). b && followers_fit r t (drop 2 f)) (sym (free_member t))

  -- a further member
  pub followers_more : (f : Frame) (t j u : ℕ) → j < length f → u ≡ byte f j
      → followers_fit r t (drop j f) ≡ (is_free s u && (ltb t u && (code_agrees code s.lengths t u && followers_fit r u (drop (j + 1) f))))
  unfolding followers_fit
  followers_more f t j u h e =
      ap (followers_fit r t) (drop-cons f j 0 h)
      ∙ ap (λ (v : ℕ). member_fits r v && (ltb t v && (same_code (thread_at r t) (thread_at r v) && followers_fit r v (drop (suc j) f)))) (sym e)
      ∙ ap (λ (b : Bool). b && (ltb t u && (same_code (thread_at r t) (thread_at r u) && followers_fit r u (drop (suc j) f)))) (sym (free_member u))
      ∙ ap (λ (b : Bool). is_free s u && (ltb t u && (b && followers_fit r u (drop (suc j) f)))) (sym (codes_agree code s r held t u (held_short code s r bounded held)))
      ∙ ap (λ (i : ℕ). is_free s u && (ltb t u && (code_agrees code s.lengths t u && followers_fit r u (drop i f)))) (sym (add-one j))

  -- behind the last member
  pub followers_none : (f : Frame) (t j : ℕ) → length f ≤ j → followers_fit r t (drop j f) ≡ true
  unfolding followers_fit
  followers_none f t j h = ap (followers_fit r t) (drop_of_length-le f h)
