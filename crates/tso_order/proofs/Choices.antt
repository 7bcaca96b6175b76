-- Sets of threads as the code makes them: which it asks for, and what is left of them behind a step.
use Prim.Native.Nat.{ℕ, ◌+◌, ◌<◌, ◌≤◌}
use mathlib.Core.Path.{◌≡◌, refl, sym, ap, ap₂, ◌∙◌}
use mathlib.Core.Logic.{◌≢◌}
use mathlib.Core.Bool.{Bool, true, false, cond, not, ◌&&◌, ◌||◌, true≢false, false≢true}
use native.Mathlib.Omega.{arith}
use native.Mathlib.Decide.{ℕ_discrete, dec_lt}
use lib.Dec.{eqb, ltb}
use borrow.Author.Tests.{eq-eqb, ne_eqb, le-ltb}
use Rattle.spec_file.proofs.DigitValues.{both}
use Rattle.spec_file.proofs.Tests.{equal_tests}
use Rattle.spec_schedules.specs.Lists.{range, any}
use Rattle.spec_schedules.proofs.Lists.{in_range_lem, of_range, any_yes, any_of}
use Rattle.spec_sc.proofs.Same.{both_and}
use Rattle.spec_schedules.specs.Sets.{has}
use Rattle.theory_sc.specs.Sets.{set_of}
use Rattle.theory_sc.proofs.Sets.{has_none, set_has, set_same, set_none, set_own}
use Rattle.spec_tso.specs.State.{State, Kind, byte_for, enabled, owner, kind_of, step}
use Rattle.spec_tso.proofs.Steps.{thread_other, step_of_cells}
use Rattle.spec_tso.proofs.Bytes.{owner_for}
use Rattle.theory_tso.specs.LateBytes.{bytes_of}

-- an empty set
pub none_in : (f : ℕ → Bool) (s : ℕ) → s ≡ 0 → set_of (λ u. has s u && f u) 6 ≡ 0
none_in f s e = set_none (λ u. has s u && f u) 6 (λ u h. ap (λ (b : Bool). b && f u) (ap (λ (i : ℕ). has i u) e ∙ has_none u))

-- nobody was in the set, and no byte is smaller than b
neither : (a b c d : Bool) → c ≡ false → d ≡ false → (a && (b && (c || d))) ≡ false
neither a b c d e f = ap₂ (λ (x y : Bool). a && (b && (x || y))) e f ∙ none a b
  where
    none : (a b : Bool) → (a && (b && false)) ≡ false
    none true true = refl
    none true false = refl
    none false b = refl

pub none_smaller : (may before b first : ℕ) → before ≡ 0 → b ≤ first → set_of (λ u. has may u && (not (eqb b (u + first)) && (ltb (u + first) b || has before u))) 6 ≡ 0
none_smaller may before b first e l = set_none (λ u. has may u && (not (eqb b (u + first)) && (ltb (u + first) b || has before u))) 6
    (λ u h. neither (has may u) (not (eqb b (u + first))) (ltb (u + first) b) (has before u) (le-ltb (u + first) b (omega (arith, l))) (ap (λ (i : ℕ). has i u) e ∙ has_none u))

pub none_farther : (f : ℕ → ℕ → Bool) (may before b : ℕ) → before ≡ 0 → b ≤ 16 → set_of (λ t. has may t && (not (eqb b (t + 16)) && (any (λ u. f t u && ltb (u + 16) b) (range 0 t) || has before t))) 6 ≡ 0
none_farther f may before b e l = set_none (λ t. has may t && (not (eqb b (t + 16)) && (any (λ u. f t u && ltb (u + 16) b) (range 0 t) || has before t))) 6
    (λ t h. neither (has may t) (not (eqb b (t + 16))) (any (λ u. f t u && ltb (u + 16) b) (range 0 t)) (has before t) (nobody t) (ap (λ (i : ℕ). has i t) e ∙ has_none t))
  where
    nobody : (t : ℕ) → any (λ u. f t u && ltb (u + 16) b) (range 0 t) ≡ false
    nobody t = equal_tests (any (λ u. f t u && ltb (u + 16) b) (range 0 t)) false
        (λ q. let r = any_yes (λ u. f t u && ltb (u + 16) b) (range 0 t) q in sym (le-ltb (r.0 + 16) b (omega (arith, l))) ∙ (both (f t r.0) (ltb (r.0 + 16) b) r.2).1) (λ q. absurd (false≢true q))

pub or_not : (a b : Bool) → b ≡ false → (a || b) ≡ a
or_not true b e = refl
or_not false b e = e

-- of the numbers below t those that pass a second test are those below k
pub any_cut : (f g : ℕ → Bool) (k t : ℕ) → k ≤ t → ((u : ℕ) → u < k → g u ≡ true) → ((u : ℕ) → k ≤ u → u < t → g u ≡ false) → any (λ u. f u && g u) (range 0 t) ≡ any f (range 0 k)
any_cut f g k t h yes-below no_above = equal_tests (any (λ u. f u && g u) (range 0 t)) (any f (range 0 k)) there back
  where
    there : any (λ u. f u && g u) (range 0 t) ≡ true → any f (range 0 k) ≡ true
    there e =
        let r = any_yes (λ u. f u && g u) (range 0 t) e in
        let q = both (f r.0) (g r.0) r.2 in
        go (dec_lt r.0 k) q.0 q.1 (of_range 0 t r.0 r.1).1
      where
        go : {u : ℕ} → Dec (u < k) → f u ≡ true → g u ≡ true → u < 0 + t → any f (range 0 k) ≡ true
        go {u} (yes i) x y z = any_of f (range 0 k) u (in_range_lem 0 k u (omega arith) (omega arith)) x
        go {u} (no i) x y z = absurd (true≢false (sym y ∙ no_above u (omega arith) (omega arith)))

    back : any f (range 0 k) ≡ true → any (λ u. f u && g u) (range 0 t) ≡ true
    back e =
        let r = any_yes f (range 0 k) e in
        let i = (of_range 0 k r.0 r.1).1 in
        any_of (λ u. f u && g u) (range 0 t) r.0 (in_range_lem 0 t r.0 (omega arith) (omega (arith, i, h))) (both_and r.2 (yes-below r.0 (omega (arith, i))))

-- ---- behind a step
-- who may step but the stepping thread does not change
pub enabled_other : (σ : State) (b c : ℕ) → owner c ≢ owner b → enabled (step σ b) c ≡ enabled σ c
unfolding enabled step
enabled_other σ b c ne =
    let e = thread_other σ (kind_of b) (owner b) (owner c) ne in
    let n = step_of_cells σ (kind_of b) (owner b) in
    rw (e, n)

pub bytes_has : (f : ℕ → Bool) (k : Kind) (u : ℕ) → u < 6 → has (bytes_of f k) u ≡ f (byte_for k u)
unfolding bytes_of
bytes_has f k u h = set_has (λ t. f (byte_for k t)) 6 u h

pub bytes_same : (f : ℕ → Bool) (k : Kind) (g : ℕ → Bool) → ((u : ℕ) → u < 6 → g u ≡ f (byte_for k u)) → set_of g 6 ≡ bytes_of f k
unfolding bytes_of
bytes_same f k g e = set_same g (λ t. f (byte_for k t)) 6 e

-- one thread's bit anew
pub bit_same : (s t : ℕ) (on : Bool) → s < 64 → has s t ≡ on → s ≡ set_of (λ u. cond (eqb u t) on (has s u)) 6
bit_same s t on h e = sym (set_own s h) ∙ set_same (has s) (λ u. cond (eqb u t) on (has s u)) 6 (λ u l. go u (ℕ_discrete u t))
  where
    go : (u : ℕ) → Dec (u ≡ t) → has s u ≡ cond (eqb u t) on (has s u)
    go u (yes q) = ap (has s) q ∙ e ∙ sym (ap (λ (x : Bool). cond x on (has s u)) (eq-eqb u t q))
    go u (no q) = sym (ap (λ (x : Bool). cond x on (has s u)) (ne_eqb u t q))

pub bit_anew : (σ : State) (b : ℕ) (k : Kind) (s : ℕ) (on : Bool) (t : ℕ) → t ≡ owner b → s ≡ bytes_of (enabled σ) k → on ≡ enabled (step σ b) (byte_for k t) → set_of (λ u. cond (eqb u t) on (has s u)) 6 ≡ bytes_of (enabled (step σ b)) k
bit_anew σ b k s on t et es eo = bytes_same (enabled (step σ b)) k (λ u. cond (eqb u t) on (has s u)) (λ u h. go u h (ℕ_discrete u t))
  where
    go : (u : ℕ) → u < 6 → Dec (u ≡ t) → cond (eqb u t) on (has s u) ≡ enabled (step σ b) (byte_for k u)
    go u h (yes q) = ap (λ (x : Bool). cond x on (has s u)) (eq-eqb u t q) ∙ eo ∙ ap (λ (i : ℕ). enabled (step σ b) (byte_for k i)) (sym q)
    go u h (no q) =
        ap (λ (x : Bool). cond x on (has s u)) (ne_eqb u t q) ∙ ap (λ (i : ℕ). has i u) es ∙ bytes_has (enabled σ) k u h
        ∙ sym (enabled_other σ b (byte_for k u) (λ z. q (sym (owner_for k u (omega (arith, h))) ∙ z ∙ sym et)))

and_regrouped : (a b c d : Bool) → ((a && (b && c)) && d) ≡ (a && (b && (c && d)))
and_regrouped true true c d = refl
and_regrouped true false c d = refl
and_regrouped false b c d = refl

-- the ones chosen that need not wait: n says who may step, q who stepped, f who was or becomes so, w who waits
pub chosen_free : (k : Kind) (n q f w : ℕ → Bool) (s : ℕ) → s ≡ set_of (λ u. n (byte_for k u) && (not (q (byte_for k u)) && f (byte_for k u))) 6 →
    set_of (λ u. has s u && not (w (byte_for k u))) 6 ≡ bytes_of (λ c. n c && (not (q c) && (f c && not (w c)))) k
chosen_free k n q f w s e = bytes_same (λ c. n c && (not (q c) && (f c && not (w c)))) k (λ u. has s u && not (w (byte_for k u))) (λ u h.
    ap (λ (x : Bool). x && not (w (byte_for k u))) (ap (λ (i : ℕ). has i u) e ∙ set_has (λ u. n (byte_for k u) && (not (q (byte_for k u)) && f (byte_for k u))) 6 u h)
    ∙ and_regrouped (n (byte_for k u)) (not (q (byte_for k u))) (f (byte_for k u)) (not (w (byte_for k u))))

-- each thread chosen may step
pub chosen_may : (k : Kind) (n q f : ℕ → Bool) (s : ℕ) → s ≡ set_of (λ u. n (byte_for k u) && (not (q (byte_for k u)) && f (byte_for k u))) 6 → (u : ℕ) → u < 6 → has s u ≡ true → n (byte_for k u) ≡ true
chosen_may k n q f s e u h i = (both (n (byte_for k u)) _ (sym (ap (λ (j : ℕ). has j u) e ∙ set_has (λ u. n (byte_for k u) && (not (q (byte_for k u)) && f (byte_for k u))) 6 u h) ∙ i)).0
