-- Reads as digits: the numbers of their sources, one digit each. Threads that only read have the same reads where their
-- digits are the same, and stand alike where they began alike.
use Prim.Native.Nat.{ℕ, suc, ◌+◌, ◌<◌}
use mathlib.Core.Path.{◌≡◌, refl, sym, ap, ap₂, ◌∙◌}
use mathlib.Core.Logic.{◌≢◌}
use mathlib.Core.Bool.{Bool, true, false}
use mathlib.Core.List.{List, [], ◌∷◌, Memᴰ}
use native.Mathlib.Omega.{arith}
use lib.ListN.{length}
use Rattle.spec_sc.specs.Local.{Local, place_of, next}
use Rattle.spec_sc.specs.State.{Event}
use Rattle.spec_sc.specs.Same.{same_event}
use Rattle.spec_sc.proofs.Same.{same_event_is, is_same_event}
use Rattle.theory_sc.specs.ThreadWords as ThreadWords
use Rattle.theory_sc.proofs.ThreadWords as Law
use Rattle.theory_sc.proofs.ThreadWords.{Paired}

-- ---- numbers for events
-- one event more
unfoldable pub numbered : (Event → ℕ) → Event → ℕ → Event → ℕ
numbered code e n x = elim (same_event x e) [ true ↦ n | false ↦ code x ]

pub numbered_at : (code : Event → ℕ) (e : Event) (n : ℕ) (x : Event) → x ≡ e → numbered code e n x ≡ n
unfolding numbered
numbered_at code e n x q = rw (is_same_event x e q, numbered)

pub numbered_else : (code : Event → ℕ) (e : Event) (n : ℕ) (x : Event) → x ≢ e → numbered code e n x ≡ code x
unfolding numbered
numbered_else code e n x q = go (same_event x e) refl
  where
    go : (b : Bool) → same_event x e ≡ b → numbered code e n x ≡ code x
    go true k = absurd (q (same_event_is x e k))
    go false k = rw (k, numbered)

-- ---- digits
-- the numbers of the sources of these reads, the latest last
abbrev pub digits : (Event → ℕ) → List (ℕ × Event) → ℕ
digits code = ThreadWords.digits 32 (λ r. code r.1 + 1)

-- reads by all of the first n accesses, latest first
abbrev pub Plain : List (ℕ × Event) → ℕ → Type 0
Plain [] n = n ≡ 0
Plain (r ∷ rs) n = (n ≡ suc r.0) × Plain rs r.0

abbrev pub Sources : (Event → Type 0) → List (ℕ × Event) → Type 0
Sources P rs = (r : ℕ × Event) → Memᴰ r rs → P r.1

pub digits_same : (code code' : Event → ℕ) (rs : List (ℕ × Event)) → Sources (λ e. code' e ≡ code e) rs → digits code' rs ≡ digits code rs
digits_same code code' rs h = Law.digits_same 32 (omega arith) (λ r. code r.1 + 1) (λ r. code' r.1 + 1) rs (λ r m. ap (λ (n : ℕ). n + 1) (h r m))

pub plain_length : (rs : List (ℕ × Event)) (n : ℕ) → Plain rs n → length rs ≡ n
plain_length [] n q = sym q
plain_length (r ∷ rs) n q = ap suc (plain_length rs r.0 q.1) ∙ sym q.0

-- reads with the same digits are the same reads
pub digits_once : (code : Event → ℕ) (rs qs : List (ℕ × Event)) (n m : ℕ) → Plain rs n → Plain qs m → Sources (λ e. code e < 31) rs → Sources (λ e. code e < 31) qs →
    ((x y : ℕ × Event) → Memᴰ x rs → Memᴰ y qs → code x.1 ≡ code y.1 → x.1 ≡ y.1) → digits code rs ≡ digits code qs → rs ≡ qs
digits_once code rs qs n m p q h k once e =
    same rs qs n m p q (Law.digits_paired 32 (omega arith) (λ r. code r.1 + 1) (λ r. code r.1 + 1) (λ x y. x.1 ≡ y.1) rs qs
    (λ r i. let l = h r i in (omega arith, omega arith)) (λ r i. let l = k r i in (omega arith, omega arith)) (λ x y i j z. once x y i j (omega (arith, z))) e)
  where
    same : (rs qs : List (ℕ × Event)) (n m : ℕ) → Plain rs n → Plain qs m → Paired (λ (x y : ℕ × Event). x.1 ≡ y.1) rs qs → rs ≡ qs
    same [] [] n m p q z = refl
    same [] (y ∷ qs) n m p q z = absurd z
    same (x ∷ rs) [] n m p q z = absurd z
    same (x ∷ rs) (y ∷ qs) n m p q z =
        let rest = same rs qs x.0 y.0 p.1 q.1 z.1 in
        let number : x.0 ≡ y.0 = sym (plain_length rs x.0 p.1) ∙ ap length rest ∙ plain_length qs y.0 q.1 in
        ap₂ (λ (r : ℕ × Event) (l : List (ℕ × Event)). r ∷ l) (ap₂ (λ (i : ℕ) (d : Event). let w : ℕ × Event = (i, d) in w) number z.0) rest

-- ---- local states
-- where these reads lead a thread, if a read at l from e finds `val l e`
unfoldable pub led : (ℕ → Event → ℕ) → Local → List (ℕ × Event) → Local
led val h [] = h
led val h (r ∷ rs) = next (led val h rs) (val (place_of (led val h rs)) r.1)

pub led_same : (val val' : ℕ → Event → ℕ) (h : Local) (rs : List (ℕ × Event)) → Sources (λ e. (l : ℕ) → val' l e ≡ val l e) rs → led val' h rs ≡ led val h rs
unfolding led
led_same val val' h [] s = refl
led_same val val' h (r ∷ rs) s =
    ap (λ (k : Local). next k (val' (place_of k) r.1)) (led_same val val' h rs (λ x m. s x (Memᴰ.tail m)))
    ∙ ap (next (led val h rs)) (s r (Memᴰ.head refl) (place_of (led val h rs)))
