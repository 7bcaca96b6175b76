-- Eight values written one after the other.
use Prim.Native.Nat.{ℕ, suc, ◌+◌, ◌*◌, ◌-◌, ◌<◌, ◌≤◌}
use mathlib.Core.Path.{◌≡◌, refl, sym, ap, ap₂, ◌∙◌}
use mathlib.Core.List.{List, [], ◌∷◌, ◌++◌, flat_map, append_assoc, append-nil}
use native.Mathlib.Omega.{arith}
use lib.ListN.{length, get_or, take, drop, length-append}
use lib.Seq.{take-suc, take_at, take_all, drop_at, drop-drop, length-take-le}
use borrow.Rule.Slice.PartMut.{mid_of, put_mid}
use Rattle.spec_file.specs.Over.{over}
use Rattle.spec_file.proofs.Over.{over_part}
use Rattle.spec_outcomes.specs.OutcomesCall.{four_bytes}

pub four_length : (v : ℕ) → length (four_bytes v) ≡ 4
unfolding four_bytes
four_length v = refl

pub values_length : (vs : List ℕ) → length (flat_map four_bytes vs) ≡ 4 * length vs
unfolding flat_map
values_length [] = refl
values_length (v ∷ vs) = length-append (four_bytes v) (flat_map four_bytes vs) ∙ omega (arith, four_length v, values_length vs)

values_append : (xs ys : List ℕ) → flat_map four_bytes (xs ++ ys) ≡ flat_map four_bytes xs ++ flat_map four_bytes ys
unfolding flat_map
values_append [] ys = refl
values_append (x ∷ xs) ys =
    ap (λ (t : List ℕ). four_bytes x ++ t) (values_append xs ys) ∙ sym (append_assoc (four_bytes x) (flat_map four_bytes xs) (flat_map four_bytes ys))

one_value : (v : ℕ) → flat_map four_bytes (v ∷ []) ≡ four_bytes v
unfolding flat_map
one_value v = append-nil (four_bytes v)

-- nothing is written yet
pub values_none : (m l : List ℕ) → l ≡ over (flat_map four_bytes (take 0 m)) l
unfolding over flat_map
values_none m l = refl

-- a text put in behind a text
put_behind : (t u l : List ℕ) (a : ℕ) → length t ≡ a → put_mid a (length u) (over t l) u ≡ over (t ++ u) l
unfolding over
put_behind t u l a e =
    ap₂ (λ (x y : List ℕ). x ++ (u ++ y)) (take_at t (drop (length t) l) a e) (ap (drop (length u)) (drop_at t (drop (length t) l) a e) ∙ drop-drop (length u) (length t) l)
    ∙ sym (ap (λ (j : ℕ). (t ++ u) ++ drop j l) (length-append t u) ∙ append_assoc t u (drop (length t + length u) l))

-- one value more
pub value_more : (m l out ys : List ℕ) (k n : ℕ) → length m ≡ 8 → k < 8 → n ≡ 4 → out ≡ over (flat_map four_bytes (take k m)) l → ys ≡ four_bytes (get_or m k 0)
    → put_mid (4 * k) n out ys ≡ over (flat_map four_bytes (take (k + 1) m)) l
value_more m l out ys k n e h four is put =
    let t : List ℕ = flat_map four_bytes (take k m) in
    let c : length (take k m) ≡ k = length-take-le k m (omega (arith, e, h)) in
    let at : length t ≡ 4 * k = values_length (take k m) ∙ ap (λ (i : ℕ). 4 * i) c in
    let j : suc k ≡ k + 1 = omega arith in
    ap₂ (λ (i : ℕ) (x : List ℕ). put_mid (4 * k) i x ys) (four ∙ sym (ap length put ∙ four_length (get_or m k 0))) is
    ∙ put_behind t ys l (4 * k) at
    ∙ ap (λ (x : List ℕ). over (t ++ x) l) put
    ∙ ap (λ (x : List ℕ). over x l) (ap (λ (x : List ℕ). t ++ x) (sym (one_value (get_or m k 0))) ∙ sym (values_append (take k m) (get_or m k 0 ∷ []))
    ∙ ap (λ (x : List ℕ). flat_map four_bytes x) (sym (take-suc m k 0 (omega (arith, e, h))) ∙ ap (λ (i : ℕ). take i m) j))

pub values_all : (m l out : List ℕ) (k : ℕ) → length m ≡ 8 → 8 ≤ k → out ≡ over (flat_map four_bytes (take k m)) l → out ≡ over (flat_map four_bytes m) l
values_all m l out k e h is = is ∙ ap (λ (t : List ℕ). over (flat_map four_bytes t) l) (take_all k m (omega (arith, e, h)))

-- values and then a schedule's row, behind a text
pub row_put : (t l out ys zs : List ℕ) (at w : ℕ) (m row : List ℕ) → out ≡ over t l → length t ≡ at → length out ≡ length l → length m ≡ 8 → at + w + 34 ≤ length out
    → ys ≡ over (flat_map four_bytes m) (mid_of at (length out - at) out)
    → zs ≡ over row (mid_of (at + 32) (length (put_mid at (length out - at) out ys) - (at + 32)) (put_mid at (length out - at) out ys))
    → put_mid (at + 32) (length (put_mid at (length out - at) out ys) - (at + 32)) (put_mid at (length out - at) out ys) zs ≡ over (t ++ (flat_map four_bytes m ++ row)) l
row_put t l out ys zs at w m row is ends same eight room values put =
    let v : List ℕ = flat_map four_bytes m in
    let first : put_mid at (length out - at) out ys ≡ over (t ++ v) l = over_part t v l out ys at is ends (omega (arith, ends, same, room)) values in
    let n : length (t ++ v) ≡ at + 32 = length-append t v ∙ omega (arith, ends, values_length m, eight) in
    over_part (t ++ v) row l (put_mid at (length out - at) out ys) zs (at + 32) first n (omega (arith, n, same, room)) put
    ∙ ap (λ (x : List ℕ). over x l) (append_assoc t v row)
