-- A buffer that a frame's line is written into, byte by byte.
use Prim.Native.Nat.{ℕ, ◌+◌, ◌*◌, ◌/◌, ◌%◌, ◌≤◌, ◌<◌}
use native.Mathlib.Numerals.{add-one}
use native.Mathlib.Omega.{arith}
use mathlib.Core.Path.{◌≡◌, sym, ◌∙◌, ap}
use mathlib.Core.List.{List, [], ◌∷◌, ◌++◌, append_assoc}
use lib.ListN.{length, get_or, set, take, length-append}
use lib.Seq.{take-suc, length-take-le, take-length}
use Rattle.spec_file.specs.Digit.{digit_of}
use Rattle.spec_file.specs.Text.{digits, text}
use Rattle.spec_file.specs.Over.{over}
use Rattle.spec_file.proofs.Over.{over_snoc}
use Rattle.spec_file.proofs.Text.{length_digits, digits_append}

length_digits_take : (f : List ℕ) (k : ℕ) → k ≤ length f → length (digits (take k f)) ≡ 2 * k
length_digits_take f k h = length_digits (take k f) ∙ ap (λ (n : ℕ). 2 * n) (length-take-le k f h)

digits_take : (f : List ℕ) (k : ℕ) → k < length f
    → digits (take (k + 1) f) ≡ (digits (take k f) ++ (digit_of (get_or f k 0 / 16) ∷ [])) ++ (digit_of (get_or f k 0 % 16) ∷ [])
unfolding digits
digits_take f k h =
    ap (λ (n : ℕ). digits (take n f)) (add-one k)
    ∙ ap digits (take-suc f k 0 h)
    ∙ digits_append (take k f) (get_or f k 0 ∷ [])
    ∙ sym (append_assoc (digits (take k f)) (digit_of (get_or f k 0 / 16) ∷ []) (digit_of (get_or f k 0 % 16) ∷ []))

-- the two digits of the byte at k, stored behind those of the bytes before it
pub over_byte : (f l out : List ℕ) (k x y : ℕ) → k < length f → 2 * length f + 1 ≤ length l → out ≡ over (digits (take k f)) l
    → x ≡ digit_of (get_or f k 0 / 16) → y ≡ digit_of (get_or f k 0 % 16) → set (set out (2 * k) x) (2 * k + 1) y ≡ over (digits (take (k + 1) f)) l
over_byte f l out k x y h room e ex ey =
    let t : List ℕ = digits (take k f) in
    let n : length t ≡ 2 * k = length_digits_take f k (omega arith) in
    let m : length (t ++ (x ∷ [])) ≡ 2 * k + 1 = length-append t (x ∷ []) ∙ ap (λ (j : ℕ). j + 1) n in
    ap (λ (o : List ℕ). set (set o (2 * k) x) (2 * k + 1) y) e
    ∙ ap (λ (o : List ℕ). set o (2 * k + 1) y) (over_snoc t l (2 * k) x n (omega arith))
    ∙ over_snoc (t ++ (x ∷ [])) l (2 * k + 1) y m (omega arith)
    ∙ ap (λ (v : ℕ). over ((t ++ (v ∷ [])) ++ (y ∷ [])) l) ex
    ∙ ap (λ (v : ℕ). over ((t ++ (digit_of (get_or f k 0 / 16) ∷ [])) ++ (v ∷ [])) l) ey
    ∙ ap (λ (u : List ℕ). over u l) (sym (digits_take f k h))

-- the 0a, stored behind all digits
pub over_last : (f l out : List ℕ) → 2 * length f + 1 ≤ length l → out ≡ over (digits (take (length f) f)) l
    → set out (2 * length f) 10 ≡ over (text f) l
unfolding text
over_last f l out room e =
    ap (λ (o : List ℕ). set o (2 * length f) 10) (e ∙ ap (λ (g : List ℕ). over (digits g) l) (take-length f))
    ∙ over_snoc (digits f) l (2 * length f) 10 (length_digits f) (omega arith)
