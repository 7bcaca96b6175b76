-- Ends of a list: what holds of every member holds of every member of an end, and equally long ends are equal.
use Prim.Native.Nat.{◌≤◌}
use mathlib.Core.Path.{◌≡◌, refl, sym, ap, subst, ◌∙◌}
use mathlib.Core.List.{List, [], ◌∷◌, ◌++◌, append_assoc, append-nil}
use native.Mathlib.Omega.{arith}
use lib.ListN.{length, length-append}
use Rattle.spec_file.specs.WellFormed.{Everywhere}

-- r is an end of c
abbrev pub Suffix : {A : Type 0} → List A → List A → Type 0
Suffix {A} r c = (front : List A) × (c ≡ front ++ r)

pub suffix_same : {A : Type 0} (c : List A) → Suffix c c
suffix_same c = ([], refl)

pub suffix_nil : {A : Type 0} (c : List A) → Suffix [] c
suffix_nil c = (c, sym (append-nil c))

pub suffix_cons : {A : Type 0} (i : A) {r c : List A} → Suffix r c → Suffix r (i ∷ c)
suffix_cons {A} i s = (i ∷ s.0, ap (λ (k : List A). i ∷ k) s.1)

pub suffix_trans : {A : Type 0} {q r c : List A} → Suffix q r → Suffix r c → Suffix q c
suffix_trans {A} {q} s u = (u.0 ++ s.0, u.1 ∙ ap (λ (k : List A). u.0 ++ k) s.1 ∙ sym (append_assoc u.0 s.0 q))

everywhere_back : {A : Type 0} (P : A → Type 0) (f r : List A) → Everywhere P (f ++ r) → Everywhere P r
everywhere_back P [] r h = h
everywhere_back P (x ∷ f) r h = everywhere_back P f r h.1

-- what holds of every member holds of every member of an end
pub suffix_everywhere : {A : Type 0} (P : A → Type 0) (r c : List A) → Suffix r c → Everywhere P c → Everywhere P r
suffix_everywhere P r c s h = everywhere_back P s.0 r (subst (Everywhere P) s.1 h)

pub suffix_length : {A : Type 0} (r c : List A) → Suffix r c → length r ≤ length c
suffix_length r c s = rw (s.1, length-append) (omega arith)

-- two ends of one list that are equally long are equal
pub suffix_equal : {A : Type 0} (c q r : List A) → Suffix q c → Suffix r c → length q ≡ length r → q ≡ r
suffix_equal {A} c q r s u e = go s.0 u.0 (sym s.1 ∙ u.1)
  where
    go : (f g : List A) → f ++ q ≡ g ++ r → q ≡ r
    go [] [] k = k
    go [] (y ∷ g) k = absurd (omega (arith, ap length k, length-append g r))
    go (x ∷ f) [] k = absurd (omega (arith, ap length k, length-append f q))
    go (x ∷ f) (y ∷ g) k = go f g cc
