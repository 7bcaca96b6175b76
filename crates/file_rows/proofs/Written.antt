-- Bytes written one after the other.
use Prim.Native.Nat.{ℕ, ◌+◌, ◌≤◌, ◌<◌}
use native.Mathlib.Omega.{arith}
use mathlib.Core.Path.{◌≡◌, refl, ◌∙◌, ap, sym}
use mathlib.Core.Logic.{◌≢◌, inl, inr, ⊎_elim}
use mathlib.Core.Bool.{Bool, true, false}
use mathlib.Core.List.{List}
use lib.Dec.{eqb}
use lib.ListN.{length, get_or, set, length-set}
use lib.Seq.{get_or-set_same, get_or-set_other}
use borrow.Author.Tests.{eqb-true, eqb-false}
use Rattle.file_rows.specs.Bytes.{Written}

pub written_none : (l : List ℕ) (at : ℕ) (f : List ℕ) → Written l at f 0 l
written_none l at f = record { size = refl; inside = λ j h. absurd (omega arith); outside = λ k h. refl }

-- one byte more
pub written_more : (old : List ℕ) (at : ℕ) (f : List ℕ) (n : ℕ) (new : List ℕ) (v : ℕ) → Written old at f n new → at + n < length new → v ≡ get_or f n 0
    → Written old at f (n + 1) (set new (at + n) v)
written_more old at f n new v w h e = record {
  size = length-set new (at + n) v ∙ w.size;
  inside = λ j k. go j k (eqb j n) refl;
  outside = λ k s.
      let ne : k ≢ at + n = λ q. ⊎_elim (λ (l : k < at). omega arith) (λ (g : at + (n + 1) ≤ k). omega arith) s in
      get_or-set_other new (at + n) k v 0 ne
      ∙ w.outside k (⊎_elim (λ (l : k < at). inl l) (λ (g : at + (n + 1) ≤ k). inr (omega arith)) s);
}
  where
    go : (j : ℕ) → j < n + 1 → (b : Bool) → eqb j n ≡ b → get_or (set new (at + n) v) (at + j) 0 ≡ get_or f j 0
    go j k true p =
        let q = eqb-true j n p in
        ap (λ (i : ℕ). get_or (set new (at + n) v) (at + i) 0) q ∙ get_or-set_same new (at + n) v 0 h ∙ e ∙ ap (λ (i : ℕ). get_or f i 0) (sym q)
    go j k false p =
        let d = eqb-false j n p in
        let ne : at + j ≢ at + n = λ q. d (omega arith) in
        get_or-set_other new (at + n) (at + j) v 0 ne ∙ w.inside j (omega (arith, d))
