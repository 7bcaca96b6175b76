-- A round depends only on the values of the accesses that a text can name: a table of 16 numbers a thread holds it.
use Prim.Native.Nat.{ℕ, zero, suc, ◌<◌}
use mathlib.Core.Path.{◌≡◌, refl, sym, ap, ap₂, ◌∙◌}
use mathlib.Core.Logic.{◌⊎◌, inl, inr, ⊎_elim}
use mathlib.Core.Bool.{Bool, true, false}
use mathlib.Core.List.{List, [], ◌∷◌, Memᴰ}
use native.Mathlib.Omega.{arith}
use borrow.Author.Tests.{eqb-true}
use lib.Dec.{eqb}
use Rattle.spec_file.specs.Program.{Program}
use Rattle.spec_sc.specs.Local.{place_of, puts, next}
use Rattle.spec_sc.specs.State.{Event, initial_write}
use Rattle.spec_sc.specs.Graph.{Graph}
use Rattle.spec_judge.specs.Consistent.{row_of, Values, alone, local_at, location_of, out_of}
use Rattle.spec_sc.specs.Same.{same_event}
use Rattle.spec_judge.proofs.RoundValues.{source_in, or_zero, left_by, next_round}
use Rattle.spec_sc.proofs.Same.{is_same_event}
use Rattle.spec_judge.proofs.Readable.{Named, Source, Readable}

-- a row gives the initial write, or the source of one of its lines
source_cases : (rs : List (ℕ × Event)) (i : ℕ) → (source_in rs i ≡ initial_write) ⊎ Memᴰ (i, source_in rs i) rs
unfolding source_in
source_cases [] i = inl refl
source_cases (r ∷ rs) i = go (eqb r.0 i) refl (source_cases rs i)
  where
    go : (b : Bool) → eqb r.0 i ≡ b → (source_in rs i ≡ initial_write) ⊎ Memᴰ (i, source_in rs i) rs → (source_in (r ∷ rs) i ≡ initial_write) ⊎ Memᴰ (i, source_in (r ∷ rs) i) (r ∷ rs)
    go true q ih = rw (q, source_in) (inr (Memᴰ.head (ap (λ (k : ℕ). let x : ℕ × Event = (k, r.1) in x) (sym (eqb-true r.0 i q)))))
    go false q ih = rw (q, source_in) (⊎_elim (λ (h : source_in rs i ≡ initial_write). inl h) (λ (m : Memᴰ (i, source_in rs i) rs). inr (Memᴰ.tail m)) ih)

pub named_source : (n : ℕ) (g : Graph) → Readable n g → (e : Event) → Source n (source_in (row_of g e.0) e.1)
named_source n g R e = ⊎_elim (λ (h : source_in (row_of g e.0) e.1 ≡ initial_write). inl h)
    (λ (m : Memᴰ (e.1, source_in (row_of g e.0) e.1) (row_of g e.0)). (R.reads e.0 (e.1, source_in (row_of g e.0) e.1) m).1) (source_cases (row_of g e.0) e.1)

module _ (p : Program) (v w : Values) where
  -- a thread by itself goes by the values of its earlier accesses only
  pub alone_same : (t i : ℕ) → ((k : ℕ) → k < i → v (t, k) ≡ w (t, k)) → alone p v t i ≡ alone p w t i
  unfolding alone
  alone_same t zero h = refl
  alone_same t (suc i) h = ap₂ next (alone_same t i (λ k l. h k (omega arith))) (h i (omega arith))

  module _ (n : ℕ) (same : (e : Event) → Named n e → v e ≡ w e) where
    pub local_same : (e : Event) → Named n e → local_at p v e ≡ local_at p w e
    local_same e h = alone_same e.0 e.1 (λ k l. same (e.0, k) (h.0, omega (arith, h.1)))

    pub location_same : (e : Event) → Named n e → location_of p v e ≡ location_of p w e
    location_same e h = ap place_of (local_same e h)

    pub out_same : (e : Event) → Named n e → out_of p v e ≡ out_of p w e
    out_same e h = ap₂ puts (local_same e h) (same e h)

    left_same : (s : Event) (l : ℕ) → Source n s → left_by p v s l ≡ left_by p w s l
    unfolding left_by
    left_same s l (inl q) = rw (is_same_event s initial_write q, left_by)
    left_same s l (inr h) = go (same_event s initial_write) refl
      where
        go : (b : Bool) → same_event s initial_write ≡ b → left_by p v s l ≡ left_by p w s l
        go true q = rw (q, left_by)
        go false q = rw (q, left_by) (ap or_zero (out_same s h))

    pub round_same : (g : Graph) → Readable n g → (e : Event) → Named n e → next_round p g v e ≡ next_round p g w e
    unfolding next_round
    round_same g R e h = ap (left_by p v (source_in (row_of g e.0) e.1)) (location_same e h)
        ∙ left_same (source_in (row_of g e.0) e.1) (location_of p w e) (named_source n g R e)
