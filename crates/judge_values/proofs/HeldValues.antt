-- The table of values: after each round it holds the values of that round, for every access that a text can name.
use Prim.Native.Nat.{ℕ, zero, suc, ◌+◌, ◌*◌, ◌-◌, ◌<◌, ◌≤◌}
use mathlib.Core.Path.{◌≡◌, refl, sym, ap, ap₂, ◌∙◌}
use mathlib.Core.Logic.{◌⊎◌, inl, inr}
use mathlib.Core.Bool.{Bool, true, false, cond}
use mathlib.Core.List.{List, [], ◌∷◌}
use native.Mathlib.Omega.{arith}
use borrow.Author.Tests.{lt-ltb, ne_eqb}
use lib.Dec.{eqb, ltb}
use lib.ListN.{get_or, replicate}
use Rattle.spec_file.specs.Program.{Program, initial}
use Rattle.spec_file.specs.WellFormed.{all_accesses}
use Rattle.spec_sc.specs.State.{Event, initial_write}
use Rattle.spec_sc.specs.Graph.{Graph}
use Rattle.spec_judge.specs.Consistent.{row_of, location_of}
use Rattle.spec_sc.specs.Same.{same_event}
use Rattle.spec_judge.proofs.RoundValues.{source_in, left_by, next_round, values, final_values}
use Rattle.graph_reader.specs.Held.{no_line, line_in, Tabled}
use Rattle.judge_values.specs.HeldRounds.{values_in, RoundHeld, sourced}
use Rattle.judge_values.proofs.HeldRoundLoop.{zeros}
use Rattle.spec_judge.proofs.Readable.{Named, Source, Readable}
use Rattle.spec_judge.proofs.RoundTables.{named_source, round_same, location_same}

-- a row gives a line, or the initial write
line_source : (rs : List (ℕ × Event)) (i : ℕ) → ((line_in rs i ≡ no_line) × (source_in rs i ≡ initial_write)) ⊎ (line_in rs i ≡ source_in rs i)
unfolding line_in source_in
line_source [] i = inl (refl, refl)
line_source (r ∷ rs) i = go (eqb r.0 i) refl (line_source rs i)
  where
    go : (b : Bool) → eqb r.0 i ≡ b → ((line_in rs i ≡ no_line) × (source_in rs i ≡ initial_write)) ⊎ (line_in rs i ≡ source_in rs i)
        → ((line_in (r ∷ rs) i ≡ no_line) × (source_in (r ∷ rs) i ≡ initial_write)) ⊎ (line_in (r ∷ rs) i ≡ source_in (r ∷ rs) i)
    go true q ih = inr (rw (q, source_in))
    go false q ih = rw (q, source_in) ih

-- values that a round leaves as they are stay so
values_stay : (p : Program) (g : Graph) (n : ℕ) → Readable n g → (k : ℕ) → ((e : Event) → Named n e → values p g (suc k) e ≡ values p g k e) → (d j : ℕ) → j ≡ d + k
    → (e : Event) → Named n e → values p g j e ≡ values p g k e
unfolding values
values_stay p g n R k still zero j q e h = ap (λ (i : ℕ). values p g i e) (let z : j ≡ k = omega (arith, q) in z)
values_stay p g n R k still (suc d) j q e h =
    ap (λ (i : ℕ). values p g i e) (let z : j ≡ suc (d + k) = omega (arith, q) in z)
    ∙ round_same p (values p g (d + k)) (values p g k) n (values_stay p g n R k still d (d + k) refl) g R e h ∙ still e h

-- what is left behind a line of the table: `first`, where it names no event
abbrev behind : List ℕ → ℕ → Event → ℕ
behind left first e = cond (ltb e.0 6) (cond (ltb e.1 16) (get_or left (e.0 * 16 + e.1) 0) first) first

module _ (n : ℕ) (few : n ≤ 6) (p : Program) (vs places left : List ℕ) (R : RoundHeld n p vs places left) where
  -- what memory starts with at l
  abbrev at_first : ℕ → ℕ
  at_first l = get_or (initial p) l 0

  left_none : (l : ℕ) → at_first l ≡ left_by p (values_in vs) initial_write l
  unfolding left_by same_event initial_write
  left_none l = refl

  left_named : (s : Event) (l : ℕ) → Named n s → behind left (at_first l) s ≡ left_by p (values_in vs) s l
  unfolding left_by same_event initial_write
  left_named s l h =
      let a = h.0 in
      let b = h.1 in
      rw (lt-ltb s.0 6 (omega arith), lt-ltb s.1 16 (omega arith), ne_eqb s.0 255 (λ q. omega arith), left_by) (R.leaves s.0 s.1 h.0 (omega arith))

  left_source : (s : Event) (l : ℕ) → Source n s → behind left (at_first l) s ≡ left_by p (values_in vs) s l
  unfolding initial_write
  left_source s l (inl q) = ap (behind left (at_first l)) q ∙ left_none l ∙ sym (ap (λ (x : Event). left_by p (values_in vs) x l) q)
  left_source s l (inr h) = left_named s l h

  module _ (pairs counts starting : List ℕ) (g : Graph) (readable : Readable n g) (T : Tabled pairs counts g) (S : starting ≡ initial p) where
    pub sourced_is : (t i : ℕ) → t < n → i < 16 → sourced pairs left places starting (t * 16 + i) ≡ next_round p g (values_in vs) (t, i)
    unfolding sourced next_round no_line
    sourced_is t i a b =
        ap₂ (λ (x y : ℕ). behind left (get_or starting (get_or places (t * 16 + i) 0) 0) (x, y)) E.0 E.1
        ∙ ap (λ (x : ℕ). behind left x (line_in (row_of g t) i)) (ap₂ (λ (m : List ℕ) (l : ℕ). get_or m l 0) S (R.at t i a b))
        ∙ go (line_source (row_of g t) i)
      where
        l : ℕ
        l = location_of p (values_in vs) (t, i)

        E : (get_or pairs ((t * 16 + i) * 2) 0 ≡ (line_in (row_of g t) i).0) × (get_or pairs ((t * 16 + i) * 2 + 1) 0 ≡ (line_in (row_of g t) i).1)
        E = T.sources t i (omega arith) b

        go : ((line_in (row_of g t) i ≡ no_line) × (source_in (row_of g t) i ≡ initial_write)) ⊎ (line_in (row_of g t) i ≡ source_in (row_of g t) i)
            → behind left (at_first l) (line_in (row_of g t) i) ≡ left_by p (values_in vs) (source_in (row_of g t) i) l
        go (inl q) = ap (behind left (at_first l)) q.0 ∙ left_none l ∙ sym (ap (λ (x : Event). left_by p (values_in vs) x l) q.1)
        go (inr q) = ap (behind left (at_first l)) q ∙ left_source (source_in (row_of g t) i) l (named_source n g readable (t, i))

    -- a round more
    pub values_more : (k : ℕ) → ((e : Event) → Named n e → values_in vs e ≡ values p g k e) → (ws : List ℕ) → ((j : ℕ) → j < 16 * n → get_or ws j 0 ≡ sourced pairs left places starting j)
        → (e : Event) → Named n e → values_in ws e ≡ values p g (k + 1) e
    unfolding values
    values_more k same ws W e h =
        let a = h.0 in
        let b = h.1 in
        W (e.0 * 16 + e.1) (omega arith) ∙ sourced_is e.0 e.1 h.0 (omega arith)
        ∙ round_same p (values_in vs) (values p g k) n same g readable e h ∙ sym (ap (λ (j : ℕ). values p g j e) (let z : k + 1 ≡ suc k = omega arith in z))

    -- where accesses go
    pub places_are : (k : ℕ) → ((e : Event) → Named n e → values_in vs e ≡ values p g k e) → k ≡ all_accesses p.threads - 1 → (t i : ℕ) → t < n → i < 16
        → get_or places (t * 16 + i) 0 ≡ location_of p (final_values p g) (t, i)
    places_are k same q t i a b = R.at t i a b ∙ location_same p (values_in vs) (values p g k) n same (t, i) (a, omega arith) ∙ ap (λ (j : ℕ). location_of p (values p g j) (t, i)) q

    -- values that a round leaves as they are stay so, so that accesses go where they go on the last round's
    pub places_stay : (k : ℕ) → ((e : Event) → Named n e → values_in vs e ≡ values p g k e) → k < all_accesses p.threads - 1 → (ws : List ℕ) → ((j : ℕ) → j < 16 * n → get_or ws j 0 ≡ sourced pairs left places starting j)
        → ((j : ℕ) → j < 16 * n → get_or ws j 0 ≡ get_or vs j 0) → (t i : ℕ) → t < n → i < 16 → get_or places (t * 16 + i) 0 ≡ location_of p (final_values p g) (t, i)
    places_stay k same b ws W unmoved t i h j =
        R.at t i h j ∙ location_same p (values_in vs) (final_values p g) n (λ e a. same e a ∙ sym (values_stay p g n readable k still (all_accesses p.threads - 1 - k) (all_accesses p.threads - 1) (omega (arith, b)) e a)) (t, i) (h, omega arith)
      where
        still : (e : Event) → Named n e → values p g (suc k) e ≡ values p g k e
        still e a =
            let x = a.0 in
            let y = a.1 in
            ap (λ (z : ℕ). values p g z e) (let z : suc k ≡ k + 1 = omega arith in z) ∙ sym (values_more k same ws W e a) ∙ unmoved (e.0 * 16 + e.1) (omega arith) ∙ same e a

-- before the first round
pub values_start : (p : Program) (g : Graph) (e : Event) → values_in (replicate 96 0) e ≡ values p g 0 e
unfolding values
values_start p g e = zeros 96 (e.0 * 16 + e.1)
