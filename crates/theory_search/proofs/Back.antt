-- The walk back, among any steps: one step more, what it passes, and where it gets to.
use Prim.Native.Nat.{ℕ}
use mathlib.Core.Path.{◌≡◌, refl, sym, ap, ap₂, subst, ◌∙◌}
use mathlib.Core.Logic.{◌≢◌}
use mathlib.Core.Bool.{Bool, true, false, not, ◌&&◌, ◌||◌, false≢true}
use mathlib.Core.List.{List, [], ◌∷◌, ◌++◌, append_assoc, append-nil, reverse, reverse-cons, reverse-append, reverse-reverse}
use lib.Dec.{eqb}
use borrow.Author.Tests.{eqb-false, ne_eqb}
use Rattle.theory_search.specs.Back.{back}
use Rattle.spec_model.proofs.Permitted.{or_right}
use Rattle.spec_model.proofs.Passing.{Passed}

pub and_false : (b : Bool) → (b && false) ≡ false
and_false true = refl
and_false false = refl

module _ {D : Type 0} (who : D → ℕ) (dependent : D → D → Bool) (starts : D → ℕ → Bool) where
  abbrev goes : List D → D → Bool
  goes = back who dependent starts

  -- one step further back
  pub back_next : (e : D) (before : List D) (d : D) →
      back who dependent starts (e ∷ before) d ≡ (not (eqb (who e) (who d)) && ((starts e (who d) || back who dependent starts before d) && not (dependent e d)))
  unfolding back
  back_next e before d = go (eqb (who e) (who d)) refl (dependent e d) refl (starts e (who d)) refl (goes before d) refl
    where
      go : (x : Bool) → eqb (who e) (who d) ≡ x → (y : Bool) → dependent e d ≡ y → (z : Bool) → starts e (who d) ≡ z → (l : Bool) → goes before d ≡ l →
          goes (e ∷ before) d ≡ (not (eqb (who e) (who d)) && ((starts e (who d) || goes before d) && not (dependent e d)))
      go true i y j z k l m = rw (i, back)
      go false i true j z k l m = rw (i, j, back) (sym (and_false (starts e (who d) || goes before d)))
      go false i false j true k l m = rw (i, j, k, back)
      go false i false j false k true m = rw (i, j, k, m, back)
      go false i false j false k false m = rw (i, j, k, m, back)

  -- the walk goes by a step's byte and by what must stay before it
  pub back_same : (before : List D) (c d : D) → who c ≡ who d → ((e : D) → dependent e c ≡ dependent e d) → back who dependent starts before c ≡ back who dependent starts before d
  unfolding back
  back_same [] c d i j = refl
  back_same (e ∷ before) c d i j =
      back_next e before c
      ∙ ap₂ (λ (x y : Bool). not x && y) (ap (eqb (who e)) i) (ap₂ (λ (x y : Bool). x && not y) (ap₂ (λ (x y : Bool). x || y) (ap (starts e) i) (back_same before c d i j)) (j e))
      ∙ sym (back_next e before d)

  -- where no step starts it, it gets nowhere
  pub back_never : (before : List D) (d : D) → ((e : D) → starts e (who d) ≡ false) → back who dependent starts before d ≡ false
  unfolding back
  back_never [] d n = refl
  back_never (e ∷ before) d n =
      back_next e before d ∙ ap₂ (λ (x y : Bool). not (eqb (who e) (who d)) && ((x || y) && not (dependent e d))) (n e) (back_never before d n) ∙ and_false (not (eqb (who e) (who d)))

  -- the walk back starts at a step that it passes, and goes on over one
  pub back_here : (e : D) (before : List D) (d : D) → starts e (who d) ≡ true → who e ≢ who d → dependent e d ≡ false → back who dependent starts (e ∷ before) d ≡ true
  back_here e before d o n i = back_next e before d ∙ (let q = ne_eqb (who e) (who d) n in rw (q, o, i))

  pub back_over : (e : D) (before : List D) (d : D) → who e ≢ who d → dependent e d ≡ false → back who dependent starts before d ≡ true → back who dependent starts (e ∷ before) d ≡ true
  back_over e before d n i k = back_next e before d ∙ (let q = ne_eqb (who e) (who d) n in let o = or_right (starts e (who d)) (goes before d) k in rw (q, o, i))

  -- as far over more steps
  pub back_longer : (xs ys : List D) (d : D) → back who dependent starts xs d ≡ true → back who dependent starts (xs ++ ys) d ≡ true
  unfolding back
  back_longer [] ys d e = absurd (false≢true e)
  back_longer (x ∷ xs) ys d e = go (eqb (who x) (who d)) refl (dependent x d) refl (starts x (who d)) refl e (back_longer xs ys d)
    where
      go : (a : Bool) → eqb (who x) (who d) ≡ a → (c : Bool) → dependent x d ≡ c → (l : Bool) → starts x (who d) ≡ l → goes (x ∷ xs) d ≡ true → (goes xs d ≡ true → goes (xs ++ ys) d ≡ true) → goes (x ∷ (xs ++ ys)) d ≡ true
      go true q c m l o k ih = absurd (false≢true (rw (q, back) at k))
      go false q true m l o k ih = absurd (false≢true (rw (q, m, back) at k))
      go false q false m true o k ih = rw (q, m, o, back)
      go false q false m false o k ih = rw (q, m, o, back) (ih (rw (q, m, o, back) at k))

  -- the place that is reached, and all from there on passed
  pub record Reaches (acts : List D) (d : D) : Type 0 where
    pub front : List D
    pub there : D
    pub rest : List D
    pub split : acts ≡ front ++ (there ∷ rest)
    pub begins : starts there (who d) ≡ true
    pub passed : Passed who dependent (there ∷ rest) d

  reaches_back : (xs : List D) (z : List D) (d : D) → Passed who dependent z d → back who dependent starts xs d ≡ true → Reaches (reverse xs ++ z) d
  unfolding back
  reaches_back [] z d p e = absurd (false≢true e)
  reaches_back (x ∷ xs) z d p e = go (eqb (who x) (who d)) refl (dependent x d) refl (starts x (who d)) refl e (λ q k. reaches_back xs (x ∷ z) d q k)
    where
      whole : reverse (x ∷ xs) ++ z ≡ reverse xs ++ (x ∷ z)
      whole = ap (λ (k : List D). k ++ z) (reverse-cons x xs) ∙ append_assoc (reverse xs) (x ∷ []) z

      go : (a : Bool) → eqb (who x) (who d) ≡ a → (c : Bool) → dependent x d ≡ c → (l : Bool) → starts x (who d) ≡ l → goes (x ∷ xs) d ≡ true →
          (Passed who dependent (x ∷ z) d → goes xs d ≡ true → Reaches (reverse xs ++ (x ∷ z)) d) → Reaches (reverse (x ∷ xs) ++ z) d
      go true q c m l o k ih = absurd (false≢true (rw (q, back) at k))
      go false q true m l o k ih = absurd (false≢true (rw (q, m, back) at k))
      go false q false m true o k ih = record { front = reverse xs; there = x; rest = z; split = whole; begins = o; passed = (eqb-false (who x) (who d) q, m, p) }
      go false q false m false o k ih = subst (λ (v : List D). Reaches v d) (sym whole) (ih (eqb-false (who x) (who d) q, m, p) (rw (q, m, o, back) at k))

  -- what goes back reaches a place
  pub back_reaches : (acts : List D) (d : D) → back who dependent starts (reverse acts) d ≡ true → Reaches acts d
  back_reaches acts d e = subst (λ (v : List D). Reaches v d) (append-nil (reverse (reverse acts)) ∙ reverse-reverse acts) (reaches_back (reverse acts) [] d tt e)

  -- a place that is passed is reached
  reached_over : (rest : List D) (past : List D) (d : D) → Passed who dependent rest d → back who dependent starts past d ≡ true → back who dependent starts (reverse rest ++ past) d ≡ true
  reached_over [] past d p e = e
  reached_over (x ∷ rest) past d p e =
      ap (λ (k : List D). goes k d) (ap (λ (k : List D). k ++ past) (reverse-cons x rest) ∙ append_assoc (reverse rest) (x ∷ []) past)
      ∙ reached_over rest (x ∷ past) d p.2 (back_over x past d p.0 p.1 e)

  pub reaches_there : (front : List D) (there : D) (rest : List D) (d : D) → starts there (who d) ≡ true → Passed who dependent (there ∷ rest) d → back who dependent starts (reverse (front ++ (there ∷ rest))) d ≡ true
  reaches_there front there rest d o p =
      ap (λ (k : List D). goes k d)
      (reverse-append front (there ∷ rest) ∙ ap (λ (k : List D). k ++ reverse front) (reverse-cons there rest) ∙ append_assoc (reverse rest) (there ∷ []) (reverse front))
      ∙ reached_over rest (there ∷ reverse front) d p.2 (back_here there (reverse front) d o p.0 p.1)
