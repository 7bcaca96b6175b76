-- ROWS OF OUTCOMES: which are known, and what one row more adds.
use Prim.Native.Nat.{ℕ, zero, suc, ◌+◌, ◌*◌, ◌<◌, ◌≤◌}
use mathlib.Core.Path.{◌≡◌, refl, sym, ap, ap₂, subst, ◌∙◌}
use mathlib.Core.Logic.{◌⊎◌, inl, inr, ◌≢◌, ⊎_elim}
use mathlib.Core.Bool.{Bool, true, false, true≢false, cond, not, ◌||◌}
use mathlib.Core.Option.{Option, none, some}
use mathlib.Core.List.{List, []}
use native.Mathlib.Omega.{arith}
use native.Mathlib.Decide.{dec_lt}
use lib.ListN.{length, get_or}
use lib.Seq.{paste, length-paste}
use borrow.Author.Tests.{not-true, not-false}
use Rattle.spec_file.proofs.Tests.{either}
use Rattle.spec_model.proofs.Permitted.{or_left, or_right}
use Rattle.spec_covers.specs.declared.outcome.Outcome.{Outcome}
use Rattle.table.specs.Said.{part, said_at}
use Rattle.table.proofs.Slot.{said_some, said_is}
use Rattle.table.proofs.Written.{part_written, part_before}
use Rattle.states_outcomes.specs.Rows.{told, row_of, known_row, is_new, Adds}

-- ---- a row
row_head : (o : Outcome) → get_or (row_of o) 0 0 ≢ 0
row_head o e = go o.fails refl
  where
    go : (b : Bool) → o.fails ≡ b → ⊥
    go true q = let z : ◌≡◌ {A = ℕ} 2 0 = sym (ap (λ (b : Bool). let n : ℕ = cond b 2 1 in n) q) ∙ e in omega arith
    go false q = let z : ◌≡◌ {A = ℕ} 1 0 = sym (ap (λ (b : Bool). let n : ℕ = cond b 2 1 in n) q) ∙ e in omega arith

sign_once : (b c : Bool) → ◌≡◌ {A = ℕ} (cond b 2 1) (cond c 2 1) → b ≡ c
sign_once true true e = refl
sign_once true false e = absurd (omega arith)
sign_once false true e = absurd (omega arith)
sign_once false false e = refl

abbrev outcome : List ℕ → Bool → Outcome
outcome m f = record { memory = m; fails = f }

pub row_once : (x y : Outcome) → row_of x ≡ row_of y → x ≡ y
row_once x y e =
    let h : ◌≡◌ {A = ℕ} (cond x.fails 2 1) (cond y.fails 2 1) = cc in
    let t : x.memory ≡ y.memory = cc in
    ap₂ outcome t (sign_once x.fails y.fails h)

told_some : (o : Option (List ℕ)) → told o ≡ true → (c : List ℕ) × (o ≡ some c)
told_some (some c) e = (c, refl)
told_some none e = absurd (true≢false (sym e))

-- ---- among the first so many
pub known_at : (rows row : List ℕ) (n k : ℕ) → k < n → told (said_at (9 * k) 0 rows row) ≡ true → known_row rows n row ≡ true
unfolding known_row
known_at rows row zero k h e = absurd (omega arith)
known_at rows row (suc n) k h e = go (dec_lt k n) (λ l. known_at rows row n k l e)
  where
    go : Dec (k < n) → (k < n → known_row rows n row ≡ true) → (known_row rows n row || told (said_at (9 * n) 0 rows row)) ≡ true
    go (yes l) ih = or_left (known_row rows n row) _ (ih l)
    go (no l) ih = let q : k ≡ n = omega (arith, h, l) in or_right (known_row rows n row) _ (subst (λ (i : ℕ). told (said_at (9 * i) 0 rows row) ≡ true) q e)

pub known_where : (rows row : List ℕ) (n : ℕ) → known_row rows n row ≡ true → (k : ℕ) × (k < n) × (told (said_at (9 * k) 0 rows row) ≡ true)
unfolding known_row
known_where rows row zero e = absurd (true≢false (sym e))
known_where rows row (suc n) e = ⊎_elim
    (λ (a : known_row rows n row ≡ true). let r = known_where rows row n a in let b = r.1 in (r.0, omega (arith, b), r.2))
    (λ (b : told (said_at (9 * n) 0 rows row) ≡ true). (n, omega arith, b)) (either (known_row rows n row) _ e)

-- over the rows in turn
pub known_none : (rows row : List ℕ) → false ≡ known_row rows 0 row
unfolding known_row
known_none rows row = refl

pub known_next : (rows row : List ℕ) (k : ℕ) → known_row rows k row ≡ false → told (said_at (9 * k) 0 rows row) ≡ false → known_row rows (k + 1) row ≡ false
unfolding known_row
known_next rows row k a b = let z : k + 1 ≡ suc k = omega arith in ap (λ (i : ℕ). known_row rows i row) z ∙ ap₂ (λ (x y : Bool). x || y) a b

-- ---- ONE ROW MORE, behind n
module _ (m : List ℕ) (n : ℕ) (o : Outcome) (eight : length o.memory ≡ 8) (room : 9 * n + 9 ≤ length m) (m' : List ℕ) (is : m' ≡ paste m (9 * n) (row_of o) 9) where
  nine : length (row_of o) ≡ 9
  nine = omega (arith, eight)

  fits : 9 * n + length (row_of o) ≤ length m
  fits = omega (arith, nine, room)

  written : m' ≡ paste m (9 * n) (row_of o) (length (row_of o))
  written = is ∙ ap (λ (i : ℕ). paste m (9 * n) (row_of o) i) (sym nine)

  as_long : length m' ≡ length m
  as_long = ap length written ∙ length-paste m (9 * n) (row_of o) (length (row_of o)) fits (omega arith)

  -- the new row stands there
  there : part m' (9 * n) (length (row_of o)) ≡ row_of o
  there = ap (λ (l : List ℕ). part l (9 * n) (length (row_of o))) written ∙ part_written m (row_of o) (9 * n) fits

  pub row_known : known_row m' (n + 1) (row_of o) ≡ true
  row_known = known_at m' (row_of o) (n + 1) n (omega arith)
      (ap told (said_is (9 * n) 0 m' (row_of o) [] (row_head o) (omega (arith, fits, as_long)) there refl))

  -- those before stand where they stood
  before : (k : ℕ) → k < n → (x : Outcome) → length x.memory ≡ 8 → part m' (9 * k) (length (row_of x)) ≡ part m (9 * k) (length (row_of x))
  before k h x e =
      ap (λ (l : List ℕ). part l (9 * k) (length (row_of x))) written ∙ part_before m (row_of o) (9 * n) fits (9 * k) (length (row_of x)) (omega (arith, e, h))

  pub row_stays : (x : Outcome) → length x.memory ≡ 8 → known_row m n (row_of x) ≡ true → known_row m' (n + 1) (row_of x) ≡ true
  row_stays x e q =
      let w = known_where m (row_of x) n q in
      let h = w.1 in
      let s = told_some (said_at (9 * w.0) 0 m (row_of x)) w.2 in
      let f = said_some (9 * w.0) 0 m (row_of x) s.0 s.1 in
      known_at m' (row_of x) (n + 1) w.0 (omega (arith, h))
      (ap told (said_is (9 * w.0) 0 m' (row_of x) [] (row_head x) (omega (arith, h, e, room, as_long)) (before w.0 h x e ∙ f.2) refl))

  pub row_new : (x : Outcome) → length x.memory ≡ 8 → known_row m' (n + 1) (row_of x) ≡ true → (known_row m n (row_of x) ≡ true) ⊎ (x ≡ o)
  row_new x e q = go (dec_lt w.0 n)
    where
      w : (k : ℕ) × (k < n + 1) × (told (said_at (9 * k) 0 m' (row_of x)) ≡ true)
      w = known_where m' (row_of x) (n + 1) q

      s : (c : List ℕ) × (said_at (9 * w.0) 0 m' (row_of x) ≡ some c)
      s = told_some (said_at (9 * w.0) 0 m' (row_of x)) w.2

      here : part m' (9 * w.0) (length (row_of x)) ≡ row_of x
      here = (said_some (9 * w.0) 0 m' (row_of x) s.0 s.1).2

      go : Dec (w.0 < n) → (known_row m n (row_of x) ≡ true) ⊎ (x ≡ o)
      go (yes h) = inl (known_at m (row_of x) n w.0 h
          (ap told (said_is (9 * w.0) 0 m (row_of x) [] (row_head x) (omega (arith, h, e, room)) (sym (before w.0 h x e) ∙ here) refl)))
      go (no h) =
          let b = w.1 in
          let k : w.0 ≡ n = omega (arith, b, h) in
          let l : length (row_of x) ≡ length (row_of o) = omega (arith, e, eight) in
          inr (row_once x o (sym here ∙ ap₂ (λ (i j : ℕ). part m' (9 * i) j) k l ∙ there))

  pub row_adds : Adds m n o m' (n + 1)
  row_adds = record { known = row_known; stays = row_stays; only = row_new }

-- WITH ONE OUTCOME MORE fewer are new, and it alone is so no more
module _ (rows : List ℕ) (n : ℕ) (o : Outcome) (rows' : List ℕ) (n' : ℕ) (adds : Adds rows n o rows' n') where
  pub adds_fewer : (x : Outcome) → length x.memory ≡ 8 → is_new rows' n' x ≡ true → is_new rows n x ≡ true
  adds_fewer x e q = go (known_row rows n (row_of x)) refl
    where
      go : (b : Bool) → known_row rows n (row_of x) ≡ b → not b ≡ true
      go true a = absurd (true≢false (sym (adds.stays x e a) ∙ not-true _ q))
      go false a = refl

  pub adds_only : (x : Outcome) → length x.memory ≡ 8 → is_new rows' n' x ≡ false → (is_new rows n x ≡ false) ⊎ (x ≡ o)
  adds_only x e q = ⊎_elim (λ (a : known_row rows n (row_of x) ≡ true). inl (ap not a)) (λ (i : x ≡ o). inr i) (adds.only x e (not-false _ q))
