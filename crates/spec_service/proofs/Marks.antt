-- WHICH MARK A NAME HAS: the first that bears it. Behind a set the name has the new mark, behind a forget none; other names keep theirs.
use Prim.Native.Nat.{ℕ, zero, suc, ◌+◌, ◌<◌, ◌≤◌}
use mathlib.Core.Path.{◌≡◌, refl, sym, ap, subst, ◌∙◌}
use mathlib.Core.Logic.{◌⊎◌, inl, inr, ⊎_elim}
use mathlib.Core.Bool.{Bool, true, false, cond, ◌&&◌, false≢true}
use mathlib.Core.Option.{Option, none, some}
use mathlib.Core.List.{List, [], ◌∷◌, map}
use native.Mathlib.Omega.{arith}
use lib.Dec.{eqb}
use lib.ListN.{length, take, replicate, get_or, set, length-set, length-map}
use borrow.Author.Tests.{eqb-true, eq-eqb}
use Rattle.spec_file.specs.Over.{over}
use Rattle.spec_file.proofs.Over.{take_over}
use Rattle.spec_file.specs.Program.{Program}
use Rattle.spec_file.specs.Lists.{same_list}
use Rattle.spec_file.proofs.DigitValues.{both}
use Rattle.spec_file.proofs.Lists.{same_list_is, same_list_lem}
use Rattle.spec_schedules.specs.Lists.{range, any, find}
use Rattle.spec_schedules.proofs.Lists.{find_yes, find_no, of_range}
use Rattle.spec_schedules.proofs.First.{find_passes}
use Rattle.spec_service.specs.declared.caller.Caller.{Caller}
use Rattle.spec_service.specs.declared.caller.Mark.{Mark}
use Rattle.spec_service.specs.Seat.{Place, beginning}
use Rattle.spec_service.specs.Record.{place_of, no_mark}
use Rattle.spec_service.specs.Marks.{same_name, is_some, name_fits, mark_place, name_of, bears, slot_of, is_free, slot_for, last_handed, new_mark, mark_at, emptied}
use Rattle.spec_service.specs.Lent.{or_beginning}
use Rattle.spec_service.proofs.Rotation.{find_member}

-- ---- the first member that passes a test
module _ {A : Type 0} (f : A → Bool) (d : A) where
  -- the first that passes, by its place: nowhere in both, or at i
  abbrev At : List A → Option ℕ → ℕ → Type 0
  At l o a = ((o ≡ none) × (find f l ≡ none)) ⊎ ((i : ℕ) × (b : ℕ) × (b ≡ a + i) × (o ≡ some b) × (find f l ≡ some (get_or l i d)))

  find_place : (l : List A) (a : ℕ) (g : ℕ → Bool) → ((i b : ℕ) → b ≡ a + i → g b ≡ f (get_or l i d)) → At l (find g (range a (length l))) a
  unfolding find range
  find_place [] a g h = inl (refl, refl)
  find_place (x ∷ l) a g h = go (f x) refl (find_place l (suc a) g (λ i b e. h (suc i) b (omega (arith, e))))
    where
      here : g a ≡ f x
      here = h 0 a (omega arith)

      go : (b : Bool) → f x ≡ b → At l (find g (range (suc a) (length l))) (suc a) → At (x ∷ l) (find g (a ∷ range (suc a) (length l))) a
      go true q r = inr (0, a, omega arith, find_yes g a (range (suc a) (length l)) (here ∙ q), find_yes f x l q)
      go false q (inl r) = inl (find_no g a (range (suc a) (length l)) (here ∙ q) ∙ r.0, find_no f x l q ∙ r.1)
      go false q (inr r) = inr (suc r.0, r.1, omega (arith, r.2), find_no g a (range (suc a) (length l)) (here ∙ q) ∙ r.3, find_no f x l q ∙ r.4)

  -- with no member that passes: a new one that does is the first
  find_new : (l : List A) (i : ℕ) (v : A) → find f l ≡ none → f v ≡ true → i < length l → find f (set l i v) ≡ some v
  find_new [] i v e h j = absurd (omega arith)
  find_new (x ∷ l) i v e h j = go (f x) refl i j (λ m. find_new l m v)
    where
      go : (b : Bool) → f x ≡ b → (i : ℕ) → i < length (x ∷ l) → ((m : ℕ) → find f l ≡ none → f v ≡ true → m < length l → find f (set l m v) ≡ some v) →
          find f (set (x ∷ l) i v) ≡ some v
      go true q i j ih = absurd (let z = sym (find_yes f x l q) ∙ e in let y : ◌≡◌ {A = ℕ} 0 1 = cc in omega arith)
      go false q zero j ih = find_yes f v l h
      go false q (suc i) j ih = find_no f x (set l i v) q ∙ ih i (sym (find_no f x l q) ∙ e) h (omega (arith, j))

  module _ (e : A → A) where
    -- where every member is made to fail, none is found
    find_emptied : ((x : A) → f (e x) ≡ false) → (l : List A) → find f (map e l) ≡ none
    unfolding find
    find_emptied h [] = refl
    find_emptied h (x ∷ l) = find_no f (e x) (map e l) (h x) ∙ find_emptied h l

    module _ (like : (x : A) → f (e x) ≡ f x) (still : (x : A) → f x ≡ true → e x ≡ x) where
      -- where those that pass are left, the same is found
      find_left : (l : List A) → find f (map e l) ≡ find f l
      find_left [] = refl
      find_left (x ∷ l) = go (f x) refl (find_left l)
        where
          go : (b : Bool) → f x ≡ b → find f (map e l) ≡ find f l → find f (map e (x ∷ l)) ≡ find f (x ∷ l)
          go true q ih = find_yes f (e x) (map e l) (like x ∙ q) ∙ ap some (still x q) ∙ sym (find_yes f x l q)
          go false q ih = find_no f (e x) (map e l) (like x ∙ q) ∙ ih ∙ sym (find_no f x l q)

      -- the first that passes stays if one that fails is put elsewhere
      find_other : (l : List A) (i : ℕ) (v : A) → f v ≡ false → (f (get_or l i d) ≡ true → any f (take i l) ≡ true) → find f (set (map e l) i v) ≡ find f l
      unfolding any
      find_other [] i v h k = refl
      find_other (x ∷ l) i v h k = go (f x) refl i k (λ m. find_other l m v h)
        where
          go : (b : Bool) → f x ≡ b → (i : ℕ) → (f (get_or (x ∷ l) i d) ≡ true → any f (take i (x ∷ l)) ≡ true) →
              ((m : ℕ) → (f (get_or l m d) ≡ true → any f (take m l) ≡ true) → find f (set (map e l) m v) ≡ find f l) → find f (set (map e (x ∷ l)) i v) ≡ find f (x ∷ l)
          go true q zero k ih = absurd (false≢true (k q))
          go true q (suc i) k ih = find_yes f (e x) (set (map e l) i v) (like x ∙ q) ∙ ap some (still x q) ∙ sym (find_yes f x l q)
          go false q zero k ih = find_no f v (map e l) h ∙ find_left l ∙ sym (find_no f x l q)
          go false q (suc i) k ih = find_no f (e x) (set (map e l) i v) (like x ∙ q)
              ∙ ih i (λ z. let w = k z in rw (q, any) at w) ∙ sym (find_no f x l q)

-- ---- names
-- a mark that bears a name holds a place, and that is its name
pub bears_parts : (p : Program) (n : List ℕ) (m : Mark) → bears p n m ≡ true → (is_some (mark_place p m) ≡ true) × (name_of m ≡ n)
unfolding bears
bears_parts p n m e = let b = both (is_some (mark_place p m)) (same_name (name_of m) n) e in (b.0, same_list_is eqb eqb-true (name_of m) n b.1)

pub is_some_lem : {A : Type 0} (o : Option A) → is_some o ≡ true → (x : A) × (o ≡ some x)
unfolding is_some
is_some_lem none e = absurd (false≢true e)
is_some_lem (some x) e = (x, refl)

pub bears_place : (p : Program) (n : List ℕ) (m : Mark) → bears p n m ≡ true → (x : Place) × (mark_place p m ≡ some x)
bears_place p n m e = is_some_lem (mark_place p m) (bears_parts p n m e).0

-- no mark bears two names
bears_one : (p : Program) (n m : List ℕ) (x : Mark) → same_name m n ≡ false → bears p m x ≡ true → bears p n x ≡ false
bears_one p n m x ne e = go (bears p n x) refl
  where
    go : (b : Bool) → bears p n x ≡ b → b ≡ false
    go false q = refl
    go true q = absurd (false≢true (sym ne ∙ subst (λ (z : List ℕ). same_name z n ≡ true) (sym (bears_parts p n x q).1 ∙ (bears_parts p m x e).1) (same_list_lem eqb (λ i. eq-eqb i i refl) n)))

bears_none : (p : Program) (n : List ℕ) → bears p n no_mark ≡ false
unfolding bears mark_place no_mark name_fits is_some
bears_none p n = refl

-- ---- where the mark of a name stands
-- the place of the mark that was found
unfoldable pub place_found : Program → Option Mark → Option Place
place_found p none = none
place_found p (some m) = mark_place p m

pub slot_at : (p : Program) (n : List ℕ) (ms : List Mark) → length ms ≡ 8 →
    ((slot_of p n ms ≡ none) × (find (bears p n) ms ≡ none)) ⊎ ((i : ℕ) × (slot_of p n ms ≡ some i) × (find (bears p n) ms ≡ some (get_or ms i no_mark)))
unfolding slot_of
slot_at p n ms h = ⊎_elim
    (λ (q : (find at (range 0 8) ≡ none) × (find (bears p n) ms ≡ none)). inl q)
    (λ (q : (i : ℕ) × (b : ℕ) × (b ≡ 0 + i) × (find at (range 0 8) ≡ some b) × (find (bears p n) ms ≡ some (get_or ms i no_mark))).
    let z : q.1 ≡ q.0 = omega (arith, q.2) in inr (q.0, q.3 ∙ ap some z, q.4))
    (subst (λ (j : ℕ). At (bears p n) no_mark ms (find at (range 0 j)) 0) h
    (find_place (bears p n) no_mark ms 0 at (λ i b e. let z : b ≡ i = omega (arith, e) in ap (λ (j : ℕ). bears p n (get_or ms j no_mark)) z)))
  where
    at : ℕ → Bool
    at i = bears p n (get_or ms i no_mark)

-- a mark of that name stands there
pub slot_of_lem : (p : Program) (n : List ℕ) (ms : List Mark) (i : ℕ) → slot_of p n ms ≡ some i → (i < 8) × (bears p n (get_or ms i no_mark) ≡ true)
unfolding slot_of
slot_of_lem p n ms i e =
    let at : ℕ → Bool = λ j. bears p n (get_or ms j no_mark) in
    let b = of_range 0 8 i (find_member at (range 0 8) i e) in
    (omega (arith, b.1), find_passes at (range 0 8) i e)

-- where a new one goes: a mark of that name stands there, or one that counts as free
pub slot_for_lem : (p : Program) (n : List ℕ) (ms : List Mark) (i : ℕ) → slot_for p n ms ≡ some i →
    (i < 8) × ((bears p n (get_or ms i no_mark) ≡ true) ⊎ (is_free p ms i ≡ true))
unfolding slot_for slot_of
slot_for_lem p n ms i e = go (slot_of p n ms) refl
  where
    at : ℕ → Bool
    at j = bears p n (get_or ms j no_mark)

    go : (o : Option ℕ) → slot_of p n ms ≡ o → (i < 8) × ((at i ≡ true) ⊎ (is_free p ms i ≡ true))
    go (some j) q =
        let z : some j ≡ some i = rw (q, slot_for) at e in
        let y : j ≡ i = cc in
        let b = of_range 0 8 i (find_member at (range 0 8) i (q ∙ z)) in
        (omega (arith, b.1), inl (find_passes at (range 0 8) i (q ∙ z)))
    go none q =
        let z : find (is_free p ms) (range 0 8) ≡ some i = rw (q, slot_for) at e in
        let b = of_range 0 8 i (find_member (is_free p ms) (range 0 8) i z) in
        (omega (arith, b.1), inr (find_passes (is_free p ms) (range 0 8) i z))

-- if a mark that counts as free bears a name, an earlier mark does
pub free_later : (p : Program) (n : List ℕ) (ms : List Mark) (i : ℕ) → is_free p ms i ≡ true → bears p n (get_or ms i no_mark) ≡ true → any (bears p n) (take i ms) ≡ true
unfolding is_free
free_later p n ms i e h =
    let b = bears_parts p n (get_or ms i no_mark) h in
    let z : any (bears p (name_of (get_or ms i no_mark))) (take i ms) ≡ true = rw b.0 at e in
    subst (λ (m : List ℕ). any (bears p m) (take i ms) ≡ true) b.1 z

-- ---- behind a forget
module _ (p : Program) (n m : List ℕ) where
  abbrev emptier : Mark → Mark
  emptier = λ x. cond (bears p m x) no_mark x

  gone : same_name m n ≡ true → (x : Mark) → bears p n (emptier x) ≡ false
  gone e x = go (bears p m x) refl
    where
      go : (b : Bool) → bears p m x ≡ b → bears p n (cond (bears p m x) no_mark x) ≡ false
      go true q = rw q (bears_none p n)
      go false q = rw q (subst (λ (k : List ℕ). bears p k x ≡ false) (same_list_is eqb eqb-true m n e) q)

  like : same_name m n ≡ false → (x : Mark) → bears p n (emptier x) ≡ bears p n x
  like e x = go (bears p m x) refl
    where
      go : (b : Bool) → bears p m x ≡ b → bears p n (cond (bears p m x) no_mark x) ≡ bears p n x
      go true q = rw q (bears_none p n ∙ sym (bears_one p n m x e q))
      go false q = rw q

  still : same_name m n ≡ false → (x : Mark) → bears p n x ≡ true → emptier x ≡ x
  still e x h = go (bears p m x) refl
    where
      go : (b : Bool) → bears p m x ≡ b → cond (bears p m x) no_mark x ≡ x
      go true q = absurd (false≢true (sym (bears_one p n m x e q) ∙ h))
      go false q = rw q

  -- behind a forget the forgotten name is unknown
  pub forgets_own : (ms : List Mark) → same_name m n ≡ true → find (bears p n) (emptied p m ms) ≡ none
  unfolding emptied
  forgets_own ms e = find_emptied (bears p n) no_mark emptier (gone e) ms

  -- behind a forget another name keeps its mark
  pub forgets_other : (ms : List Mark) → same_name m n ≡ false → find (bears p n) (emptied p m ms) ≡ find (bears p n) ms
  unfolding emptied
  forgets_other ms e = find_left (bears p n) no_mark emptier (like e) (still e) ms

  -- ---- behind a set: the name has the new mark
  pub sets_own : (ms : List Mark) (i : ℕ) (v : Mark) → length ms ≡ 8 → slot_for p m ms ≡ some i → same_name m n ≡ true → bears p m v ≡ true →
      find (bears p n) (set (emptied p m ms) i v) ≡ some v
  unfolding emptied
  sets_own ms i v h s e b =
      let j = (slot_for_lem p m ms i s).0 in
      let l : length (map emptier ms) ≡ 8 = length-map ms emptier ∙ h in
      find_new (bears p n) no_mark (map emptier ms) i v (find_emptied (bears p n) no_mark emptier (gone e) ms)
      (subst (λ (k : List ℕ). bears p k v ≡ true) (same_list_is eqb eqb-true m n e) b) (omega (arith, j, l))

  -- behind a set another name keeps its mark
  pub sets_other : (ms : List Mark) (i : ℕ) (v : Mark) → slot_for p m ms ≡ some i → same_name m n ≡ false → bears p m v ≡ true →
      find (bears p n) (set (emptied p m ms) i v) ≡ find (bears p n) ms
  unfolding emptied
  sets_other ms i v s e b = find_other (bears p n) no_mark emptier (like e) (still e) ms i v (bears_one p n m v e b)
      (λ q. ⊎_elim (λ (z : bears p m (get_or ms i no_mark) ≡ true). absurd (false≢true (sym (bears_one p n m (get_or ms i no_mark) e z) ∙ q)))
      (λ (z : is_free p ms i ≡ true). free_later p n ms i z q) (slot_for_lem p m ms i s).1)

-- ---- a new mark
at_beginning : (p : Program) (n : List ℕ) (c : Caller) → name_fits (length n) ≡ true → mark_place p (new_mark n c none) ≡ some (or_beginning none)
unfolding mark_place new_mark mark_at place_of or_beginning
at_beginning p n c e = rw e

at_handed : (p : Program) (n : List ℕ) (c : Caller) (x : Place) → name_fits (length n) ≡ true → place_of p 2 c.size c.newest ≡ some x →
    mark_place p (new_mark n c (some x)) ≡ some (or_beginning (some x))
unfolding mark_place new_mark mark_at or_beginning
at_handed p n c x e h = rw (e, h)

-- a new mark holds the place of the last schedule handed, or the beginning
pub new_place : (p : Program) (n : List ℕ) (c : Caller) → name_fits (length n) ≡ true → mark_place p (new_mark n c (last_handed p c)) ≡ some (or_beginning (last_handed p c))
unfolding last_handed
new_place p n c e = go (eqb c.handed 1) refl (place_of p 2 c.size c.newest) refl
  where
    go : (b : Bool) → eqb c.handed 1 ≡ b → (o : Option Place) → place_of p 2 c.size c.newest ≡ o →
        mark_place p (new_mark n c (cond (eqb c.handed 1) (place_of p 2 c.size c.newest) none)) ≡ some (or_beginning (cond (eqb c.handed 1) (place_of p 2 c.size c.newest) none))
    go false q o r = rw q (at_beginning p n c e)
    go true q none r = rw (q, r) (at_beginning p n c e)
    go true q (some x) r = rw (q, r) (at_handed p n c x e r)

-- a new mark bears its name
new_name : (n : List ℕ) (c : Caller) (o : Option Place) → name_of (new_mark n c o) ≡ n
unfolding name_of new_mark mark_at
new_name n c none = take_over n (replicate 8 0)
new_name n c (some x) = take_over n (replicate 8 0)

pub new_bears : (p : Program) (n : List ℕ) (c : Caller) → name_fits (length n) ≡ true → bears p n (new_mark n c (last_handed p c)) ≡ true
unfolding bears is_some
new_bears p n c e = rw (new_place p n c e, new_name n c (last_handed p c)) (same_list_lem eqb (λ i. eq-eqb i i refl) n)
