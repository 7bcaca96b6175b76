-- NINTH: no mark is free exactly where eight names are known. Each name has its own mark, and none of these is free.
use Prim.Native.Nat.{ℕ, zero, suc, ◌+◌, ◌<◌, ◌≤◌}
use mathlib.Core.Path.{◌≡◌, refl, sym, ap, subst, ◌∙◌}
use mathlib.Core.Logic.{◌⊎◌, inl, inr, ⊎_elim}
use mathlib.Core.Bool.{Bool, true, false, cond, ◌&&◌, false≢true}
use mathlib.Core.Option.{Option, none, some}
use mathlib.Core.List.{List, [], ◌∷◌, map, Memᴰ}
use native.Mathlib.Omega.{arith}
use native.Mathlib.Decide.{ℕ_discrete}
use borrow.Author.Tests.{eq-eqb, le-ltb, ltb-true, ltb-false, leb-true}
use lib.Dec.{eqb, ltb, leb}
use lib.ListN.{length, take, get_or, length-map, length-take}
use Rattle.spec_file.specs.Program.{Program}
use Rattle.spec_file.proofs.DigitValues.{both}
use Rattle.spec_file.proofs.Lists.{same_list_lem}
use Rattle.spec_schedules.specs.Lists.{range, any, find, head_of, filter, Distinct}
use Rattle.spec_schedules.proofs.Lists.{find_yes, find_no, in_range_lem, of_range, in_filter, range_ascends, range_length}
use Rattle.spec_schedules.proofs.First.{head_filter}
use Rattle.spec_model.proofs.Counting.{distinct_within, distinct_mapped, distinct_ascends}
use Rattle.spec_service.specs.declared.caller.Mark.{Mark}
use Rattle.spec_service.specs.Seat.{Place}
use Rattle.spec_service.specs.Record.{place_of, no_mark}
use Rattle.spec_service.specs.Marks.{is_some, name_fits, mark_place, name_of, bears, slot_of, is_free, slot_for}
use Rattle.spec_service.proofs.Marks.{bears_parts, slot_of_lem, slot_for_lem, free_later}

-- ---- tests over a range and over the front of a list
-- where none is found none passes
none_passes : {A : Type 0} (f : A → Bool) (l : List A) (x : A) → find f l ≡ none → Memᴰ x l → f x ≡ false
unfolding head_of
none_passes {A} f l x e m = go (f x) refl
  where
    some_head : (k : List A) → Memᴰ x k → head_of k ≡ none → ⊥
    some_head [] i q = mathlib.Core.List.Memᴰ.not-nil i
    some_head (y ∷ k) i q = absurd (let z : ◌≡◌ {A = ℕ} 0 1 = cc in omega arith)

    go : (b : Bool) → f x ≡ b → f x ≡ false
    go false q = q
    go true q = absurd (some_head (filter f l) (in_filter f l x m q) (head_filter f l ∙ e))

beyond : (a j : ℕ) → a ≤ j → (j ≡ a → ⊥) → suc a ≤ j
beyond a j h ne = go (ltb a j) refl
  where
    go : (b : Bool) → ltb a j ≡ b → suc a ≤ j
    go true q = let z = ltb-true a j q in omega (arith, z)
    go false q = absurd (ne (let z = ltb-false a j q in omega (arith, z, h)))

-- in front of the first none passes
front_fails : (g : ℕ → Bool) (a n i : ℕ) → find g (range a n) ≡ some i → (j : ℕ) → a ≤ j → j < i → g j ≡ false
unfolding find range
front_fails g a zero i e j h k = absurd (let z : ◌≡◌ {A = ℕ} 0 1 = cc in omega arith)
front_fails g a (suc n) i e j h k = go (g a) refl (λ q. front_fails g (suc a) n i q j) (ℕ_discrete j a)
  where
    go : (b : Bool) → g a ≡ b → (find g (range (suc a) n) ≡ some i → suc a ≤ j → j < i → g j ≡ false) → Dec (j ≡ a) → g j ≡ false
    go true q ih d = let w = sym (find_yes g a (range (suc a) n) q) ∙ e in let z : a ≡ i = cc in absurd (omega (arith, z, h, k))
    go false q ih (yes s) = ap g s ∙ q
    go false q ih (no ne) = ih (sym (find_no g a (range (suc a) n) q) ∙ e) (beyond a j h ne) k

-- some of the first i passes: which
any_at : {A : Type 0} (f : A → Bool) (d : A) (l : List A) (i : ℕ) → any f (take i l) ≡ true → (j : ℕ) × (j < i) × (f (get_or l j d) ≡ true)
unfolding any
any_at f d [] zero e = absurd (false≢true e)
any_at f d [] (suc i) e = absurd (false≢true e)
any_at f d (x ∷ l) zero e = absurd (false≢true e)
any_at f d (x ∷ l) (suc i) e = go (f x) refl (λ q. any_at f d l i q)
  where
    go : (b : Bool) → f x ≡ b → (any f (take i l) ≡ true → (j : ℕ) × (j < i) × (f (get_or l j d) ≡ true)) → (j : ℕ) × (j < suc i) × (f (get_or (x ∷ l) j d) ≡ true)
    go true q ih = (0, omega arith, q)
    go false q ih = let r = ih (rw (q, any) at e) in (suc r.0, omega (arith, r.1), r.2)

at_any : {A : Type 0} (f : A → Bool) (d : A) (l : List A) (i j : ℕ) → j < i → j < length l → f (get_or l j d) ≡ true → any f (take i l) ≡ true
unfolding any
at_any f d [] i j h k e = absurd (omega (arith, k))
at_any f d (x ∷ l) zero j h k e = absurd (omega (arith, h))
at_any f d (x ∷ l) (suc i) zero h k e = rw (e, any)
at_any f d (x ∷ l) (suc i) (suc j) h k e = go (f x) refl (at_any f d l i j (omega (arith, h)) (omega (arith, k)) e)
  where
    go : (b : Bool) → f x ≡ b → any f (take i l) ≡ true → any f (x ∷ take i l) ≡ true
    go true q ih = rw (q, any)
    go false q ih = rw (q, any) ih

module _ (p : Program) (ms : List Mark) (eight : length ms ≡ 8) where
  abbrev at : ℕ → Mark
  at i = get_or ms i no_mark

  unfoldable slot_no : List ℕ → ℕ
  slot_no m = elim (slot_of p m ms) [ some i ↦ i | none ↦ 8 ]

  slot_no_lem : (m : List ℕ) (i : ℕ) → slot_of p m ms ≡ some i → slot_no m ≡ i
  unfolding slot_no
  slot_no_lem m i e = rw (e, slot_no)

  unknown_bears : (n : List ℕ) (i : ℕ) → slot_of p n ms ≡ none → i < 8 → bears p n (get_or ms i no_mark) ≡ false
  unfolding slot_of
  unknown_bears n i e h = none_passes (λ j. bears p n (get_or ms j no_mark)) (range 0 8) i e (in_range_lem 0 8 i (omega arith) (omega (arith, h)))

  -- none in front of a name's mark bears it
  front_bears : (m : List ℕ) (i j : ℕ) → slot_of p m ms ≡ some i → j < i → bears p m (get_or ms j no_mark) ≡ false
  unfolding slot_of
  front_bears m i j e h = front_fails (λ u. bears p m (get_or ms u no_mark)) 0 8 i e j (omega arith) h

  -- the first mark that bears a name is the name's
  pub slot_first : (n : List ℕ) (i : ℕ) → i < 8 → bears p n (get_or ms i no_mark) ≡ true → ((j : ℕ) → j < i → bears p n (get_or ms j no_mark) ≡ false) → slot_of p n ms ≡ some i
  slot_first n i h e front = go (slot_of p n ms) refl
    where
      same : (j : ℕ) (a b : Bool) → ltb j i ≡ a → ltb i j ≡ b → slot_of p n ms ≡ some j → j ≡ i
      same j true b u v q = absurd (false≢true (sym (front j (ltb-true j i u)) ∙ (slot_of_lem p n ms j q).1))
      same j false true u v q = absurd (false≢true (sym (front_bears n j i q (ltb-true i j v)) ∙ e))
      same j false false u v q = let y = ltb-false j i u in let z = ltb-false i j v in omega (arith, y, z)

      go : (o : Option ℕ) → slot_of p n ms ≡ o → slot_of p n ms ≡ some i
      go none q = absurd (false≢true (sym (unknown_bears n i q h) ∙ e))
      go (some j) q = q ∙ ap some (same j (ltb j i) (ltb i j) refl refl q)

  -- the mark of a name does not count as free
  not_free : (m : List ℕ) (i : ℕ) → slot_of p m ms ≡ some i → is_free p ms i ≡ true → ⊥
  not_free m i e f =
      let r = any_at (bears p m) no_mark ms i (free_later p m ms i f (slot_of_lem p m ms i e).1) in
      false≢true (sym (front_bears m i r.0 e r.1) ∙ r.2)

  -- WITH EIGHT NAMES KNOWN there is no slot for another
  pub no_slot : (n : List ℕ) (names : List (List ℕ)) → slot_of p n ms ≡ none → length names ≡ 8 → Distinct names →
      ((m : List ℕ) → Memᴰ m names → (i : ℕ) × (slot_of p m ms ≡ some i)) → slot_for p n ms ≡ none
  no_slot n names e l d known = go (slot_for p n ms) refl
    where
      one : (m w : List ℕ) → Memᴰ m names → Memᴰ w names → slot_no m ≡ slot_no w → m ≡ w
      one m w a b q =
          let u = known m a in
          let v = known w b in
          let z : u.0 ≡ v.0 = sym (slot_no_lem m u.0 u.1) ∙ q ∙ slot_no_lem w v.0 v.1 in
          sym (bears_parts p m (get_or ms u.0 no_mark) (slot_of_lem p m ms u.0 u.1).1).1 ∙ ap (λ (i : ℕ). name_of (get_or ms i no_mark)) z
          ∙ (bears_parts p w (get_or ms v.0 no_mark) (slot_of_lem p w ms v.0 v.1).1).1

      below : (y : ℕ) → Memᴰ y (map slot_no names) → y < 8
      below y m =
          let r = mathlib.Core.List.Memᴰ.of_map slot_no names m in
          let u = known r.0 r.1 in
          subst (λ (i : ℕ). i < 8) (sym (slot_no_lem r.0 u.0 u.1) ∙ r.2) (slot_of_lem p r.0 ms u.0 u.1).0

      go : (o : Option ℕ) → slot_for p n ms ≡ o → slot_for p n ms ≡ none
      go none q = q
      go (some i) q =
          let s = slot_for_lem p n ms i q in
          let free : is_free p ms i ≡ true = ⊎_elim (λ (b : bears p n (get_or ms i no_mark) ≡ true). absurd (false≢true (sym (unknown_bears n i e s.0) ∙ b))) (λ (f : is_free p ms i ≡ true). f) s.1 in
          let apart : Memᴰ i (map slot_no names) → ⊥ = λ m.
          (let r = mathlib.Core.List.Memᴰ.of_map slot_no names m in
          let u = known r.0 r.1 in
          let z : u.0 ≡ i = sym (slot_no_lem r.0 u.0 u.1) ∙ r.2 in
          not_free r.0 i (u.1 ∙ ap some z) free) in
          let size = distinct_within (i ∷ map slot_no names) (range 0 8) (apart, distinct_mapped slot_no names one d)
          (λ y m. ⊎_elim (λ (z : y ≡ i). in_range_lem 0 8 y (omega arith) (let w = s.0 in omega (arith, w, z))) (λ (z : Memᴰ y (map slot_no names)). in_range_lem 0 8 y (omega arith) (let w = below y z in omega (arith, w)))
          (mathlib.Core.List.Memᴰ.cases_cons m)) in
          let w : length (map slot_no names) ≡ 8 = length-map names slot_no ∙ l in
          let v : length (range 0 8) ≡ 8 = range_length 0 8 in
          absurd (omega (arith, size, w, v))

  -- ---- where there is no slot
  abbrev Used : ℕ → Type 0
  Used i = (is_some (mark_place p (get_or ms i no_mark)) ≡ true) × (any (bears p (name_of (get_or ms i no_mark))) (take i ms) ≡ false)

  used_by : (b d : Bool) → cond b d true ≡ false → (b ≡ true) × (d ≡ false)
  used_by true d e = (refl, e)
  used_by false d e = absurd (false≢true (sym e))

  -- the name is unknown, and every mark counts
  pub all_used : (n : List ℕ) → slot_for p n ms ≡ none → (slot_of p n ms ≡ none) × ((i : ℕ) → i < 8 → Used i)
  unfolding slot_for is_free
  all_used n e = go (slot_of p n ms) refl
    where
      go : (o : Option ℕ) → slot_of p n ms ≡ o → (slot_of p n ms ≡ none) × ((i : ℕ) → i < 8 → Used i)
      go (some j) q = let z : some j ≡ none = rw (q, slot_for) at e in absurd (let y : ◌≡◌ {A = ℕ} 0 1 = cc in omega arith)
      go none q =
          let z : find (is_free p ms) (range 0 8) ≡ none = rw (q, slot_for) at e in (
            q,
            λ i h. used_by (is_some (mark_place p (get_or ms i no_mark))) (any (bears p (name_of (get_or ms i no_mark))) (take i ms))
                (none_passes (is_free p ms) (range 0 8) i z (in_range_lem 0 8 i (omega arith) (omega (arith, h)))),
          )

  module _ (used : (i : ℕ) → i < 8 → Used i) where
    bears_own : (i : ℕ) → i < 8 → bears p (name_of (get_or ms i no_mark)) (get_or ms i no_mark) ≡ true
    unfolding bears
    bears_own i h = rw ((used i h).0, same_list_lem eqb (λ i. eq-eqb i i refl) (name_of (get_or ms i no_mark)))

    abbrev name : ℕ → List ℕ
    name = λ i. name_of (get_or ms i no_mark)

    -- two marks differ in their names
    differs : (i j : ℕ) → i < j → j < 8 → name i ≡ name j → ⊥
    differs i j h k e =
        let w : i < length ms = omega (arith, h, k, eight) in
        false≢true (sym (used j k).1 ∙ at_any (bears p (name j)) no_mark ms j i h w (subst (λ (m : List ℕ). bears p m (get_or ms i no_mark) ≡ true) e (bears_own i (omega (arith, h, k)))))

    name_one : (i j : ℕ) → Memᴰ i (range 0 8) → Memᴰ j (range 0 8) → name i ≡ name j → i ≡ j
    name_one i j a b e = go (ltb i j) (ltb j i) refl refl
      where
        ia : i < 8
        ia = let z = (of_range 0 8 i a).1 in omega (arith, z)

        jb : j < 8
        jb = let z = (of_range 0 8 j b).1 in omega (arith, z)

        go : (u v : Bool) → ltb i j ≡ u → ltb j i ≡ v → i ≡ j
        go true v q r = absurd (differs i j (ltb-true i j q) jb e)
        go false true q r = absurd (differs j i (ltb-true j i r) ia (sym e))
        go false false q r = let y = ltb-false i j q in let z = ltb-false j i r in omega (arith, y, z)

    pub names : List (List ℕ)
    names = map name (range 0 8)

    pub names_eight : length names ≡ 8
    unfolding names
    names_eight = length-map (range 0 8) name ∙ range_length 0 8

    pub names_differ : Distinct names
    unfolding names
    names_differ = distinct_mapped name (range 0 8) name_one (distinct_ascends ltb (λ i. le-ltb i i (omega arith)) (range 0 8) (range_ascends 0 8))

    -- each is known
    pub names_known : (m : List ℕ) → Memᴰ m names → (is_some (slot_of p m ms) ≡ true) × ((i : ℕ) × (i < 8) × (name i ≡ m))
    unfolding names is_some
    names_known m e =
        let r = mathlib.Core.List.Memᴰ.of_map name (range 0 8) e in
        let h : r.0 < 8 = (let z = (of_range 0 8 r.0 r.1).1 in omega (arith, z)) in
        (go (slot_of p m ms) refl r.0 h r.2, (r.0, h, r.2))
      where
        go : (o : Option ℕ) → slot_of p m ms ≡ o → (i : ℕ) → i < 8 → name i ≡ m → is_some (slot_of p m ms) ≡ true
        go (some j) q i h z = ap is_some q
        go none q i h z = absurd (false≢true (sym (unknown_bears m i q h) ∙ subst (λ (w : List ℕ). bears p w (get_or ms i no_mark) ≡ true) z (bears_own i h)))
