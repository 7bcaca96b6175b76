-- A list, last member first, of which a part is done: what is done stands behind what is not.
use mathlib.Core.Path.{◌≡◌, refl, sym, ap, subst, ◌∙◌}
use mathlib.Core.Logic.{◌≢◌, ◌⊎◌, inl, inr, ⊎_elim}
use mathlib.Core.List.Memᴰ
use mathlib.Core.List.{List, [], ◌∷◌, ◌++◌, append_assoc, Memᴰ}
use Rattle.spec_sc.specs.State.{Event, initial_write, latest}
use Rattle.spec_judge.specs.Consistent.{Later}
use Rattle.spec_schedules.specs.Lists.{Distinct}
use Rattle.spec_judge.proofs.Later.{later_in, later_tail, later_right, later_across, later_cases, distinct_right}

-- w is the part of ws that is done
pub record Parts {A : Type 0} (D : A → Type 0) (w ws : List A) : Type 0 where
  pub front : List A
  pub whole : ws ≡ front ++ w
  pub undone : (x : A) → Memᴰ x front → D x → ⊥
  pub done : (x : A) → Memᴰ x w → D x

module _ {A : Type 0} (D : A → Type 0) (w ws : List A) (P : Parts D w ws) where
  pub parts_in : (x : A) → Memᴰ x ws → Memᴰ x P.front ⊎ Memᴰ x w
  parts_in x m = Memᴰ.append_cases P.front (subst (λ (l : List A). Memᴰ x l) P.whole m)

  pub parts_of : (x : A) → Memᴰ x w → Memᴰ x ws
  parts_of x m = subst (λ (l : List A). Memᴰ x l) (sym P.whole) (Memᴰ.append_right P.front m)

  -- what is done of the list stands in its part, and so does what comes before it
  pub done_in : (x : A) → Memᴰ x ws → D x → Memᴰ x w
  done_in x m d = ⊎_elim (λ (k : Memᴰ x P.front). absurd (P.undone x k d)) (λ (k : Memᴰ x w). k) (parts_in x m)

  pub done_before : (y x : A) → D y → Later ws y x → Memᴰ x w
  done_before y x d f = ⊎_elim (λ (k : Memᴰ y P.front). absurd (P.undone y k d)) (λ (k : Later w y x). (later_in w y x k).1)
      (later_cases P.front w y x (subst (λ (l : List A). Later l y x) P.whole f))

  -- if everything is done, the part is the whole
  pub finished : ((x : A) → Memᴰ x ws → D x) → w ≡ ws
  finished h = go P.front P.whole P.undone
    where
      go : (front : List A) → ws ≡ front ++ w → ((x : A) → Memᴰ x front → D x → ⊥) → w ≡ ws
      go [] q n = sym q
      go (x ∷ front) q n = absurd (n x (Memᴰ.head refl) (h x (subst (λ (l : List A). Memᴰ x l) (sym q) (Memᴰ.head refl))))

  module _ (E : A → Type 0) (more : (x : A) → D x → E x) where
    -- nothing of this list gets done
    pub parts_stay : ((x : A) → Memᴰ x ws → E x → D x) → Parts E w ws
    parts_stay h = record {
      front = P.front;
      whole = P.whole;
      undone = λ x m e. P.undone x m (h x (subst (λ (l : List A). Memᴰ x l) (sym P.whole) (Memᴰ.append_left {s = P.front} w m)) e);
      done = λ x m. more x (P.done x m);
    }

    -- a member that follows only what is done gets done, and none that follows it
    last_undone : (y : A) (front : List A) → Memᴰ y front → ((x : A) → Memᴰ x front → D x → ⊥) → ((x : A) → Later front y x → D x) →
        (f : List A) × (front ≡ f ++ (y ∷ []))
    last_undone y [] m n b = absurd (Memᴰ.not-nil m)
    last_undone y (z ∷ []) m n b = ⊎_elim (λ (q : y ≡ z). ([], ap (λ (k : A). k ∷ []) (sym q))) (λ (k : Memᴰ y []). absurd (Memᴰ.not-nil k)) (Memᴰ.cases_cons m)
    last_undone y (z ∷ u ∷ us) m n b =
        go (Memᴰ.cases_cons m) (λ k. last_undone y (u ∷ us) k (λ x j. n x (Memᴰ.tail j)) (λ x f. b x (inr f)))
      where
        go : (y ≡ z) ⊎ Memᴰ y (u ∷ us) → (Memᴰ y (u ∷ us) → (f : List A) × ((u ∷ us) ≡ f ++ (y ∷ []))) → (f : List A) × ((z ∷ u ∷ us) ≡ f ++ (y ∷ []))
        go (inl q) ih = absurd (n u (Memᴰ.tail (Memᴰ.head refl)) (b u (inl (q, Memᴰ.head refl))))
        go (inr k) ih = let r = ih k in (z ∷ r.0, ap {B = List A} (λ l. z ∷ l) r.1)

    pub parts_next : (y : A) → Memᴰ y ws → (D y → ⊥) → ((x : A) → Later ws y x → D x) → E y → ((x : A) → Later ws x y → E x → ⊥) → Parts E (y ∷ w) ws
    parts_next y m n b e late = record { front = r.0; whole = q; undone = λ x k. late x (rw q (later_across r.0 (y ∷ w) x y k (Memᴰ.head refl))); done = done }
      where
        here : Memᴰ y P.front
        here = ⊎_elim (λ (k : Memᴰ y P.front). k) (λ (k : Memᴰ y w). absurd (n (P.done y k))) (parts_in y m)

        lift : (front : List A) (x : A) → Later front y x → Later (front ++ w) y x
        lift [] x f = absurd f
        lift (z ∷ front) x (inl q) = inl (q.0, Memᴰ.append_left {s = front} w q.1)
        lift (z ∷ front) x (inr f) = inr (lift front x f)

        r : (f : List A) × (P.front ≡ f ++ (y ∷ []))
        r = last_undone y P.front here P.undone (λ x f. b x (subst (λ (l : List A). Later l y x) (sym P.whole) (lift P.front x f)))

        q : ws ≡ r.0 ++ (y ∷ w)
        q = P.whole ∙ ap (λ (l : List A). l ++ w) r.1 ∙ append_assoc r.0 (y ∷ []) w

        done : (x : A) → Memᴰ x (y ∷ w) → E x
        done x k = ⊎_elim (λ (i : x ≡ y). subst E (sym i) e) (λ (i : Memᴰ x w). more x (P.done x i)) (Memᴰ.cases_cons k)

pub latest_in : (ws : List Event) → latest ws ≢ initial_write → Memᴰ (latest ws) ws
unfolding latest
latest_in [] n = absurd (n refl)
latest_in (e ∷ ws) n = Memᴰ.head refl

-- the last write done, among the writes of a location, behind which the initial write stands
module _ (D : Event → Type 0) (w ws : List Event) (P : Parts D w ws) where
  abbrev with_initial : List Event
  with_initial = ws ++ (initial_write ∷ [])

  -- a source that is done, and after which nothing is done, is the last write done
  pub latest_is : (s : Event) → (s ≡ initial_write) ⊎ (Memᴰ s ws × D s) → ((y : Event) → D y → Later with_initial y s → ⊥) → latest w ≡ s
  unfolding latest
  latest_is s k n = go w P.done (λ x. parts_of D w ws P x)
      (⊎_elim (λ (q : s ≡ initial_write). inl q) (λ (j : Memᴰ s ws × D s). inr (done_in D w ws P s j.0 j.1)) k) P.whole
    where
      go : (w : List Event) → ((x : Event) → Memᴰ x w → D x) → ((x : Event) → Memᴰ x w → Memᴰ x ws) →
          (s ≡ initial_write) ⊎ Memᴰ s w → ws ≡ P.front ++ w → latest w ≡ s
      go [] d u (inl q) e = sym q
      go [] d u (inr m) e = absurd (Memᴰ.not-nil m)
      go (h ∷ w) d u (inl q) e = absurd
          (n h (d h (Memᴰ.head refl)) (rw q (later_across ws (initial_write ∷ []) h initial_write (u h (Memᴰ.head refl)) (Memᴰ.head refl))))
      go (h ∷ w) d u (inr m) e = ⊎_elim (λ (i : s ≡ h). sym i)
          (λ (i : Memᴰ s w). absurd (n h (d h (Memᴰ.head refl))
          (append_later ws h s (rw e (later_right P.front (h ∷ w) h s (inl (refl, i))))))) (Memᴰ.cases_cons m)
        where
          append_later : (l : List Event) (y x : Event) → Later l y x → Later (l ++ (initial_write ∷ [])) y x
          append_later [] y x f = absurd f
          append_later (a ∷ l) y x (inl q) = inl (q.0, Memᴰ.append_left {s = l} (initial_write ∷ []) q.1)
          append_later (a ∷ l) y x (inr f) = inr (append_later l y x f)

  -- nothing that is done comes after the last write done
  pub none_later : Distinct with_initial → (y : Event) → D y → Later with_initial y (latest w) → ⊥
  unfolding latest
  none_later d y e f = go w P.whole f
    where
      go : (w : List Event) → ws ≡ P.front ++ w → Later with_initial y (latest w) → ⊥
      go [] q f = ⊎_elim (λ (k : Memᴰ y ws). P.undone y (subst (Memᴰ y) (q ∙ nil_right P.front) k) e)
          (λ (k : Later (initial_write ∷ []) y initial_write). Memᴰ.not-nil (later_tail initial_write [] y initial_write k))
          (later_cases ws (initial_write ∷ []) y initial_write f)
        where
          nil_right : (l : List Event) → l ++ [] ≡ l
          nil_right [] = refl
          nil_right (x ∷ l) = ap {B = List Event} (λ k. x ∷ k) (nil_right l)
      go (h ∷ w) q f =
          let i : with_initial ≡ P.front ++ (h ∷ (w ++ (initial_write ∷ []))) = ap (λ (l : List Event). l ++ (initial_write ∷ [])) q ∙
          append_assoc P.front (h ∷ w) (initial_write ∷ []) in
          ⊎_elim (λ (k : Memᴰ y P.front). P.undone y k e)
          (λ (k : Later (h ∷ (w ++ (initial_write ∷ []))) y h). (distinct_right P.front (h ∷ (w ++ (initial_write ∷ []))) (subst Distinct i d)).0
          (later_tail h (w ++ (initial_write ∷ [])) y h k))
          (later_cases P.front (h ∷ (w ++ (initial_write ∷ []))) y h (subst (λ (l : List Event). Later l y h) i f))
