-- What is left to take of a run's actions: taking different bytes commutes, a ready byte stays ready, and so the greedy walk is least.
use mathlib.Core.Path.{◌≡◌, refl, sym, ap, subst, ◌∙◌}
use mathlib.Core.Logic.{◌≢◌, ⊎_elim}
use mathlib.Core.Bool.{Bool, true, false, false≢true}
use mathlib.Core.Option.{Option, none, some, none-ne-some}
use mathlib.Core.List.Memᴰ
use mathlib.Core.List.{List, [], ◌∷◌, Memᴰ}
use Prim.Native.Nat.{ℕ}
use native.Mathlib.Omega.{arith}
use native.Mathlib.Decide.{ℕ_discrete}
use lib.Dec.{ltb}
use borrow.Author.Tests.{eq-eqb, ne_eqb}
use Rattle.spec_file.specs.Lists.{Ascends}
use Rattle.spec_schedules.specs.Orders.{next_of, clear, clear_of, ready, take_out, Remaining}
use Rattle.spec_schedules.proofs.Greedy.{GreedyLaws, commuting}

module _ {D : Type 0} (who : D → ℕ) (dependent : D → D → Bool) where
  abbrev Out : List D → ℕ → List D
  Out = take_out who dependent

  -- taking out
  pub out_same : (d : D) (ds : List D) (t : ℕ) → who d ≡ t → take_out who dependent (d ∷ ds) t ≡ ds
  unfolding take_out
  out_same d ds t q = rw (eq-eqb (who d) t q, take_out)

  pub out_other : (d : D) (ds : List D) (t : ℕ) → who d ≢ t → take_out who dependent (d ∷ ds) t ≡ d ∷ take_out who dependent ds t
  unfolding take_out
  out_other d ds t q = rw (ne_eqb (who d) t q, take_out)

  out_commute : (ds : List D) (a b : ℕ) → a ≢ b → Out (Out ds a) b ≡ Out (Out ds b) a
  unfolding take_out
  out_commute [] a b ne = refl
  out_commute (d ∷ ds) a b ne = go (ℕ_discrete (who d) a) (ℕ_discrete (who d) b) (out_commute ds a b ne)
    where
      go : Dec (who d ≡ a) → Dec (who d ≡ b) → Out (Out ds a) b ≡ Out (Out ds b) a → Out (Out (d ∷ ds) a) b ≡ Out (Out (d ∷ ds) b) a
      go (yes p) (yes q) ih = absurd (ne (sym p ∙ q))
      go (yes p) (no q) ih = ap (λ (k : List D). Out k b) (out_same d ds a p) ∙ sym (ap (λ (k : List D). Out k a) (out_other d ds b q) ∙ out_same d (Out ds b) a p)
      go (no p) (yes q) ih = ap (λ (k : List D). Out k b) (out_other d ds a p) ∙ out_same d (Out ds a) b q ∙ sym (ap (λ (k : List D). Out k a) (out_same d ds b q))
      go (no p) (no q) ih =
          ap (λ (k : List D). Out k b) (out_other d ds a p) ∙ out_other d (Out ds a) b q ∙ ap {B = List D} (λ k. d ∷ k) ih
          ∙ sym (ap (λ (k : List D). Out k a) (out_other d ds b q) ∙ out_other d (Out ds b) a p)

  -- the first action of a byte, one action at a time
  pub next_nil : (t : ℕ) → next_of who dependent [] t ≡ none
  unfolding next_of
  next_nil t = refl

  pub next_same : (d : D) (ds : List D) (t : ℕ) → who d ≡ t → next_of who dependent (d ∷ ds) t ≡ some d
  unfolding next_of
  next_same d ds t q = rw (eq-eqb (who d) t q, next_of)

  pub next_other : (d : D) (ds : List D) (t : ℕ) → who d ≢ t → next_of who dependent (d ∷ ds) t ≡ next_of who dependent ds t
  unfolding next_of
  next_other d ds t q = rw (ne_eqb (who d) t q, next_of)

  -- the next action of a byte is one of that byte
  pub next_who : (ds : List D) (t : ℕ) (d : D) → next_of who dependent ds t ≡ some d → who d ≡ t
  next_who [] t d e = absurd (none-ne-some d (sym (next_nil t) ∙ e))
  next_who (c ∷ ds) t d e = go (ℕ_discrete (who c) t) (next_who ds t d)
    where
      go : Dec (who c ≡ t) → (next_of who dependent ds t ≡ some d → who d ≡ t) → who d ≡ t
      go (yes q) ih = let z : some c ≡ some d = sym (next_same c ds t q) ∙ e in let i : c ≡ d = cc in ap who (sym i) ∙ q
      go (no q) ih = ih (sym (next_other c ds t q) ∙ e)

  next_stays : (ds : List D) (a b : ℕ) → a ≢ b → next_of who dependent (Out ds a) b ≡ next_of who dependent ds b
  unfolding next_of take_out
  next_stays [] a b ne = refl
  next_stays (d ∷ ds) a b ne = go (ℕ_discrete (who d) a) (ℕ_discrete (who d) b) (next_stays ds a b ne)
    where
      N : List D → Option D
      N k = next_of who dependent k b

      go : Dec (who d ≡ a) → Dec (who d ≡ b) → N (Out ds a) ≡ N ds → N (Out (d ∷ ds) a) ≡ N (d ∷ ds)
      go (yes p) (yes q) ih = absurd (ne (sym p ∙ q))
      go (yes p) (no q) ih = ap N (out_same d ds a p) ∙ sym (next_other d ds b q)
      go (no p) (yes q) ih = ap N (out_other d ds a p) ∙ next_same d (Out ds a) b q ∙ sym (next_same d ds b q)
      go (no p) (no q) ih = ap N (out_other d ds a p) ∙ next_other d (Out ds a) b q ∙ ih ∙ sym (next_other d ds b q)

  -- whether it waits, one action at a time
  pub clear_same : (e : D) (ds : List D) (t : ℕ) (d : D) → who e ≡ t → clear who dependent (e ∷ ds) t d ≡ true
  unfolding clear
  clear_same e ds t d q = rw (eq-eqb (who e) t q, clear)

  pub clear_other : (e : D) (ds : List D) (t : ℕ) (d : D) → who e ≢ t → clear who dependent (e ∷ ds) t d ≡ true → (dependent e d ≡ false) × (clear who dependent ds t d ≡ true)
  unfolding clear
  clear_other e ds t d q c = go (dependent e d) refl
    where
      go : (b : Bool) → dependent e d ≡ b → (dependent e d ≡ false) × (clear who dependent ds t d ≡ true)
      go true m = absurd (false≢true (rw (ne_eqb (who e) t q, m, clear) at c))
      go false m = (m, rw (ne_eqb (who e) t q, m, clear) at c)

  pub clear_past : (e : D) (ds : List D) (t : ℕ) (d : D) → who e ≢ t → dependent e d ≡ false → clear who dependent (e ∷ ds) t d ≡ clear who dependent ds t d
  unfolding clear
  clear_past e ds t d q m = rw (ne_eqb (who e) t q, m, clear)

  pub clear_not : (e : D) (ds : List D) (t : ℕ) (d : D) → who e ≢ t → dependent e d ≡ true → clear who dependent (e ∷ ds) t d ≡ false
  unfolding clear
  clear_not e ds t d q m = rw (ne_eqb (who e) t q, m, clear)

  pub clear_more : (e : D) (ds : List D) (t : ℕ) (d : D) → who e ≢ t → dependent e d ≡ false → clear who dependent ds t d ≡ true → clear who dependent (e ∷ ds) t d ≡ true
  clear_more e ds t d q m c = clear_past e ds t d q m ∙ c

  clear_stays : (ds : List D) (a b : ℕ) (d : D) → a ≢ b → clear who dependent ds b d ≡ true → clear who dependent (Out ds a) b d ≡ true
  unfolding take_out
  clear_stays [] a b d ne c = c
  clear_stays (e ∷ ds) a b d ne c = go (ℕ_discrete (who e) a) (ℕ_discrete (who e) b) (λ k. clear_stays ds a b d ne k)
    where
      C : List D → Type 0
      C k = clear who dependent k b d ≡ true

      go : Dec (who e ≡ a) → Dec (who e ≡ b) → (C ds → C (Out ds a)) → C (Out (e ∷ ds) a)
      go (yes p) (yes q) ih = absurd (ne (sym p ∙ q))
      go (yes p) (no q) ih = subst C (sym (out_same e ds a p)) (clear_other e ds b d q c).1
      go (no p) (yes q) ih = subst C (sym (out_other e ds a p)) (clear_same e (Out ds a) b d q)
      go (no p) (no q) ih = let k = clear_other e ds b d q c in subst C (sym (out_other e ds a p)) (clear_more e (Out ds a) b d q k.0 (ih k.1))

  -- readiness
  pub ready_next : (ds : List D) (t : ℕ) (d : D) → next_of who dependent ds t ≡ some d → ready who dependent ds t ≡ clear who dependent ds t d
  unfolding ready clear_of
  ready_next ds t d q = ap (clear_of who dependent ds t) q

  pub ready_none : (ds : List D) (t : ℕ) → next_of who dependent ds t ≡ none → ready who dependent ds t ≡ false
  unfolding ready clear_of
  ready_none ds t q = ap (clear_of who dependent ds t) q

  pub ready_at : (ds : List D) (t : ℕ) → ready who dependent ds t ≡ true → (d : D) × (next_of who dependent ds t ≡ some d) × (clear who dependent ds t d ≡ true)
  unfolding ready clear_of
  ready_at ds t e = go (next_of who dependent ds t) refl
    where
      go : (o : Option D) → next_of who dependent ds t ≡ o → (d : D) × (next_of who dependent ds t ≡ some d) × (clear who dependent ds t d ≡ true)
      go none q = absurd (false≢true (rw (q, clear_of) at e))
      go (some d) q = (d, q, rw (q, clear_of) at e)

  pub at_ready : (ds : List D) (t : ℕ) (d : D) → next_of who dependent ds t ≡ some d → clear who dependent ds t d ≡ true → ready who dependent ds t ≡ true
  at_ready ds t d q c = ready_next ds t d q ∙ c

  ready_stays : (ds : List D) (a b : ℕ) → a ≢ b → ready who dependent ds b ≡ true → ready who dependent (Out ds a) b ≡ true
  ready_stays ds a b ne e =
      let r = ready_at ds b e in
      at_ready (Out ds a) b r.0 (next_stays ds a b ne ∙ r.1) (clear_stays ds a b r.0 ne r.2)

  ready_nil : (t : ℕ) → ready who dependent [] t ≡ false
  ready_nil t = ready_none [] t (next_nil t)

  -- the system of what is left to take
  module _ (names : List ℕ) (asc : Ascends ltb names) where
    abbrev Named : List D → Type 0
    Named ds = (d : D) → Memᴰ d ds → Memᴰ (who d) names

    next_named : (ds : List D) (t : ℕ) (d : D) → Named ds → next_of who dependent ds t ≡ some d → Memᴰ t names
    unfolding next_of
    next_named [] t d h e = absurd (let z : ◌≡◌ {A = ℕ} 0 1 = cc in omega arith)
    next_named (c ∷ ds) t d h e = go (ℕ_discrete (who c) t) (λ q. next_named ds t d (λ x m. h x (Memᴰ.tail m)) q)
      where
        go : Dec (who c ≡ t) → (next_of who dependent ds t ≡ some d → Memᴰ t names) → Memᴰ t names
        go (yes q) ih = subst (λ (x : ℕ). Memᴰ x names) q (h c (Memᴰ.head refl))
        go (no q) ih = ih (sym (next_other c ds t q) ∙ e)

    out_in : (ds : List D) (t : ℕ) (d : D) → Memᴰ d (Out ds t) → Memᴰ d ds
    unfolding take_out
    out_in [] t d m = m
    out_in (c ∷ ds) t d m = go (ℕ_discrete (who c) t) (λ k. out_in ds t d k)
      where
        go : Dec (who c ≡ t) → (Memᴰ d (Out ds t) → Memᴰ d ds) → Memᴰ d (c ∷ ds)
        go (yes q) ih = Memᴰ.tail (subst (Memᴰ d) (out_same c ds t q) m)
        go (no q) ih = ⊎_elim (λ (i : d ≡ c). Memᴰ.head i) (λ (k : Memᴰ d (Out ds t)). Memᴰ.tail (ih k)) (Memᴰ.cases_cons (subst (Memᴰ d) (out_other c ds t q) m))

    none_ready : (ds : List D) (t : ℕ) → Named ds → ds ≡ [] → ready who dependent ds t ≡ false
    none_ready ds t n e = ap (λ (k : List D). ready who dependent k t) e ∙ ready_nil t

    pub remaining : GreedyLaws (Remaining who dependent names) (ready who dependent) (λ ds. ds ≡ []) Named
    remaining = commuting (Remaining who dependent names) (ready who dependent) (λ ds. ds ≡ []) Named
        (λ ds t n e d m. n d (out_in ds t d m)) none_ready (λ ds a b n ne x y. out_commute ds a b ne) (λ ds a b n ne x y. ready_stays ds a b ne y)
        asc (λ ds t n e. let r = ready_at ds t e in next_named ds t r.0 n r.1)
