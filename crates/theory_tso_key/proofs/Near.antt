-- WHO IS NEAR WHOM BEHIND A STEP is seen from the view and from who was near whom before it.
use Prim.Native.Nat.{ℕ, zero, suc, ◌+◌, ◌<◌, ◌≤◌}
use mathlib.Core.Path.{◌≡◌, refl, sym, ap, ap₂, subst, ◌∙◌}
use mathlib.Core.Logic.{◌≢◌, inl, inr, ⊎_elim}
use mathlib.Core.Bool.{Bool, true, false, ◌&&◌, true≢false, false≢true}
use mathlib.Core.Option.{Option, none, some}
use mathlib.Core.List.{List, [], ◌∷◌, ◌++◌, Memᴰ}
use native.Mathlib.Omega.{arith}
use native.Mathlib.Decide.{ℕ_discrete}
use lib.Dec.{eqb}
use lib.ListN.{length}
use borrow.Author.Tests.{eqb-true}
use Rattle.spec_file.specs.Program.{Program}
use Rattle.spec_file.specs.WellFormed.{accesses}
use Rattle.spec_file.proofs.DigitValues.{both}
use Rattle.spec_schedules.specs.Order.{Schedule}
use Rattle.spec_model.specs.Exchange.{Together}
use Rattle.spec_model.specs.Laws.{Admitted}
use Rattle.spec_model.proofs.Swapped.{swapped, swapped_else, swapped_twice}
use Rattle.spec_sc.specs.Local.{place_of, takes, next}
use Rattle.spec_sc.specs.State.{Event, initial_write, Cell, History, latest, noted}
use Rattle.spec_sc.specs.Actions.{given}
use Rattle.spec_sc.specs.Exchange.{moved_event, moved_read, moved_reads}
use Rattle.spec_sc.proofs.Access.{next_fewer}
use Rattle.theory_search.proofs.Back.{and_false}
use Rattle.spec_tso.specs.Queue.{Entry, newest, found_in}
use Rattle.spec_tso.specs.State.{Thread, State, Kind, access, thread_of, cell_of, finds, target, number_of, thread_behind, place, step_of, able, kind_of, owner, byte_for, step, enabled, TSO, start}
use Rattle.spec_tso.specs.Actions.{reading}
use Rattle.spec_tso.specs.Exchange.{moved_thread}
use Rattle.spec_tso.specs.TotalStoreOrder.{tso}
use Rattle.spec_tso.proofs.Bytes.{for_owner}
use Rattle.spec_tso.proofs.Steps.{enabled_able, enabled_small, able_pending, enabled_access, thread_other, putting}
use Rattle.spec_tso.proofs.Stays.{stays}
use Rattle.spec_tso.proofs.Change.{wrote_own}
use Rattle.spec_tso.proofs.StoreOrder.{put_new}
use Rattle.spec_tso.proofs.Regular.{Regular, place_in}
use Rattle.spec_tso.proofs.Sourced.{From, Sourced, sourced}
use Rattle.theory_tso.specs.Deeds.{is_none, looking}
use Rattle.theory_tso.specs.Rules.{twin}
use Rattle.theory_states.proofs.Positions.{reached_on}
use Rattle.theory_tso_key.specs.Views.{SameView}
use Rattle.theory_tso_key.specs.Near.{NearBy, Near}
use Rattle.theory_tso_key.proofs.Views.{enabled_view, putting_view, step_view, view_back}
use Rattle.theory_tso_key.proofs.Rules.{Met, met_regular}
use Rattle.theory_tso_key.proofs.Apart.{crosses, crosses_view, put_kept, turned_back, turned_on}
use Rattle.theory_tso_key.proofs.Twins.{Still, still_back, still_access, byte_access, access_still, access_thread, access_history, access_other, line_turned, twin_line, twin_still, below_six, twin_tw, same_rest, twin_other, twin_turned, twin_back, next_enabled, twin_on}

-- along n accesses of t, the step b puts nowhere where t looks
abbrev Apart : ℕ → State → ℕ → ℕ → Type 0
Apart zero σ b t = Unit {0}
Apart (suc n) σ b t = (crosses σ b t ≡ false) × Apart n (step σ t) b t

-- ---- what t read in memory of others, u has read
moved_in : (f : ℕ → ℕ) (rs : List (ℕ × Event)) (r : ℕ × Event) → Memᴰ r (moved_reads f rs) → (q : ℕ × Event) × Memᴰ q rs × (r ≡ moved_read f q)
unfolding moved_reads
moved_in f [] r m = absurd (mathlib.Core.List.Memᴰ.not-nil m)
moved_in f (q ∷ rs) r m = ⊎_elim (λ (i : r ≡ moved_read f q). (q, mathlib.Core.List.Memᴰ.head refl, i)) (λ (i : Memᴰ r (moved_reads f rs)). let k = moved_in f rs r i in (k.0, mathlib.Core.List.Memᴰ.tail k.1, k.2)) (mathlib.Core.List.Memᴰ.cases_cons m)

noted_kept : (b : Bool) (e : Event) (h : History) (r : ℕ × Event) → Memᴰ r h.reads → Memᴰ r (noted b e h).reads
unfolding noted
noted_kept true e h r m = mathlib.Core.List.Memᴰ.tail m
noted_kept false e h r m = m

noted_read : (b : Bool) (e : Event) (h : History) → b ≡ true → Memᴰ (h.done, e) (noted b e h).reads
unfolding noted
noted_read true e h q = mathlib.Core.List.Memᴰ.head refl
noted_read false e h q = absurd (false≢true q)

pub found_there : (t : ℕ) (o : Option Entry) (c : Cell) → is_none o ≡ true → (found_in t o c).source ≡ latest c.writes
unfolding found_in is_none
found_there t none c e = refl
found_there t (some x) c e = absurd (false≢true e)

pub place_same : (σ τ : State) (k : Kind) (t : ℕ) → thread_of σ t ≡ thread_of τ t → place σ k t ≡ place τ k t
unfolding place
place_same σ τ k t e = ap (target k) e

pub given_some : (o : Option ℕ) → given o ≡ true → (v : ℕ) × (o ≡ some v)
unfolding given
given_some none e = absurd (false≢true e)
given_some (some v) e = (v, refl)

module _ (p : Program) (a : Admitted tso p) (t u : ℕ) (ne : t ≢ u) where
  pub near_line : (n : ℕ) (σ : State) → NearBy p n σ t u → Together p u t
  near_line zero σ e = twin_line p a t u ne σ e
  near_line (suc n) σ k = near_line n (step σ t) k.1

  pub near_small : (n : ℕ) (σ : State) → NearBy p n σ t u → (u < 6) × (t < 6)
  near_small n σ k = below_six p a t u ne (near_line n σ k)

  pub near_still : (n : ℕ) (v : Schedule) (σ : State) → Met p v σ → NearBy p n σ t u → Still σ u × Still σ t
  near_still zero v σ r e = twin_still p a t u ne σ e
  near_still (suc n) v σ r k =
      let g = met_regular p a.0 v σ r in
      let s = near_still n (v ++ (t ∷ [])) (step σ t) (reached_on TSO (start p) v σ r t k.0) k.1 in
      (still_back σ g t k.0 u s.0, still_back σ g t k.0 t s.1)

  -- t's next access on its way puts nothing
  pub on_way : (n : ℕ) (v : Schedule) (σ : State) → Met p v σ → enabled σ t ≡ true → NearBy p n (step σ t) t u → putting σ access t ≡ none
  on_way n v σ r m k = access_still σ (met_regular p a.0 v σ r) t (near_small n (step σ t) k).1 m (near_still n (v ++ (t ∷ [])) (step σ t) (reached_on TSO (start p) v σ r t m) k).1

  near_fewer : (n : ℕ) (v : Schedule) (σ : State) → Met p v σ → NearBy p n σ t u → accesses (thread_of σ u).local.rest + n ≤ accesses (thread_of σ t).local.rest
  unfolding thread_behind
  near_fewer zero v σ r e = let q = ap accesses (same_rest p a t u ne v σ r e) in omega (arith, q)
  near_fewer (suc n) v σ r k =
      let h = (near_small n (step σ t) k.1).1 in
      let ih = near_fewer n (v ++ (t ∷ [])) (step σ t) (reached_on TSO (start p) v σ r t k.0) k.1 in
      let x = ap (λ (y : Thread). accesses y.local.rest) (access_other σ t h u (λ i. ne (sym i))) in
      let y = ap (λ (y : Thread). accesses y.local.rest) (access_thread σ t h k.0) in
      let z = next_fewer (thread_of σ t).local (finds t (thread_of σ t) (cell_of σ (place σ access t))).value (able_pending (thread_of σ t) (length σ.cells) (sym (enabled_access σ t h) ∙ k.0)) in
      omega (arith, ih, x, y, z)

  -- HOW MANY ACCESSES is seen from the view
  pub near_once : (n m : ℕ) (v : Schedule) (σ : State) (x : Schedule) (τ : State) → Met p v σ → Met p x τ → SameView σ τ → NearBy p n σ t u → NearBy p m τ t u → n ≡ m
  near_once zero zero v σ x τ r s same k l = refl
  near_once (suc n) (suc m) v σ x τ r s same k l = ap suc (near_once n m (v ++ (t ∷ [])) (step σ t) (x ++ (t ∷ [])) (step τ t) (reached_on TSO (start p) v σ r t k.0) (reached_on TSO (start p) x τ s t l.0)
      (step_view σ τ same t k.0) k.1 l.1)
  near_once zero (suc m) v σ x τ r s same k l =
      let q = ap accesses (sym (same.threads t).local.rest ∙ same_rest p a t u ne v σ r k ∙ (same.threads u).local.rest) in
      absurd (omega (arith, q, near_fewer (suc m) x τ s l))
  near_once (suc n) zero v σ x τ r s same k l =
      let q = ap accesses ((same.threads t).local.rest ∙ same_rest p a t u ne x τ s l ∙ sym (same.threads u).local.rest) in
      absurd (omega (arith, q, near_fewer (suc n) v σ r k))

  near_read : (n : ℕ) (v : Schedule) (σ : State) → Met p v σ → NearBy p n σ t u → (r : ℕ × Event) → r.1.0 ≢ t → r.1.0 ≢ u → Memᴰ r (thread_of σ t).history.reads → Memᴰ r (thread_of σ u).history.reads
  unfolding moved_thread moved_read moved_event
  near_read zero v σ q e r nt nu m =
      let back : u ≢ t = λ i. ne (sym i) in
      let k = moved_in (swapped u t) (thread_of σ u).history.reads r (subst (λ (h : Thread). Memᴰ r h.history.reads) (twin_tw p a t u ne v σ q e).0 m) in
      let who : r.1.0 ≡ k.0.1.0 = sym (swapped_else u t back r.1.0 nu nt) ∙ ap (λ (y : ℕ × Event). swapped u t y.1.0) k.2 ∙ swapped_twice u t back k.0.1.0 in
      let same : r ≡ k.0 = k.2 ∙ ap (λ (y : ℕ). let z : ℕ × Event = (k.0.0, (y, k.0.1.1)) in z) (sym (ap (λ (y : ℕ × Event). y.1.0) k.2) ∙ who) in
      subst (λ (y : ℕ × Event). Memᴰ y (thread_of σ u).history.reads) (sym same) k.1
  near_read (suc n) v σ q k r nt nu m =
      let h = (near_small n (step σ t) k.1).1 in
      let m' = subst (λ (y : History). Memᴰ r y.reads) (sym (access_history σ t h k.0)) (noted_kept (takes (thread_of σ t).local) (finds t (thread_of σ t) (cell_of σ (place σ access t))).source (thread_of σ t).history r m) in
      subst (λ (y : Thread). Memᴰ r y.history.reads) (access_other σ t h u (λ i. ne (sym i)))
      (near_read n (v ++ (t ∷ [])) (step σ t) (reached_on TSO (start p) v σ q t k.0) k.1 r nt nu m')

  -- ---- A STEP OF A THIRD THREAD
  module _ (b : ℕ) (nt : t ≢ owner b) (nu : u ≢ owner b) where
    -- what it puts where t looks, t would read and u has not
    unread : (n : ℕ) (v : Schedule) (σ : State) → Met p v σ → enabled σ b ≡ true → enabled (step σ b) t ≡ true → NearBy p n (step (step σ b) t) t u → crosses σ b t ≡ true → ⊥
    unfolding looking reading finds initial_write step latest
    unread n v σ r m mt k c =
        let g = met_regular p a.0 v σ r in
        let h = (near_small n (step (step σ b) t) k).1 in
        let s = owner b in
        let e : Event = (s, number_of (kind_of b) (thread_of σ s)) in
        let c1 = both (looking access (thread_of σ t)) _ c in
        let c2 = both (given (putting σ (kind_of b) s)) _ c1.1 in
        let c3 = both (takes (thread_of σ t).local) _ c1.0 in
        let put = given_some (putting σ (kind_of b) s) c2.0 in
        let other : thread_of (step σ b) t ≡ thread_of σ t = thread_other σ (kind_of b) s t nt in
        let there : place (step σ b) access t ≡ place σ (kind_of b) s = place_same (step σ b) σ access t other ∙ sym (eqb-true (place σ (kind_of b) s) (place σ access t) c2.1) in
        let source : (finds t (thread_of (step σ b) t) (cell_of (step σ b) (place (step σ b) access t))).source ≡ e =
        found_there t (newest (thread_of (step σ b) t).queue (place_of (thread_of (step σ b) t).local)) (cell_of (step σ b) (place (step σ b) access t))
        (ap (λ (x : Thread). is_none (newest x.queue (place_of x.local))) other ∙ c3.1)
        ∙ ap (λ (l : ℕ). latest (cell_of (step σ b) l).writes) there ∙ ap latest (wrote_own σ (kind_of b) s (place σ (kind_of b) s) put.0 (place_in σ g (kind_of b) s (enabled_able σ b m)) refl put.1).0 in
        let mid = reached_on TSO (start p) v σ r b m in
        let read : Memᴰ ((thread_of (step σ b) t).history.done, e) (thread_of (step (step σ b) t) t).history.reads =
        subst (λ (y : History). Memᴰ ((thread_of (step σ b) t).history.done, e) y.reads) (sym (access_history (step σ b) t h mt))
        (subst (λ (y : Event). Memᴰ ((thread_of (step σ b) t).history.done, e) (noted (takes (thread_of (step σ b) t).local) y (thread_of (step σ b) t).history).reads) (sym source)
        (noted_read (takes (thread_of (step σ b) t).local) e (thread_of (step σ b) t).history (ap (λ (x : Thread). takes x.local) other ∙ c3.0))) in
        let theirs = near_read n ((v ++ (b ∷ [])) ++ (t ∷ [])) (step (step σ b) t) (reached_on TSO (start p) (v ++ (b ∷ [])) (step σ b) mid t mt) k ((thread_of (step σ b) t).history.done, e) (λ i. nt (sym i)) (λ i. nu (sym i)) read in
        let here = subst (λ (x : Thread). Memᴰ ((thread_of (step σ b) t).history.done, e) x.history.reads) (access_other (step σ b) t h u (λ i. ne (sym i)) ∙ thread_other σ (kind_of b) s u nu) theirs in
        go (enabled_small σ b m) (subst (λ (ρ : State). Sourced ρ) (sym r.0) (sourced p a.0 v r.1) u ((thread_of (step σ b) t).history.done, e) here) (put_new σ (kind_of b) s (g.stores s) (enabled_able σ b m))
      where
        go : owner b < 6 → From σ u (owner b, number_of (kind_of b) (thread_of σ (owner b))) → ((l : ℕ) → Memᴰ (owner b, number_of (kind_of b) (thread_of σ (owner b))) (cell_of σ l).writes → ⊥) → ⊥
        go h (inl z) new = nu (sym z)
        go h (inr (inl z)) new = omega (arith, h, ap (λ (x : Event). x.0) z)
        go h (inr (inr z)) new = new z.0 z.1

    not_crossing : (n : ℕ) (v : Schedule) (σ : State) → Met p v σ → enabled σ b ≡ true → enabled (step σ b) t ≡ true → NearBy p n (step (step σ b) t) t u → (c : Bool) → crosses σ b t ≡ c → crosses σ b t ≡ false
    not_crossing n v σ r m mt k false e = e
    not_crossing n v σ r m mt k true e = absurd (unread n v σ r m mt k e)

    -- near behind it: near before it, and it stands nowhere in the way
    across : (n : ℕ) (v : Schedule) (σ : State) → Met p v σ → enabled σ b ≡ true → NearBy p n (step σ b) t u → NearBy p n σ t u × Apart n σ b t
    across zero v σ r m k = (sym (twin_other p a t u ne σ (met_regular p a.0 v σ r) b m nt nu) ∙ k, tt)
    across (suc n) v σ r m k =
        let apart = not_crossing n v σ r m k.0 k.1 (crosses σ b t) refl in
        let h = (near_small n (step (step σ b) t) k.1).1 in
        let x = turned_back σ (met_regular p a.0 v σ r) b t h (λ i. nt (sym i)) apart m k.0 (on_way n (v ++ (b ∷ [])) (step σ b) (reached_on TSO (start p) v σ r b m) k.0 k.1) in
        let ih = across n (v ++ (t ∷ [])) (step σ t) (reached_on TSO (start p) v σ r t x.0) x.1 (subst (λ (ρ : State). NearBy p n ρ t u) x.2 k.1) in
        ((x.0, ih.0), (apart, ih.1))

    -- and back
    beyond : (n : ℕ) (v : Schedule) (σ : State) → Met p v σ → enabled σ b ≡ true → NearBy p n σ t u → Apart n σ b t → NearBy p n (step σ b) t u
    beyond zero v σ r m k w = twin_other p a t u ne σ (met_regular p a.0 v σ r) b m nt nu ∙ k
    beyond (suc n) v σ r m k w =
        let h = (near_small n (step σ t) k.1).1 in
        let still-may = stays σ t b (λ i. nt (sym (byte_access t h).1 ∙ ap owner i)) k.0 m in
        let x = turned_on σ (met_regular p a.0 v σ r) b t h (λ i. nt (sym i)) w.0 k.0 still-may (on_way n v σ r k.0 k.1) in
        (x.1, subst (λ (ρ : State). NearBy p n ρ t u) x.2 (beyond n (v ++ (t ∷ [])) (step σ t) (reached_on TSO (start p) v σ r t k.0) still-may k.1 w.1))

  apart_view : (n : ℕ) (σ τ : State) → SameView σ τ → (b : ℕ) → NearBy p n σ t u → Apart n σ b t → Apart n τ b t
  apart_view zero σ τ same b k w = tt
  apart_view (suc n) σ τ same b k w = (sym (crosses_view σ τ same b t) ∙ w.0, apart_view n (step σ t) (step τ t) (step_view σ τ same t k.0) b k.1 w.1)

  -- ---- AN ACCESS OF u that puts nothing
  no_crossing : (σ : State) → u < 6 → putting σ access u ≡ none → crosses σ u t ≡ false
  unfolding given
  no_crossing σ h q = let k = byte_access u h in
      ap₂ (λ (j : Kind) (o : ℕ). looking access (thread_of σ t) && (given (putting σ j o) && eqb (place σ j o) (place σ access t))) k.0 k.1
      ∙ ap (λ (o : Option ℕ). looking access (thread_of σ t) && (given o && eqb (place σ access u) (place σ access t))) q ∙ and_false (looking access (thread_of σ t))

  other_owner : u < 6 → owner u ≢ t
  other_owner h i = ne (sym i ∙ (byte_access u h).1)

  pub before_u : (n : ℕ) (v : Schedule) (σ : State) → Met p v σ → enabled σ u ≡ true → putting σ access u ≡ none → NearBy p (suc n) (step σ u) t u → NearBy p n σ t u
  before_u zero v σ r m q k = twin_back p a t u ne v σ r m q k.0 k.1
  before_u (suc n) v σ r m q k =
      let h = near_small (suc n) (step (step σ u) t) k.1 in
      let none_t = on_way (suc n) (v ++ (u ∷ [])) (step σ u) (reached_on TSO (start p) v σ r u m) k.0 k.1 in
      let x = turned_back σ (met_regular p a.0 v σ r) u t h.1 (other_owner h.0) (no_crossing σ h.0 q) m k.0 none_t in
      let none-u = put_kept σ t h.1 (sym (put_kept σ u h.0 q access t ne) ∙ none_t) access u (λ i. ne (sym i)) ∙ q in
      (x.0, before_u n (v ++ (t ∷ [])) (step σ t) (reached_on TSO (start p) v σ r t x.0) x.1 none-u (subst (λ (ρ : State). NearBy p (suc n) ρ t u) x.2 k.1))

  pub behind_u : (n : ℕ) (v : Schedule) (σ : State) → Met p v σ → enabled σ u ≡ true → putting σ access u ≡ none → NearBy p n σ t u → NearBy p (suc n) (step σ u) t u
  behind_u zero v σ r m q e = (next_enabled p a t u ne v σ r m q e, twin_on p a t u ne v σ r m q e)
  behind_u (suc n) v σ r m q k =
      let h = near_small n (step σ t) k.1 in
      let none_t = on_way n v σ r k.0 k.1 in
      let still-may = stays σ t u ne k.0 m in
      let x = turned_on σ (met_regular p a.0 v σ r) u t h.1 (other_owner h.0) (no_crossing σ h.0 q) k.0 still-may none_t in
      let none-u = put_kept σ t h.1 none_t access u (λ i. ne (sym i)) ∙ q in
      (x.1, subst (λ (ρ : State). NearBy p (suc n) ρ t u) x.2 (behind_u n (v ++ (t ∷ [])) (step σ t) (reached_on TSO (start p) v σ r t k.0) still-may none-u k.1))

-- ---- BEHIND A STEP, from one position over to another with one view
module _ (p : Program) (a : Admitted tso p) (v : Schedule) (σ : State) (x : Schedule) (τ : State) (r : Met p v σ) (s : Met p x τ) (same : SameView σ τ)
    (near : (t u : ℕ) → t ≢ u → Near p σ t u → Near p τ t u) (b : ℕ) (m : enabled σ b ≡ true) where
  over : (t u : ℕ) → t ≢ u → (n : ℕ) → NearBy p n σ t u → NearBy p n τ t u
  over t u ne n k =
      let l = near t u ne (n, k) in
      subst (λ (i : ℕ). NearBy p i τ t u) (sym (near_once p a t u ne n l.0 v σ x τ r s same k l.1)) l.1

  m' : enabled τ b ≡ true
  m' = sym (enabled_view σ τ same b) ∙ m

  -- a step behind which nothing of its thread is in memory is its access
  own_byte : (t : ℕ) → owner b ≡ t → Still (step σ b) t → (b ≡ t) × (putting σ access t ≡ none)
  unfolding byte_for
  own_byte t o q =
      let k = still_access σ (met_regular p a.0 v σ r) b m (subst (λ (y : ℕ). Still (step σ b) y) (sym o) q) in
      (sym (for_owner b) ∙ ap (λ (j : Kind). byte_for j (owner b)) k.0 ∙ o, subst (λ (y : ℕ). putting σ access y ≡ none) o k.1)

  behind : Met p (v ++ (b ∷ [])) (step σ b)
  behind = reached_on TSO (start p) v σ r b m

  -- of t itself
  by_own : (t u n : ℕ) → t ≢ u → b ≡ t → NearBy p n (step σ b) t u → Near p (step τ b) t u
  by_own t u n ne e k = (
    n,
    subst (λ (y : ℕ). NearBy p n (step τ y) t u) (sym e)
        (over t u ne (suc n) (subst (λ (y : ℕ). enabled σ y ≡ true) e m, subst (λ (y : ℕ). NearBy p n (step σ y) t u) e k)).1,
  )

  -- of u
  by_first : (t u : ℕ) → t ≢ u → putting σ access u ≡ none → b ≡ u → (n : ℕ) → NearBy p n (step σ u) t u → Near p (step τ u) t u
  by_first t u ne q e zero k =
      let back : u ≢ t = λ i. ne (sym i) in
      let mu = subst (λ (y : ℕ). enabled σ y ≡ true) e m in
      let mu' = subst (λ (y : ℕ). enabled τ y ≡ true) e m' in
      let l = over u t back 1 (mu, twin_turned p a t u ne (v ++ (u ∷ [])) (step σ u) (reached_on TSO (start p) v σ r u mu) k) in
      (0, twin_turned p a u t back (x ++ (u ∷ [])) (step τ u) (reached_on TSO (start p) x τ s u mu') l.1)
  by_first t u ne q e (suc n) k = (
    suc n,
    behind_u p a t u ne n x τ s (subst (λ (y : ℕ). enabled τ y ≡ true) e m') (sym (putting_view σ τ same access u) ∙ q)
        (over t u ne n (before_u p a t u ne n v σ r (subst (λ (y : ℕ). enabled σ y ≡ true) e m) q k)),
  )

  -- of another
  by_other : (t u n : ℕ) (ne : t ≢ u) → t ≢ owner b → u ≢ owner b → NearBy p n (step σ b) t u → Near p (step τ b) t u
  by_other t u n ne nt nu k =
      let w = across p a t u ne b nt nu n v σ r m k in
      (n, beyond p a t u ne b nt nu n x τ s m' (over t u ne n w.0) (apart_view p a t u ne n σ τ same b w.0 w.1))

  pub near_step : (t u : ℕ) → t ≢ u → Near p (step σ b) t u → Near p (step τ b) t u
  near_step t u ne k = go (ℕ_discrete (owner b) t) (ℕ_discrete (owner b) u)
    where
      quiet : Still (step σ b) u × Still (step σ b) t
      quiet = near_still p a t u ne k.0 (v ++ (b ∷ [])) (step σ b) behind k.1

      go : Dec (owner b ≡ t) → Dec (owner b ≡ u) → Near p (step τ b) t u
      go (yes e) d = by_own t u k.0 ne (own_byte t e quiet.1).0 k.1
      go (no f) (yes e) =
          let o = own_byte u e quiet.0 in
          subst (λ (y : ℕ). Near p (step τ y) t u) (sym o.0) (by_first t u ne o.1 o.0 k.0 (subst (λ (y : ℕ). NearBy p k.0 (step σ y) t u) o.0 k.1))
      go (no f) (no e) = by_other t u k.0 ne (λ i. f (sym i)) (λ i. e (sym i)) k.1
