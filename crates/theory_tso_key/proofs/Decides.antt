-- THE KEY DECIDES: positions with one view, the same bytes late and far, and the same threads near each other are a bisimulation for the rules; and
-- positions that the search meets with one key are such. So counting with a table counts the list, and finds its first failing member.
use Prim.Native.Nat.{ℕ, zero, suc, ◌+◌, ◌<◌, ◌≤◌}
use mathlib.Core.Path.{◌≡◌, refl, sym, ap, ap₂, subst, ◌∙◌}
use mathlib.Core.Logic.{◌≢◌, ◌⊎◌, inl, inr}
use mathlib.Core.Bool.{Bool, true, false, not, ◌&&◌, ◌||◌, false≢true}
use mathlib.Core.Option.{Option, none, some}
use mathlib.Core.List.{List, [], ◌∷◌, ◌++◌, map, Memᴰ}
use native.Mathlib.Omega.{arith}
use lib.Dec.{eqb, ltb}
use lib.ListN.{length, get_or, get_or-map}
use borrow.Author.Tests.{ltb-true, eqb-false, ne_eqb, not-true}
use Rattle.spec_file.specs.Program.{Program}
use Rattle.spec_file.proofs.DigitValues.{both}
use Rattle.spec_file.proofs.Tests.{either, equal_tests}
use Rattle.spec_schedules.specs.Lists.{range, any, filter, find}
use Rattle.spec_schedules.specs.Order.{Schedule}
use Rattle.spec_schedules.proofs.Lists.{of_range, any_yes, any_of}
use Rattle.spec_schedules.proofs.Loops.{mapped_at}
use Rattle.spec_model.specs.Laws.{Admitted}
use Rattle.spec_model.specs.Model.{failing}
use Rattle.spec_model.specs.Alike.{list_of}
use Rattle.spec_model.specs.Search.{sought}
use Rattle.spec_model.proofs.Permitted.{or_left, or_right}
use Rattle.spec_sc.specs.State.{value_of}
use Rattle.spec_sc.proofs.Same.{both_and}
use Rattle.theory_search.specs.LateSet as LateSet
use Rattle.theory_search.specs.Found.{found_from}
use Rattle.theory_search.specs.ModelSearch as ModelSearch
use Rattle.theory_search.specs.ModelSearch.{looked_for}
use Rattle.spec_schedules.specs.Sets.{has}
use Rattle.theory_sc.specs.Sets.{set_of}
use Rattle.theory_sc.proofs.Sets.{set_has, set_same}
use Rattle.theory_sc.proofs.TwinWords.{any_same}
use Rattle.spec_tso.specs.Queue.{Entry}
use Rattle.spec_tso.specs.State.{Thread, State, Kind, access, move, no_thread, thread_of, kind_of, owner, byte_for, step, enabled, size, TSO, start, fails}
use Rattle.spec_tso.specs.Graph.{end_of}
use Rattle.spec_tso.specs.TotalStoreOrder.{tso}
use Rattle.spec_tso.proofs.Bytes.{for_owner, kind_for}
use Rattle.spec_tso.proofs.Lawful.{falls, lawful, start_32}
use Rattle.spec_tso.proofs.Laws.{at_most_16}
use Rattle.theory_tso.specs.Rules.{twin}
use Rattle.theory_tso.specs.Far.{twin_moves, starts_by, starts, far}
use Rattle.theory_tso.specs.Search.{given_up}
use Rattle.theory_tso.specs.LateBytes.{bytes_of, late_at, far_at}
use Rattle.theory_tso.proofs.Far.{far_access}
use Rattle.theory_tso.proofs.Search.{found_exactly}
use Rattle.theory_states.specs.SameKey.{Bisimulation, Decides}
use Rattle.theory_states.proofs.Positions.{reached_on}
use Rattle.theory_tso_key.specs.Views.{waiting, Alike, SameView, breaks}
use Rattle.theory_tso_key.specs.Near.{NearBy, Near, near_in, near}
use Rattle.theory_tso_key.specs.Key.{Key, near_sets, key_of}
use Rattle.theory_tso_key.proofs.Views.{view_back, enabled_view, breaks_view, step_view}
use Rattle.theory_tso_key.proofs.Rules.{Met, met_regular, late_step, far_step, given_up_same}
use Rattle.theory_tso_key.proofs.Near.{near_small, near_once, near_step}
use Rattle.theory_tso_key.proofs.Locals.{same_view}

-- ---- THE BISIMULATION
pub record OneFuture (p : Program) (v : Schedule) (σ : State) (x : Schedule) (τ : State) : Type 0 where
  pub left : Met p v σ
  pub right : Met p x τ
  pub view : SameView σ τ
  pub late : (c : ℕ) → late_at p v c ≡ late_at p x c
  pub far : (c : ℕ) → far_at p v c ≡ far_at p x c
  pub there : (t u : ℕ) → t ≢ u → Near p σ t u → Near p τ t u
  pub back : (t u : ℕ) → t ≢ u → Near p τ t u → Near p σ t u

module _ (p : Program) (a : Admitted tso p) where
  -- twins are near by no access
  twin_over : (v : Schedule) (σ : State) (x : Schedule) (τ : State) → Met p v σ → Met p x τ → SameView σ τ → ((t u : ℕ) → t ≢ u → Near p σ t u → Near p τ t u) →
      (t u : ℕ) → t ≢ u → twin p σ t u ≡ true → twin p τ t u ≡ true
  twin_over v σ x τ r s same nears t u ne e =
      let k = nears t u ne (0, e) in
      subst (λ (n : ℕ). NearBy p n τ t u) (sym (near_once p a t u ne 0 k.0 v σ x τ r s same e k.1)) k.1

  module _ (v : Schedule) (σ : State) (x : Schedule) (τ : State) (r : OneFuture p v σ x τ) where
    twin_same : (t u : ℕ) → t ≢ u → twin p σ t u ≡ twin p τ t u
    twin_same t u ne = equal_tests (twin p σ t u) (twin p τ t u) (twin_over v σ x τ r.left r.right r.view r.there t u ne)
        (twin_over x τ v σ r.right r.left (view_back σ τ r.view) r.back t u ne)

    smaller : (t u : ℕ) → Memᴰ u (range 0 t) → t ≢ u
    smaller t u m q = omega (arith, (of_range 0 t u m).1, q)

    twins_same : (t : ℕ) → any (twin p σ t) (range 0 t) ≡ any (twin p τ t) (range 0 t)
    twins_same t = any_same (twin p σ t) (twin p τ t) (range 0 t) (λ u m. twin_same t u (smaller t u m))

    starts_by_lem : (b : ℕ) (k : Kind) (t : ℕ) → starts_by p (σ, b) k t ≡ starts_by p (τ, b) k t
    unfolding starts_by twin_moves
    starts_by_lem b access t = refl
    starts_by_lem b move t = any_same (λ u. twin p σ t u && ltb (u + 16) b) (λ u. twin p τ t u && ltb (u + 16) b) (range 0 t) (λ u m. ap (λ (y : Bool). y && ltb (u + 16) b) (twin_same t u (smaller t u m)))

    starts_same : (b c : ℕ) → starts p (σ, b) c ≡ starts p (τ, b) c
    unfolding starts
    starts_same b c = starts_by_lem b (kind_of c) (owner c)

  pub one_future : Bisimulation TSO (given_up p) breaks (OneFuture p)
  one_future = record {
    enabled = λ v σ x τ r. enabled_view σ τ r.view;
    cuts = λ v σ x τ r b e. given_up_same p a.0 v σ x τ r.left r.right r.view b e r.late r.far (twins_same v σ x τ r (owner b));
    fails = λ v σ x τ r b e c. breaks_view σ τ r.view b e;
    steps = λ v σ x τ r b e c. let e' = sym (enabled_view σ τ r.view b) ∙ e in record {
      left = reached_on TSO (start p) v σ r.left b e;
      right = reached_on TSO (start p) x τ r.right b e';
      view = step_view σ τ r.view b e;
      late = late_step p a.0 v σ x τ r.left r.right r.view b e r.late;
      far = far_step p a.0 v σ x τ r.left r.right r.view b e (starts_same v σ x τ r b) r.far;
      there = near_step p a v σ x τ r.left r.right r.view r.there b e;
      back = near_step p a x τ v σ r.right r.left (view_back σ τ r.view) r.back b e';
    };
  }

-- ---- SETS OF BYTES, by kind: equal numbers have equal members, where only bytes of six threads are in them
module _ (f g : ℕ → Bool) (outside : (c : ℕ) → ltb (owner c) 6 ≡ false → f c ≡ g c) (e : (k : Kind) → bytes_of f k ≡ bytes_of g k) where
  bytes_same : (c : ℕ) → f c ≡ g c
  unfolding bytes_of
  bytes_same c = go (ltb (owner c) 6) refl
    where
      go : (b : Bool) → ltb (owner c) 6 ≡ b → f c ≡ g c
      go false q = outside c q
      go true q =
          let h = ltb-true (owner c) 6 q in
          ap f (sym (for_owner c)) ∙ sym (set_has (λ t. f (byte_for (kind_of c) t)) 6 (owner c) h) ∙ ap (λ (s : ℕ). has s (owner c)) (e (kind_of c))
          ∙ set_has (λ t. g (byte_for (kind_of c) t)) 6 (owner c) h ∙ ap g (for_owner c)

no_byte : (σ : State) (c : ℕ) → ltb (owner c) 6 ≡ false → enabled σ c ≡ false
unfolding enabled
no_byte σ c e = rw e

-- what may not step is in no set
late_outside : (p : Program) (v : Schedule) (c : ℕ) → ltb (owner c) 6 ≡ false → late_at p v c ≡ false
unfolding LateSet.back_at
late_outside p v c e = let k = no_byte (end_of p v) c e in rw k

far_outside : (p : Program) (v : Schedule) (c : ℕ) → ltb (owner c) 6 ≡ false → far_at p v c ≡ false
unfolding LateSet.back_at
far_outside p v c e = let k = no_byte (end_of p v) c e in rw k

by_kinds : (f g : ℕ → Bool) → bytes_of f access ≡ bytes_of g access → bytes_of f move ≡ bytes_of g move → (k : Kind) → bytes_of f k ≡ bytes_of g k
by_kinds f g a b access = a
by_kinds f g a b move = b

-- an access is never far
accesses_near : (p : Program) (v : Schedule) (c : ℕ) → kind_of c ≡ access → far_at p v c ≡ false
unfolding LateSet.back_at far
accesses_near p v c k = go (enabled (end_of p v) c) (far_access p v c k)
  where
    go : (b : Bool) → far p v (end_of p v) c ≡ false → (b && far p v (end_of p v) c) ≡ false
    go true e = e
    go false e = refl

far_accesses : (p : Program) (v x : Schedule) → bytes_of (far_at p v) access ≡ bytes_of (far_at p x) access
unfolding bytes_of
far_accesses p v x = set_same (λ t. far_at p v (byte_for access t)) (λ t. far_at p x (byte_for access t)) 6
    (λ t h. let k = kind_for access t (omega arith) in accesses_near p v (byte_for access t) k ∙ sym (accesses_near p x (byte_for access t) k))

-- ---- THE TEST OF BEING NEAR
near_found : (p : Program) (n : ℕ) (σ : State) (t u : ℕ) → near_in p n σ t u ≡ true → Near p σ t u
unfolding near_in
near_found p zero σ t u e = (0, e)
near_found p (suc n) σ t u e = go (either (twin p σ t u) _ e) (λ q. near_found p n (step σ t) t u q)
  where
    go : (twin p σ t u ≡ true) ⊎ ((enabled σ t && near_in p n (step σ t) t u) ≡ true) → (near_in p n (step σ t) t u ≡ true → Near p (step σ t) t u) → Near p σ t u
    go (inl q) ih = (0, q)
    go (inr q) ih = let b = both (enabled σ t) _ q in let k = ih b.1 in (suc k.0, (b.0, k.1))

found_near : (p : Program) (n k : ℕ) (σ : State) (t u : ℕ) → size σ ≤ k → NearBy p n σ t u → near_in p k σ t u ≡ true
unfolding near_in
found_near p zero zero σ t u h e = e
found_near p zero (suc k) σ t u h e = or_left (twin p σ t u) _ e
found_near p (suc n) zero σ t u h e = absurd (omega (arith, h, falls σ t e.0))
found_near p (suc n) (suc k) σ t u h e = or_right (twin p σ t u) _ (both_and e.0 (found_near p n k (step σ t) t u (omega (arith, h, falls σ t e.0)) e.1))

module _ (p : Program) (σ : State) (t u : ℕ) where
  pub near_true : near p σ t u ≡ true → (t ≢ u) × Near p σ t u
  unfolding near
  near_true e = let b = both (not (eqb t u)) _ e in (eqb-false t u (not-true (eqb t u) b.0), near_found p (size σ) σ t u b.1)

  pub true_near : t ≢ u → Near p σ t u → near p σ t u ≡ true
  unfolding near
  true_near ne k = both_and (ap not (ne_eqb t u ne)) (found_near p k.0 (size σ) σ t u (omega arith) k.1)

-- ---- ONE KEY
module _ (p : Program) (a : Admitted tso p) where
  near_bit : (σ : State) (t u : ℕ) → t < 6 → u < 6 → has (get_or (near_sets p σ) t 0) u ≡ near p σ t u
  near_bit σ t u ht hu =
      ap (λ (s : ℕ). has s u) (mapped_at (λ i. set_of (near p σ i) 6) 0 6 t ht) ∙ set_has (near p σ (0 + t)) 6 u hu ∙ ap (λ (i : ℕ). near p σ i u) (omega arith)

  near_over : (σ τ : State) → near_sets p σ ≡ near_sets p τ → (t u : ℕ) → t ≢ u → Near p σ t u → Near p τ t u
  near_over σ τ e t u ne k =
      let i = near_small p a t u ne k.0 σ k.1 in
      (near_true p τ t u (sym (near_bit τ t u i.1 i.0) ∙ ap (λ (l : List ℕ). has (get_or l t 0) u) (sym e) ∙ near_bit σ t u i.1 i.0 ∙ true_near p σ t u ne k)).1

  module _ (v : Schedule) (σ : State) (x : Schedule) (τ : State) (r : Met p v σ) (s : Met p x τ) (e : key_of p v σ ≡ key_of p x τ) where
    pub key_future : OneFuture p v σ x τ
    key_future = record {
      left = r;
      right = s;
      view = same_view p a.0 v σ x τ r s (ap (λ (k : Key). k.left) e) (ap (λ (k : Key). k.values) e) (ap (λ (k : Key). k.queues) e);
      late = bytes_same (late_at p v) (late_at p x) (λ c q. late_outside p v c q ∙ sym (late_outside p x c q))
          (by_kinds (late_at p v) (late_at p x) (ap (λ (k : Key). k.late_accesses) e) (ap (λ (k : Key). k.late_moves) e));
      far = bytes_same (far_at p v) (far_at p x) (λ c q. far_outside p v c q ∙ sym (far_outside p x c q))
          (by_kinds (far_at p v) (far_at p x) (far_accesses p v x) (ap (λ (k : Key). k.far_moves) e));
      there = near_over σ τ (ap (λ (k : Key). k.nearness) e);
      back = near_over τ σ (sym (ap (λ (k : Key). k.nearness) e));
    }

  -- THE KEY DECIDES
  pub key_decides : Decides TSO (given_up p) breaks (Met p) (key_of p)
  key_decides = record { R = OneFuture p; bisimulation = one_future p a; related = key_future }
