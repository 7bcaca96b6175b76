-- TWINS BEHIND A STEP. Another thread's step leaves them twins or not. Where one of them did an access that put nothing, and then the other, they are
-- twins exactly where they were before.
use Prim.Native.Nat.{ℕ, zero, suc, ◌+◌, ◌*◌, ◌<◌, ◌≤◌}
use mathlib.Core.Path.{◌≡◌, refl, sym, ap, ap₂, subst, ◌∙◌}
use mathlib.Core.Logic.{◌≢◌, inl, inr}
use mathlib.Core.Bool.{Bool, true, false, ◌&&◌}
use mathlib.Core.Option.{Option, none, some}
use mathlib.Core.List.{List, [], ◌∷◌, ◌++◌, Memᴰ}
use native.Mathlib.Omega.{arith}
use lib.Dec.{eqb, ltb}
use lib.ListN.{length}
use borrow.Author.Tests.{eqb-true, eq-eqb, lt-ltb}
use Rattle.spec_file.specs.Program.{Program}
use Rattle.spec_file.proofs.DigitValues.{both}
use Rattle.spec_schedules.specs.Order.{Schedule}
use Rattle.spec_model.specs.Exchange.{Together, together, Permutation}
use Rattle.spec_model.specs.Laws.{Admitted}
use Rattle.spec_model.proofs.Exchanges.{members}
use Rattle.spec_model.proofs.Permitted.{together_true, true_together}
use Rattle.spec_model.proofs.Swapped.{swapped, swapped_low, swapped_high, swapped_permutation}
use Rattle.spec_sc.specs.Local.{takes}
use Rattle.spec_sc.specs.State.{Event, History, noted}
use Rattle.spec_sc.specs.Actions.{given}
use Rattle.spec_sc.proofs.Same.{both_and}
use Rattle.theory_search.specs.Standing.{silent}
use Rattle.theory_sc.specs.ThreadWords as ThreadWords
use Rattle.spec_tso.specs.State.{Thread, State, Kind, access, move, without_queues, thread_of, cell_of, finds, reaches, thread_behind, place, step_of, able, kind_of, owner, byte_for, step, enabled, TSO, start}
use Rattle.spec_tso.specs.Exchange.{moved_byte, moved_thread, Moves}
use Rattle.spec_tso.specs.TotalStoreOrder.{tso}
use Rattle.spec_tso.proofs.Bytes.{kind_low, owner_access}
use Rattle.spec_tso.proofs.Steps.{enabled_able, able_range, able_movable, thread_own, thread_other, putting}
use Rattle.spec_tso.proofs.Stays.{stays}
use Rattle.spec_tso.proofs.Exchange.{moves_here, moves_enabled, moves_step, reaches_moved}
use Rattle.spec_tso.proofs.Regular.{Regular}
use Rattle.spec_tso.proofs.Laws.{at_most_16}
use Rattle.theory_tso.specs.Rules.{stands_as, twin}
use Rattle.theory_tso.specs.Deeds.{looking}
use Rattle.theory_search.proofs.Back.{and_false}
use Rattle.theory_tso.specs.ReadWords.{sources_of, digit, digits, word_of}
use Rattle.theory_tso.proofs.ReadWords.{Numbered, Small, source_or, sources_noted}
use Rattle.theory_tso.proofs.Kept.{kept}
use Rattle.theory_tso.proofs.Small.{done_both, small}
use Rattle.theory_tso.proofs.Words.{silent_quiet, quiet_silent, quiet_back, silent_same, loud, oldest_there}
use Rattle.theory_tso.proofs.Twinned.{Tw}
use Rattle.theory_tso.proofs.TwinTest.{tw_test, test_tw, tw_fixed}
use Rattle.theory_tso.proofs.TwinWords.{twin_by_word_lem}
use Rattle.theory_states.proofs.Positions.{reached_on}
use Rattle.theory_tso_key.proofs.Rules.{Met, met_regular}
use Rattle.theory_tso_key.proofs.Apart.{crosses, put_kept, step_is, turned_on}

-- nothing of t is in memory
abbrev pub Still : State → ℕ → Type 0
Still σ t = silent (without_queues σ) t ≡ true

pub line_turned : (p : Program) (t u : ℕ) → Together p t u → Together p u t
line_turned p t u k = (k.0, k.1, k.3, k.2)

-- ---- ONE STEP
module _ (σ : State) (g : Regular σ) (b : ℕ) (m : enabled σ b ≡ true) where
  pub still_back : (u : ℕ) → Still (step σ b) u → Still σ u
  unfolding step
  still_back u s = quiet_silent σ u (quiet_back σ (kind_of b) (owner b) g (enabled_able σ b m) u (silent_quiet (step_of σ (kind_of b) (owner b)) u s))

  pub still_same : (u : ℕ) → (u ≢ owner b) → silent (without_queues (step σ b)) u ≡ silent (without_queues σ) u
  unfolding step
  still_same u ne = silent_same σ (kind_of b) (owner b) g (enabled_able σ b m) u (inl ne)

  -- a step behind which nothing of its thread is in memory is an access that puts nothing
  nothing_put : Still (step σ b) (owner b) → (o : Option ℕ) → putting σ (kind_of b) (owner b) ≡ o → putting σ (kind_of b) (owner b) ≡ none
  unfolding step
  nothing_put s none e = e
  nothing_put s (some v) e = absurd (loud σ (kind_of b) (owner b) g (enabled_able σ b m) v e (silent_quiet (step_of σ (kind_of b) (owner b)) (owner b) s))

  pub still_access : Still (step σ b) (owner b) → (kind_of b ≡ access) × (putting σ access (owner b) ≡ none)
  unfolding reaches
  still_access s = go (kind_of b) refl (enabled_able σ b m) (nothing_put s (putting σ (kind_of b) (owner b)) refl)
    where
      go : (k : Kind) → kind_of b ≡ k → able k (thread_of σ (owner b)) (length σ.cells) ≡ true → putting σ k (owner b) ≡ none → (kind_of b ≡ access) × (putting σ access (owner b) ≡ none)
      go access e x q = (e, q)
      go move e x q = absurd (oldest_there (thread_of σ (owner b)).queue (length σ.cells) (able_movable (thread_of σ (owner b)) (length σ.cells) x) q)

-- an access of t as a byte
pub byte_access : (t : ℕ) → t < 6 → (kind_of t ≡ access) × (owner t ≡ t)
byte_access t h = let k = kind_low t (omega arith) in (k, (owner_access t k).0)

pub access_still : (σ : State) → Regular σ → (t : ℕ) → t < 6 → enabled σ t ≡ true → Still (step σ t) t → putting σ access t ≡ none
access_still σ g t h m s = let o = (byte_access t h).1 in
    subst (λ (x : ℕ). putting σ access x ≡ none) o (still_access σ g t m (subst (λ (x : ℕ). Still (step σ t) x) (sym o) s)).1

pub access_silent : (σ : State) → Regular σ → (t : ℕ) → t < 6 → enabled σ t ≡ true → putting σ access t ≡ none → (u : ℕ) → silent (without_queues (step σ t)) u ≡ silent (without_queues σ) u
access_silent σ g t h m q u =
    let k = byte_access t h in
    ap (λ (ρ : State). silent (without_queues ρ) u) (step_is σ t h)
    ∙ silent_same σ access t g (subst (λ (j : Kind). able j (thread_of σ t) (length σ.cells) ≡ true) k.0 (subst (λ (x : ℕ). able (kind_of t) (thread_of σ x) (length σ.cells) ≡ true) k.1 (enabled_able σ t m))) u (inr q)

pub access_thread : (σ : State) (t : ℕ) → t < 6 → enabled σ t ≡ true → thread_of (step σ t) t ≡ thread_behind access t (thread_of σ t) (cell_of σ (place σ access t))
access_thread σ t h m =
    let k = byte_access t h in
    ap (λ (ρ : State). thread_of ρ t) (step_is σ t h)
    ∙ thread_own σ access t (able_range σ access t (length σ.cells) (subst (λ (j : Kind). able j (thread_of σ t) (length σ.cells) ≡ true) k.0
    (subst (λ (x : ℕ). able (kind_of t) (thread_of σ x) (length σ.cells) ≡ true) k.1 (enabled_able σ t m))))

pub access_other : (σ : State) (t : ℕ) → t < 6 → (u : ℕ) → u ≢ t → thread_of (step σ t) u ≡ thread_of σ u
access_other σ t h u ne = ap (λ (ρ : State). thread_of ρ u) (step_is σ t h) ∙ thread_other σ access t u ne

pub access_history : (σ : State) (t : ℕ) → t < 6 → enabled σ t ≡ true → (thread_of (step σ t) t).history ≡ noted (takes (thread_of σ t).local) (finds t (thread_of σ t) (cell_of σ (place σ access t))).source (thread_of σ t).history
unfolding thread_behind
access_history σ t h m = ap (λ (x : Thread). x.history) (access_thread σ t h m)

module _ (p : Program) (a : Admitted tso p) (t u : ℕ) (ne : t ≢ u) where
  back : u ≢ t
  back e = ne (sym e)

  pub twin_line : (σ : State) → twin p σ t u ≡ true → Together p u t
  unfolding twin
  twin_line σ e = together_true p u t (both (together p.groups u t) _ e).0

  pub twin_still : (σ : State) → twin p σ t u ≡ true → Still σ u × Still σ t
  unfolding twin
  twin_still σ e = both (silent (without_queues σ) u) _ (both (stands_as u t (thread_of σ u) (thread_of σ t)) _ (both (together p.groups u t) _ e).1).1

  pub below_six : Together p u t → (u < 6) × (t < 6)
  below_six k = let m = members p a.0 u t k in let six = a.0.six in (omega (arith, m.0), omega (arith, m.1))

  pub twin_tw : (v : Schedule) (σ : State) → Met p v σ → twin p σ t u ≡ true → Tw σ u t
  twin_tw v σ r e = subst (λ (ρ : State). Tw ρ u t) (sym r.0) (test_tw p a.0 v r.1 u t back (twin_line σ e) (subst (λ (ρ : State). twin p ρ t u ≡ true) r.0 e))

  tw_twin : (v : Schedule) (σ : State) → Met p v σ → Together p u t → Tw σ u t → twin p σ t u ≡ true
  tw_twin v σ r k w = subst (λ (ρ : State). twin p ρ t u ≡ true) (sym r.0) (tw_test p a.0 v r.1 u t back k (subst (λ (ρ : State). Tw ρ u t) r.0 w))

  pub same_rest : (v : Schedule) (σ : State) → Met p v σ → twin p σ t u ≡ true → (thread_of σ t).local.rest ≡ (thread_of σ u).local.rest
  unfolding moved_thread
  same_rest v σ r e = ap (λ (h : Thread). h.local.rest) (twin_tw v σ r e).0

  -- ANOTHER THREAD'S STEP
  pub twin_other : (σ : State) → Regular σ → (b : ℕ) → enabled σ b ≡ true → t ≢ owner b → u ≢ owner b → twin p (step σ b) t u ≡ twin p σ t u
  unfolding twin step
  twin_other σ g b m nt nu =
      ap₂ (λ (x y : Thread). together p.groups u t && (stands_as u t x y && (silent (without_queues (step_of σ (kind_of b) (owner b))) u && silent (without_queues (step_of σ (kind_of b) (owner b))) t)))
      (thread_other σ (kind_of b) (owner b) u nu) (thread_other σ (kind_of b) (owner b) t nt)
      ∙ ap₂ (λ (x y : Bool). together p.groups u t && (stands_as u t (thread_of σ u) (thread_of σ t) && (x && y))) (still_same σ g b m u nu) (still_same σ g b m t nt)

  -- ---- BY WORDS
  pub word_twin : (v : Schedule) (σ : State) → Met p v σ → Together p u t → word_of σ u ≡ word_of σ t → twin p σ t u ≡ true
  word_twin v σ r k e = subst (λ (ρ : State). twin p ρ t u ≡ true) (sym r.0)
      (sym (twin_by_word_lem p a.0 (at_most_16 p a.1) v r.1 u t back (below_six k).0 (below_six k).1) ∙ both_and (true_together p u t k)
      (eq-eqb _ _ (subst (λ (ρ : State). word_of ρ u ≡ word_of ρ t) r.0 e)))

  pub twin_word : (v : Schedule) (σ : State) → Met p v σ → twin p σ t u ≡ true → word_of σ u ≡ word_of σ t
  twin_word v σ r e =
      let k = twin_line σ e in
      let w = twin_by_word_lem p a.0 (at_most_16 p a.1) v r.1 u t back (below_six k).0 (below_six k).1 ∙ subst (λ (ρ : State). twin p ρ t u ≡ true) r.0 e in
      subst (λ (ρ : State). word_of ρ u ≡ word_of ρ t) (sym r.0) (eqb-true _ _ (both (together p.groups u t) _ w).1)

-- the digits of a thread with one access more
pub more_digits : (t : ℕ) (b : Bool) (e : Event) (h k : History) → k ≡ noted b e h → Numbered h.done h.reads → Small t (sources_of k.done k.reads) →
    (digits t (sources_of k.done k.reads) ≡ digits t (sources_of h.done h.reads) * 128 + digit t (source_or b e)) × (digit t (source_or b e) < 128)
unfolding ThreadWords.digits
more_digits t b e h k q x s =
    let w = ap (λ (y : History). sources_of y.done y.reads) q ∙ sources_noted b e h x in
    (ap (digits t) w, s (source_or b e) (subst (Memᴰ (source_or b e)) (sym w) (Memᴰ.head refl)))

pub plain_word : (σ : State) (t : ℕ) → Still σ t → (thread_of σ t).history.done < 9 → word_of σ t ≡ digits t (sources_of (thread_of σ t).history.done (thread_of σ t).history.reads)
unfolding word_of
plain_word σ t s h = let n = lt-ltb (thread_of σ t).history.done 9 h in rw (s, n)

pub noted_done : (b : Bool) (e : Event) (h : History) → (noted b e h).done ≡ suc h.done
unfolding noted
noted_done true e h = refl
noted_done false e h = refl

module _ (p : Program) (a : Admitted tso p) (t u : ℕ) (ne : t ≢ u) where
  -- they are twins of each other
  pub twin_turned : (v : Schedule) (σ : State) → Met p v σ → twin p σ t u ≡ true → twin p σ u t ≡ true
  twin_turned v σ r e = word_twin p a u t (λ i. ne (sym i)) v σ r (line_turned p u t (twin_line p a t u ne σ e)) (sym (twin_word p a t u ne v σ r e))

  -- an access of u that put nothing, then one of t
  module _ (v : Schedule) (σ : State) (r : Met p v σ) (m : enabled σ u ≡ true) (q : putting σ access u ≡ none) where
    g : Regular σ
    g = met_regular p a.0 v σ r

    first : Met p (v ++ (u ∷ [])) (step σ u)
    first = reached_on TSO (start p) v σ r u m

    -- THEY WERE TWINS BEFORE
    module _ (n : enabled (step σ u) t ≡ true) (e : twin p (step (step σ u) t) t u ≡ true) where
      line : Together p u t
      line = twin_line p a t u ne (step (step σ u) t) e

      hu : u < 6
      hu = (below_six p a t u ne line).0

      ht : t < 6
      ht = (below_six p a t u ne line).1

      last : Met p ((v ++ (u ∷ [])) ++ (t ∷ [])) (step (step σ u) t)
      last = reached_on TSO (start p) (v ++ (u ∷ [])) (step σ u) first t n

      -- what both did, behind each one's access
      of_u : (thread_of (step (step σ u) t) u).history ≡ noted (takes (thread_of σ u).local) (finds u (thread_of σ u) (cell_of σ (place σ access u))).source (thread_of σ u).history
      of_u = ap (λ (h : Thread). h.history) (access_other (step σ u) t ht u (λ i. ne (sym i))) ∙ access_history σ u hu m

      of_t : (thread_of (step (step σ u) t) t).history
          ≡ noted (takes (thread_of (step σ u) t).local) (finds t (thread_of (step σ u) t) (cell_of (step σ u) (place (step σ u) access t))).source (thread_of σ t).history
      of_t = access_history (step σ u) t ht n ∙ ap (λ (h : Thread). noted (takes (thread_of (step σ u) t).local) (finds t (thread_of (step σ u) t) (cell_of (step σ u) (place (step σ u) access t))).source h.history)
          (access_other σ u hu t ne)

      numbered : (x : ℕ) → Numbered (thread_of σ x).history.done (thread_of σ x).history.reads
      numbered x = subst (λ (ρ : State). Numbered (thread_of ρ x).history.done (thread_of ρ x).history.reads) (sym r.0) ((kept p a.0 v r.1).numbered x)

      smalls : (x : ℕ) → x < 6 → Small x (sources_of (thread_of (step (step σ u) t) x).history.done (thread_of (step (step σ u) t) x).history.reads)
      smalls x h = subst (λ (ρ : State). Small x (sources_of (thread_of ρ x).history.done (thread_of ρ x).history.reads)) (sym last.0)
          (small p a.0 (at_most_16 p a.1) ((v ++ (u ∷ [])) ++ (t ∷ [])) last.1 x h)

      -- not more than eight accesses each
      few : ((thread_of (step (step σ u) t) u).history.done < 9) × ((thread_of (step (step σ u) t) t).history.done < 9)
      unfolding moved_thread
      few =
          let b = subst (λ (ρ : State). (thread_of ρ u).history.done + (thread_of ρ t).history.done ≤ 16) (sym last.0)
          (done_both p a.0 (at_most_16 p a.1) ((v ++ (u ∷ [])) ++ (t ∷ [])) last.1 u t (λ i. ne (sym i))) in
          let d : (thread_of (step (step σ u) t) t).history.done ≡ (thread_of (step (step σ u) t) u).history.done =
          ap (λ (h : Thread). h.history.done) (twin_tw p a t u ne ((v ++ (u ∷ [])) ++ (t ∷ [])) (step (step σ u) t) last e).0 in
          (omega (arith, b, d), omega (arith, b, d))

      pub twin_back : twin p σ t u ≡ true
      twin_back =
          let s = twin_still p a t u ne (step (step σ u) t) e in
          let mid = met_regular p a.0 (v ++ (u ∷ [])) (step σ u) first in
          let su = still_back σ g u m u (still_back (step σ u) mid t n u s.0) in
          let st = still_back σ g u m t (still_back (step σ u) mid t n t s.1) in
          let du = more_digits u (takes (thread_of σ u).local) (finds u (thread_of σ u) (cell_of σ (place σ access u))).source (thread_of σ u).history (thread_of (step (step σ u) t) u).history of_u (numbered u) (smalls u hu) in
          let dt = more_digits t (takes (thread_of (step σ u) t).local) (finds t (thread_of (step σ u) t) (cell_of (step σ u) (place (step σ u) access t))).source (thread_of σ t).history
          (thread_of (step (step σ u) t) t).history of_t (numbered t) (smalls t ht) in
          let w = sym (plain_word (step (step σ u) t) u s.0 few.0) ∙ twin_word p a t u ne ((v ++ (u ∷ [])) ++ (t ∷ [])) (step (step σ u) t) last e ∙ plain_word (step (step σ u) t) t s.1 few.1 in
          let lu = ap (λ (h : History). h.done) of_u ∙ noted_done _ _ (thread_of σ u).history in
          let lt = ap (λ (h : History). h.done) of_t ∙ noted_done _ _ (thread_of σ t).history in
          word_twin p a t u ne v σ r line (plain_word σ u su (omega (arith, few.0, lu)) ∙ omega (arith, w, du.0, du.1, dt.0, dt.1) ∙ sym (plain_word σ t st (omega (arith, few.1, lt))))

    -- TWINS STAY TWINS behind one access of each
    module _ (e : twin p σ t u ≡ true) where
      line_on : Together p u t
      line_on = twin_line p a t u ne σ e

      hu_on : u < 6
      hu_on = (below_six p a t u ne line_on).0

      ht_on : t < 6
      ht_on = (below_six p a t u ne line_on).1

      π : ℕ → ℕ
      π = swapped u t

      permutes : Permutation (swapped u t)
      permutes = swapped_permutation u t (λ i. ne (sym i)) hu_on ht_on

      fixed : Moves (swapped u t) σ σ
      fixed = subst (λ (ρ : State). Moves (swapped u t) ρ ρ) (sym r.0) (tw_fixed p a.0 v r.1 u t (λ i. ne (sym i)) line_on (subst (λ (ρ : State). Tw ρ u t) r.0 (twin_tw p a t u ne v σ r e)))

      byte_u : moved_byte (swapped u t) u ≡ t
      unfolding moved_byte byte_for
      byte_u = let k = byte_access u hu_on in ap₂ byte_for k.0 (ap (swapped u t) k.1 ∙ swapped_low u t (λ i. ne (sym i)))

      byte_t : moved_byte (swapped u t) t ≡ u
      unfolding moved_byte byte_for
      byte_t = let k = byte_access t ht_on in ap₂ byte_for k.0 (ap (swapped u t) k.1 ∙ swapped_high u t (λ i. ne (sym i)))

      may_t : enabled σ t ≡ true
      may_t = ap (enabled σ) (sym byte_u) ∙ moves_enabled (swapped u t) permutes σ σ fixed u ∙ m

      none_t : putting σ access t ≡ none
      none_t =
          ap (λ (x : ℕ). putting σ access x) (sym (swapped_low u t (λ i. ne (sym i))))
          ∙ ap₂ (reaches access (swapped u t u)) (fixed.threads u) (moves_here (swapped u t) permutes σ σ fixed access u) ∙ reaches_moved (swapped u t) permutes access u (thread_of σ u) (cell_of σ (place σ access u)) ∙ q

      pub next_enabled : enabled (step σ u) t ≡ true
      next_enabled = stays σ u t (λ i. ne (sym i)) m may_t

      turned : step (step σ t) u ≡ step (step σ u) t
      unfolding given
      turned = let k = byte_access u hu_on in
          (turned_on σ g u t ht_on (λ i. ne (sym i ∙ k.1)) (ap₂ (λ (j : Kind) (o : ℕ). looking access (thread_of σ t) && (given (putting σ j o) && eqb (place σ j o) (place σ access t))) k.0 k.1
          ∙ ap (λ (o : Option ℕ). looking access (thread_of σ t) && (given o && eqb (place σ access u) (place σ access t))) q ∙ and_false (looking access (thread_of σ t)))
          may_t (stays σ t u ne may_t m) none_t).2

      both_moved : Moves (swapped u t) (step (step σ u) t) (step (step σ u) t)
      both_moved =
          let x = subst (λ (b : ℕ). Moves (swapped u t) (step σ u) (step σ b)) byte_u (moves_step (swapped u t) permutes σ σ fixed u m) in
          let y = subst (λ (b : ℕ). Moves (swapped u t) (step (step σ u) t) (step (step σ t) b)) byte_t (moves_step (swapped u t) permutes (step σ u) (step σ t) x t next_enabled) in
          subst (Moves (swapped u t) (step (step σ u) t)) turned y

      pub twin_on : twin p (step (step σ u) t) t u ≡ true
      twin_on =
          let s = twin_still p a t u ne σ e in
          let mid = met_regular p a.0 (v ++ (u ∷ [])) (step σ u) first in
          let none-on = put_kept σ u hu_on q access t ne ∙ none_t in
          let quiet : (x : ℕ) → Still σ x → Still (step (step σ u) t) x = λ x z. access_silent (step σ u) mid t ht_on next_enabled none-on x ∙ access_silent σ g u hu_on m q x ∙ z in
          tw_twin p a t u ne ((v ++ (u ∷ [])) ++ (t ∷ [])) (step (step σ u) t) (reached_on TSO (start p) (v ++ (u ∷ [])) (step σ u) first t next_enabled) line_on (
            ap (thread_of (step (step σ u) t)) (sym (swapped_low u t (λ i. ne (sym i)))) ∙ both_moved.threads u,
            λ l j i. silent_quiet (step (step σ u) t) u (quiet u s.0) l (u, j) i refl,
            λ l j i. silent_quiet (step (step σ u) t) t (quiet t s.1) l (t, j) i refl,
          )
