-- NEARNESS FROM WHAT THE SEARCH CARRIES IS NEARNESS. Going back, u's accesses are undone one by one; each that would come again brings t, which is its twin
-- before them, one access behind it.
use Prim.Native.Nat.{ℕ, zero, suc, ◌+◌, ◌*◌, ◌/◌, ◌%◌, ◌^◌, ◌<◌, ◌≤◌}
use mathlib.Core.Path.{◌≡◌, refl, sym, ap, ap₂, subst, ◌∙◌}
use mathlib.Core.Logic.{◌≢◌, ◌⊎◌, inl, inr, ⊎_elim}
use mathlib.Core.Bool.{Bool, true, false, cond, not, ◌&&◌, ◌||◌, true≢false, false≢true}
use mathlib.Core.Option.{Option, none, some}
use mathlib.Core.List.{List, [], ◌∷◌, ◌++◌}
use native.Mathlib.Omega.{arith}
use lib.Dec.{eqb, ltb}
use lib.ListN.{length}
use borrow.Author.Tests.{eqb-true, eqb-false, eq-eqb, ne_eqb, lt-ltb, le-ltb, ltb-true, not-true}
use Rattle.spec_file.specs.Program.{Program}
use Rattle.spec_file.specs.WellFormed.{all_accesses}
use Rattle.spec_file.proofs.DigitValues.{both}
use Rattle.spec_file.proofs.Tests.{either, equal_tests}
use Rattle.spec_schedules.specs.Order.{Schedule}
use Rattle.spec_model.specs.Exchange.{Together, together}
use Rattle.spec_model.specs.Laws.{Admitted}
use Rattle.spec_model.proofs.Permitted.{or_left, or_right, together_true, true_together}
use Rattle.spec_sc.specs.Local.{place_of, first_place, takes}
use Rattle.spec_sc.specs.State.{Event, initial_write, Cell, History, latest, noted}
use Rattle.spec_sc.proofs.Same.{both_and}
use Rattle.theory_search.specs.Standing.{silent}
use Rattle.theory_sc.specs.ThreadWords as ThreadWords
use Rattle.theory_sc.specs.ThreadWords.{lone}
use Rattle.theory_sc.proofs.ThreadWords.{digits_fit}
use Rattle.spec_tso.specs.Queue.{Entry, newest, Found, found_in}
use Rattle.spec_tso.specs.State.{Thread, State, access, without_queues, thread_of, cell_of, finds, target, thread_behind, place, step, enabled, TSO, start}
use Rattle.spec_tso.specs.Actions.{reading}
use Rattle.spec_tso.specs.Exchange.{moved_thread}
use Rattle.spec_tso.specs.TotalStoreOrder.{tso}
use Rattle.spec_tso.proofs.Steps.{enabled_access, putting, still_cell}
use Rattle.spec_tso.proofs.StoreOrder.{within_in, within_le}
use Rattle.spec_tso.proofs.Regular.{Regular, place_in}
use Rattle.spec_tso.proofs.Values.{newest_in}
use Rattle.spec_tso.proofs.Change.{access_done}
use Rattle.spec_tso.proofs.Laws.{at_most_16}
use Rattle.theory_tso.specs.Deeds.{looking}
use Rattle.theory_tso.specs.ReadWords.{sources_of, source_digit, digit, digits, word_of}
use Rattle.theory_tso.specs.Rules.{twin}
use Rattle.theory_tso.proofs.Kept.{kept}
use Rattle.theory_tso.proofs.ReadWords.{Numbered, Small, source_or, sources_length, digit_positive}
use Rattle.theory_tso.proofs.Small.{done_16, done_six, done_both, small}
use Rattle.theory_tso.proofs.Words.{silent_quiet}
use Rattle.theory_states.proofs.Positions.{reached_on}
use Rattle.theory_tso_key.specs.Near.{NearBy, Near, near}
use Rattle.theory_tso_key.specs.Ways.{way_of, last_digit, again, becomes, near_by_word, near_back}
use Rattle.theory_tso_key.proofs.Rules.{Met, met_regular}
use Rattle.theory_tso_key.proofs.Apart.{step_is}
use Rattle.theory_tso_key.proofs.Twins.{Still, line_turned, byte_access, access_still, access_silent, access_thread, access_history, access_other, twin_line, twin_still, below_six, twin_tw, same_rest, word_twin, twin_word, more_digits, plain_word, noted_done}
use Rattle.theory_tso_key.proofs.Near.{place_same, near_line, near_still, near_small, on_way, before_u, behind_u}
use Rattle.theory_tso_key.proofs.Undone.{way_other, Aside, Seen, latest_seen, Gone, Undone, still_aside, cell_aside, undone}
use Rattle.theory_tso_key.proofs.Decides.{near_true, true_near}

-- ---- WORDS TAKEN BACK, as a relation
abbrev Comes : (ℕ → ℕ) → ℕ → ℕ → ℕ → ℕ → Type 0
Comes last zero x y w = y ≡ x
Comes last (suc n) x y w = (again last (y % 128) (w % 8) ≡ true) × Comes last n x (y / 128) (w / 8)

becomes_comes : (last : ℕ → ℕ) (n x y w : ℕ) → becomes last n x y w ≡ true → (k : ℕ) × Comes last k x y w
unfolding becomes
becomes_comes last zero x y w e = (0, eqb-true y x e)
becomes_comes last (suc n) x y w e = go (either (eqb y x) _ e) (λ q. becomes_comes last n x (y / 128) (w / 8) q)
  where
    go : (eqb y x ≡ true) ⊎ ((again last (y % 128) (w % 8) && becomes last n x (y / 128) (w / 8)) ≡ true) →
        (becomes last n x (y / 128) (w / 8) ≡ true → (k : ℕ) × Comes last k x (y / 128) (w / 8)) → (k : ℕ) × Comes last k x y w
    go (inl q) ih = (0, eqb-true y x q)
    go (inr q) ih = let b = both (again last (y % 128) (w % 8)) _ q in let r = ih b.1 in (suc r.0, (b.0, r.1))

comes_becomes : (last : ℕ → ℕ) (n k x y w : ℕ) → k ≤ n → Comes last k x y w → becomes last n x y w ≡ true
unfolding becomes
comes_becomes last zero zero x y w h c = eq-eqb y x c
comes_becomes last zero (suc k) x y w h c = absurd (omega arith)
comes_becomes last (suc n) zero x y w h c = or_left (eqb y x) _ (eq-eqb y x c)
comes_becomes last (suc n) (suc k) x y w h c = or_right (eqb y x) _ (both_and c.0 (comes_becomes last n k x (y / 128) (w / 8) (omega arith) c.1))

again_same : (f g : ℕ → ℕ) → ((l : ℕ) → f l ≡ g l) → (d l : ℕ) → again f d l ≡ again g d l
unfolding again
again_same f g e d l = ap (λ (x : ℕ). eqb d 1 || ((ltb 2 d && ltb d 19) || eqb d x)) (e l)

comes_same : (f g : ℕ → ℕ) → ((l : ℕ) → f l ≡ g l) → (k x y w : ℕ) → Comes f k x y w → Comes g k x y w
comes_same f g e zero x y w c = c
comes_same f g e (suc k) x y w c = (sym (again_same f g e (y % 128) (w % 8)) ∙ c.0, comes_same f g e k x (y / 128) (w / 8) c.1)

-- ---- DIGITS OF SOURCES
-- an event that digits tell apart
abbrev Coded : Event → Type 0
Coded e = (e ≡ initial_write) ⊎ ((e.0 < 6) × (e.1 < 16))

first_digit : (e : Event) → e ≡ initial_write → source_digit 6 e ≡ 2
unfolding source_digit initial_write
first_digit e q = ap (source_digit 6) q

written_digit : (e : Event) → e.0 < 6 → source_digit 6 e ≡ e.0 * 16 + e.1 + 19
unfolding source_digit
written_digit e h = let i = ne_eqb e.0 6 (λ q. omega (arith, h, q)) in let j = lt-ltb e.0 6 h in rw (i, j)

digits_apart : (d e : Event) → Coded d → Coded e → source_digit 6 d ≡ source_digit 6 e → d ≡ e
digits_apart d e (inl a) (inl b) q = a ∙ sym b
digits_apart d e (inl a) (inr b) q = absurd (omega (arith, q, first_digit d a, written_digit e b.0))
digits_apart d e (inr a) (inl b) q = absurd (omega (arith, q, written_digit d a.0, first_digit e b))
digits_apart d e (inr a) (inr b) q =
    let x = written_digit d a.0 in
    let y = written_digit e b.0 in
    ap₂ (λ (i j : ℕ). let z : Event = (i, j) in z) (omega (arith, q, x, y, a.1, b.1)) (omega (arith, q, x, y, a.1, b.1))

-- a read of memory has neither a store's digit nor an own source's
look_digit : (e : Event) → Coded e → (source_digit 6 e ≡ 2) ⊎ (18 < source_digit 6 e)
look_digit e (inl a) = inl (first_digit e a)
look_digit e (inr a) = inr (omega (arith, written_digit e a.0))

-- who reads it does not matter, unless it is an own one
not_own : (t : ℕ) (e : Event) → e.0 ≢ t → Coded e → source_digit t e ≡ source_digit 6 e
unfolding source_digit initial_write
not_own t e ne c = let i = ne_eqb e.0 t ne in let j = ne_eqb e.0 6 (six c) in rw (i, j)
  where
    six : Coded e → e.0 ≢ 6
    six (inl q) i = let z = ap (λ (x : Event). x.0) q in omega (arith, z, i)
    six (inr k) i = omega (arith, k.0, i)

own_digit : (t n : ℕ) → source_digit t (t, n) ≡ n + 3
unfolding source_digit
own_digit t n = let i = eq-eqb t t refl in rw i

again_look : (last : ℕ → ℕ) (d l : ℕ) → (d ≡ 2) ⊎ (18 < d) → again last d l ≡ eqb d (last l)
unfolding again
again_look last d l (inl q) = subst (λ (x : ℕ). (eqb x 1 || ((ltb 2 x && ltb x 19) || eqb x (last l))) ≡ eqb x (last l)) (sym q) refl
again_look last d l (inr q) = let i = ne_eqb d 1 (λ e. omega (arith, q, e)) in let j = lt-ltb 2 d (omega (arith, q)) in let k = le-ltb d 19 (omega (arith, q)) in rw (i, j, k)

again_store : (last : ℕ → ℕ) (l : ℕ) → again last 1 l ≡ true
unfolding again
again_store last l = refl

again_own : (last : ℕ → ℕ) (n l : ℕ) → n < 16 → again last (n + 3) l ≡ true
unfolding again
again_own last n l h = let i = lt-ltb 2 (n + 3) (omega arith) in let j = lt-ltb (n + 3) 19 (omega (arith, h)) in rw (i, j) (or_right (eqb (n + 3) 1) true refl)

-- ---- WORDS OF SILENT THREADS
-- a word below 2^60 is that of a thread with nothing in memory and at most eight accesses
word_small : (σ : State) (t : ℕ) → word_of σ t < 2 ^ 60 → Still σ t × ((thread_of σ t).history.done < 9)
unfolding word_of lone
word_small σ t h = go (silent (without_queues σ) t) refl (ltb (thread_of σ t).history.done 9) refl h
  where
    go : (s : Bool) → silent (without_queues σ) t ≡ s → (d : Bool) → ltb (thread_of σ t).history.done 9 ≡ d →
        cond (s && d) (digits t (sources_of (thread_of σ t).history.done (thread_of σ t).history.reads)) (2 ^ 60 + t) < 2 ^ 60 → Still σ t × ((thread_of σ t).history.done < 9)
    go true s true d i = (s, ltb-true (thread_of σ t).history.done 9 d)
    go true s false d i = absurd (omega (arith, i))
    go false s d e i = absurd (omega (arith, i))

-- two states in which a thread is the same and as silent
word_same : (σ τ : State) (t : ℕ) → thread_of σ t ≡ thread_of τ t → silent (without_queues σ) t ≡ silent (without_queues τ) t → word_of σ t ≡ word_of τ t
unfolding word_of
word_same σ τ t e s = ap₂ (λ (h : Thread) (b : Bool). cond (b && ltb h.history.done 9) (digits t (sources_of h.history.done h.history.reads)) (lone t)) e s

module _ (p : Program) (a : Admitted tso p) where
  few : all_accesses p.threads ≤ 16
  few = at_most_16 p a.1

  coded : (v : Schedule) (σ : State) → Met p v σ → (e : Event) → Seen σ e → Coded e
  coded v σ r e (inl q) = inl q
  coded v σ r e (inr q) =
      let s = (met_regular p a.0 v σ r).stores e.0 in
      let f = s.below q.0 e q.1 refl in
      let d = within_le s.floor (thread_of σ e.0).queue (thread_of σ e.0).history.done s.within in
      let most = subst (λ (ρ : State). (thread_of ρ e.0).history.done ≤ 16) (sym r.0) (done_16 p a.0 few v r.1 e.0) in
      let who : 0 < (thread_of σ e.0).history.done → e.0 < 6 = subst (λ (ρ : State). 0 < (thread_of ρ e.0).history.done → e.0 < 6) (sym r.0) (done_six p a.0 few v r.1 e.0) in
      inr (who (omega (arith, f, d)), omega (arith, f, d, most))

  -- of a thread with nothing in memory it is not
  foreign : (σ : State) (t : ℕ) → t < 6 → Still σ t → (e : Event) → Seen σ e → e.0 ≢ t
  unfolding initial_write
  foreign σ t h s e (inl q) i = let z = ap (λ (x : Event). x.0) q in omega (arith, h, z, i)
  foreign σ t h s e (inr q) i = silent_quiet σ t s q.0 e q.1 i

  -- ---- one access more: a digit more
  word_more : (v : Schedule) (σ : State) (x : Schedule) (τ : State) → Met p v σ → Met p x τ → (t : ℕ) → t < 6 → Still σ t → Still τ t → (thread_of σ t).history.done < 9 →
      (b : Bool) (e : Event) → (thread_of σ t).history ≡ noted b e (thread_of τ t).history → (word_of σ t ≡ word_of τ t * 128 + digit t (source_or b e)) × (digit t (source_or b e) < 128)
  word_more v σ x τ r s t h st su d b e q =
      let n = subst (λ (ρ : State). Numbered (thread_of ρ t).history.done (thread_of ρ t).history.reads) (sym s.0) ((kept p a.0 x s.1).numbered t) in
      let m = subst (λ (ρ : State). Small t (sources_of (thread_of ρ t).history.done (thread_of ρ t).history.reads)) (sym r.0) (small p a.0 few v r.1 t h) in
      let k = more_digits t b e (thread_of τ t).history (thread_of σ t).history q n m in
      let l = ap (λ (y : History). y.done) q ∙ noted_done b e (thread_of τ t).history in
      (plain_word σ t st d ∙ k.0 ∙ ap (λ (y : ℕ). y * 128 + digit t (source_or b e)) (sym (plain_word τ t su (omega (arith, l, d)))), k.1)

  -- a word of at most eight accesses is below 2^60
  word_below : (v : Schedule) (σ : State) → Met p v σ → (t : ℕ) → t < 6 → Still σ t → (thread_of σ t).history.done < 9 → word_of σ t < 2 ^ 60
  word_below v σ r t h s d =
      let os = sources_of (thread_of σ t).history.done (thread_of σ t).history.reads in
      let m = subst (λ (ρ : State). Small t (sources_of (thread_of ρ t).history.done (thread_of ρ t).history.reads)) (sym r.0) (small p a.0 few v r.1 t h) in
      let l = sources_length (thread_of σ t).history.done (thread_of σ t).history.reads in
      let c : 128 ^ 8 ≡ 2 ^ 56 = refl in
      omega (arith, plain_word σ t s d, c, digits_fit 128 (omega arith) (digit t) os 8 (omega (arith, l, d)) m)

  -- ---- AN ACCESS FROM HERE would come again
  again_now : (v : Schedule) (σ : State) → Met p v σ → (t : ℕ) → t < 6 → Still σ t → enabled σ t ≡ true →
      again (last_digit σ) (digit t (source_or (takes (thread_of σ t).local) (finds t (thread_of σ t) (cell_of σ (place σ access t))).source)) (place σ access t) ≡ true
  unfolding finds found_in source_or digit last_digit
  again_now v σ r t h s m = go (takes (thread_of σ t).local) (newest (thread_of σ t).queue (place_of (thread_of σ t).local)) refl
    where
      l : ℕ
      l = place σ access t

      g : Regular σ
      g = met_regular p a.0 v σ r

      go : (b : Bool) (o : Option Entry) → newest (thread_of σ t).queue (place_of (thread_of σ t).local) ≡ o →
          again (last_digit σ) (digit t (source_or b (found_in t o (cell_of σ (place σ access t))).source)) (place σ access t) ≡ true
      go false o i = again_store (last_digit σ) (place σ access t)
      go true none i =
          let e = latest (cell_of σ (place σ access t)).writes in
          let k = coded v σ r e (latest_seen σ (place σ access t)) in
          let same = not_own t e (foreign σ t h s e (latest_seen σ (place σ access t))) k in
          ap (λ (d : ℕ). again (last_digit σ) d (place σ access t)) same
          ∙ again_look (last_digit σ) (source_digit 6 e) (place σ access t) (look_digit e k) ∙ eq-eqb (source_digit 6 e) (source_digit 6 e) refl
      go true (some x) i =
          let st = g.stores t in
          let n = (within_in st.floor (thread_of σ t).queue (thread_of σ t).history.done x st.within (newest_in (thread_of σ t).queue (place_of (thread_of σ t).local) x i).0).1 in
          let most = subst (λ (ρ : State). (thread_of ρ t).history.done ≤ 16) (sym r.0) (done_16 p a.0 few v r.1 t) in
          ap (λ (d : ℕ). again (last_digit σ) d (place σ access t)) (own_digit t x.number) ∙ again_own (last_digit σ) x.number (place σ access t) (omega (arith, n, most))

  last_same : (σ τ : State) → ((l : ℕ) → cell_of σ l ≡ cell_of τ l) → (l : ℕ) → last_digit σ l ≡ last_digit τ l
  unfolding last_digit
  last_same σ τ e l = ap (λ (c : Cell). source_digit 6 (latest c.writes)) (e l)

  -- ---- u's LATEST ACCESS, undone
  module _ (v : Schedule) (σ : State) (r : Met p v σ) (u : ℕ) (h : u < 6) (s : Still σ u) (d : (thread_of σ u).history.done < 9) (D : Undone p v σ u) where
    still_before : Still D.before u
    still_before = still_aside u D.before σ D.aside u ∙ s

    -- what it noted
    noted_by : (b : Bool) × (e : Event) × ((thread_of σ u).history ≡ noted b e (thread_of D.before u).history)
    noted_by = go D.how
      where
        go : (step D.before u ≡ σ) ⊎ Gone D.before σ u → (b : Bool) × (e : Event) × ((thread_of σ u).history ≡ noted b e (thread_of D.before u).history)
        go (inl q) = (_, _, ap (λ (ρ : State). (thread_of ρ u).history) (sym q) ∙ access_history D.before u h D.may)
        go (inr x) = (true, x.source, x.read)

    word_split : (word_of σ u ≡ word_of D.before u * 128 + digit u (source_or noted_by.0 noted_by.1)) × (digit u (source_or noted_by.0 noted_by.1) < 128)
    word_split = word_more v σ D.prefix D.before r D.met u h s still_before d noted_by.0 noted_by.1 noted_by.2

    word_back : word_of σ u / 128 ≡ word_of D.before u
    word_back = let k = word_split.0 in let b = word_split.1 in omega (arith, k, b)

    done_back : suc (thread_of D.before u).history.done ≡ (thread_of σ u).history.done
    done_back = sym (ap (λ (y : History). y.done) noted_by.2 ∙ noted_done noted_by.0 noted_by.1 (thread_of D.before u).history)

    place_eight : place D.before access u < 8
    place_eight =
        let g = met_regular p a.0 D.prefix D.before D.met in
        omega (arith, place_in D.before g access u (sym (enabled_access D.before u h) ∙ D.may), g.eight)

    way_split : (way_of p v u / 8 ≡ way_of p D.prefix u) × (way_of p v u % 8 ≡ place D.before access u)
    way_split = let k = D.way in let b = place_eight in (omega (arith, k, b), omega (arith, k, b))

    -- where its source is gone it would not come again
    gone_once : Gone D.before σ u → again (last_digit σ) (word_of σ u % 128) (way_of p v u % 8) ≡ false
    unfolding source_or digit last_digit
    gone_once x =
        let k = word_more v σ D.prefix D.before r D.met u h s still_before d true x.source x.read in
        let c = coded v σ r x.source x.seen in
        let y : word_of σ u % 128 ≡ source_digit 6 x.source = omega (arith, k.0, k.1) ∙ not_own u x.source (foreign σ u h s x.source x.seen) c in
        let l = place D.before access u in
        let e = latest (cell_of σ l).writes in
        ap₂ (again (last_digit σ)) y way_split.1 ∙ again_look (last_digit σ) (source_digit 6 x.source) l (look_digit x.source c)
        ∙ ne_eqb (source_digit 6 x.source) (source_digit 6 e) (λ i. x.past (digits_apart x.source e c (coded v σ r e (latest_seen σ l)) i))

    came : again (last_digit σ) (word_of σ u % 128) (way_of p v u % 8) ≡ true → step D.before u ≡ σ
    came e = ⊎_elim (λ (q : step D.before u ≡ σ). q) (λ (x : Gone D.before σ u). absurd (true≢false (sym e ∙ gone_once x))) D.how

    -- its access from before it puts nothing
    put_back : step D.before u ≡ σ → putting D.before access u ≡ none
    put_back q = access_still D.before (met_regular p a.0 D.prefix D.before D.met) u h D.may (subst (λ (ρ : State). Still ρ u) (sym q) s)

    -- another thread has its word
    word_other : (t : ℕ) → t ≢ u → word_of D.before t ≡ word_of σ t
    word_other t ne = word_same D.before σ t (D.aside.others t ne) (still_aside u D.before σ D.aside t)

    last_before : (l : ℕ) → last_digit D.before l ≡ last_digit σ l
    last_before = last_same D.before σ (cell_aside u D.before σ D.aside)

  -- who did nothing has no access that would come again
  none_done : (σ : State) (u : ℕ) → Still σ u → (thread_of σ u).history.done ≡ 0 → (l : ℕ) → again (last_digit σ) (word_of σ u % 128) l ≡ false
  unfolding sources_of ThreadWords.digits again last_digit digit
  none_done σ u s d l =
      let z : word_of σ u ≡ 0 = plain_word σ u s (omega (arith, d)) ∙ ap (λ (n : ℕ). digits u (sources_of n (thread_of σ u).history.reads)) d in
      let e = latest (cell_of σ l).writes in
      ap (λ (n : ℕ). again (last_digit σ) (n % 128) l) z ∙ ne_eqb 0 (source_digit 6 e) (λ i. omega (arith, digit_positive 6 (some e), i))

  some_done : (σ : State) (u : ℕ) → Still σ u → (l : ℕ) → again (last_digit σ) (word_of σ u % 128) l ≡ true → (n : ℕ) → (thread_of σ u).history.done ≡ n → 0 < (thread_of σ u).history.done
  some_done σ u s l e zero d = absurd (true≢false (sym e ∙ none_done σ u s d l))
  some_done σ u s l e (suc n) d = omega (arith, d)

  places_same : (τ : State) (t u : ℕ) → (thread_of τ t).local.rest ≡ (thread_of τ u).local.rest → place τ access u ≡ place τ access t
  unfolding place target place_of
  places_same τ t u e = ap first_place (sym e)

  module _ (t u : ℕ) (ne : t ≢ u) where
    -- WHO COMES BACK TO IT IS NEAR
    comes_near : (k : ℕ) (v : Schedule) (σ : State) → Met p v σ → Together p u t → Still σ u → (thread_of σ u).history.done < 9 →
        Comes (last_digit σ) k (word_of σ t) (word_of σ u) (way_of p v u) → NearBy p k σ t u
    comes_near zero v σ r line s d c = word_twin p a t u ne v σ r line c
    comes_near (suc k) v σ r line s d c =
        let hu = (below_six p a t u ne line).0 in
        let D = undone p a.0 v σ r u hu s (some_done σ u s (way_of p v u % 8) c.0 (thread_of σ u).history.done refl) in
        let q = came v σ r u hu s d D c.0 in
        let ih = comes_near k D.prefix D.before D.met line (still_before v σ r u hu s d D) (omega (arith, done_back v σ r u hu s d D, d))
        (comes_same (last_digit σ) (last_digit D.before) (λ l. sym (last_before v σ r u hu s d D l)) k (word_of D.before t) (word_of D.before u) (way_of p D.prefix u)
        (subst (λ (w : ℕ). Comes (last_digit σ) k (word_of D.before t) (word_of D.before u) w) (way_split v σ r u hu s d D).0
        (subst (λ (y : ℕ). Comes (last_digit σ) k (word_of D.before t) y (way_of p v u / 8)) (word_back v σ r u hu s d D)
        (subst (λ (x : ℕ). Comes (last_digit σ) k x (word_of σ u / 128) (way_of p v u / 8)) (sym (word_other v σ r u hu s d D t ne)) c.1)))) in
        subst (λ (ρ : State). NearBy p (suc k) ρ t u) q (behind_u p a t u ne k D.prefix D.before D.met D.may (put_back v σ r u hu s d D q) ih)

    -- ---- as many accesses
    near_done : (n : ℕ) (v : Schedule) (σ : State) → Met p v σ → NearBy p n σ t u → (thread_of σ u).history.done ≡ (thread_of σ t).history.done + n
    unfolding moved_thread
    near_done zero v σ r e = let q = ap (λ (h : Thread). h.history.done) (twin_tw p a t u ne v σ r e).0 in omega (arith, q)
    near_done (suc n) v σ r k =
        let h = (near_small p a t u ne n (step σ t) k.1).1 in
        let ih = near_done n (v ++ (t ∷ [])) (step σ t) (reached_on TSO (start p) v σ r t k.0) k.1 in
        let x = ap (λ (y : Thread). y.history.done) (access_other σ t h u (λ i. ne (sym i))) in
        let y = ap (λ (y : Thread). y.history.done) (access_thread σ t h k.0) ∙ access_done t (thread_of σ t) (cell_of σ (place σ access t)) in
        omega (arith, ih, x, y)

    near_eight : (n : ℕ) (v : Schedule) (σ : State) → Met p v σ → NearBy p n σ t u → (thread_of σ u).history.done < 9
    near_eight zero v σ r e =
        let b = subst (λ (ρ : State). (thread_of ρ u).history.done + (thread_of ρ t).history.done ≤ 16) (sym r.0) (done_both p a.0 few v r.1 u t (λ i. ne (sym i))) in
        omega (arith, b, near_done zero v σ r e)
    near_eight (suc n) v σ r k =
        let h = (near_small p a t u ne n (step σ t) k.1).1 in
        let x = ap (λ (y : Thread). y.history.done) (access_other σ t h u (λ i. ne (sym i))) in
        omega (arith, near_eight n (v ++ (t ∷ [])) (step σ t) (reached_on TSO (start p) v σ r t k.0) k.1, x)

    -- ---- u's latest access would come again, for t will have made it
    last_again : (n : ℕ) (v : Schedule) (σ : State) → Met p v σ → NearBy p (suc n) σ t u → again (last_digit σ) (word_of σ u % 128) (way_of p v u % 8) ≡ true
    last_again zero v σ r k =
        let six = near_small p a t u ne zero (step σ t) k.1 in
        let on = reached_on TSO (start p) v σ r t k.0 in
        let line = near_line p a t u ne zero (step σ t) k.1 in
        let quiet = near_still p a t u ne (suc zero) v σ r k in
        let later = near_still p a t u ne zero (v ++ (t ∷ [])) (step σ t) on k.1 in
        let eight = near_eight (suc zero) v σ r k in
        let D = undone p a.0 v σ r u six.0 quiet.0 (omega (arith, near_done (suc zero) v σ r k)) in
        let wu = word_split v σ r u six.0 quiet.0 eight D in
        let kept-u = word_same (step σ t) σ u (access_other σ t six.1 u (λ i. ne (sym i))) (later.0 ∙ sym quiet.0) in
        let wt = word_more (v ++ (t ∷ [])) (step σ t) v σ on r t six.1 later.1 quiet.1
        (omega (arith, near_done zero (v ++ (t ∷ [])) (step σ t) on k.1, near_eight zero (v ++ (t ∷ [])) (step σ t) on k.1)) (takes (thread_of σ t).local)
        (finds t (thread_of σ t) (cell_of σ (place σ access t))).source (access_history σ t six.1 k.0) in
        let same = sym kept-u ∙ twin_word p a t u ne (v ++ (t ∷ [])) (step σ t) on k.1 in
        let digits_same : word_of σ u % 128 ≡ digit t (source_or (takes (thread_of σ t).local) (finds t (thread_of σ t) (cell_of σ (place σ access t))).source) = omega (arith, wt.0, wt.1, same) in
        let words : word_of D.before u ≡ word_of D.before t = omega (arith, wt.0, wt.1, wu.0, wu.1, same) ∙ sym (word_other v σ r u six.0 quiet.0 eight D t ne) in
        let rests = same_rest p a t u ne D.prefix D.before D.met (word_twin p a t u ne D.prefix D.before D.met line words) in
        let places : place D.before access u ≡ place σ access t = places_same D.before t u rests ∙ place_same D.before σ access t (D.aside.others t ne) in
        ap₂ (again (last_digit σ)) digits_same ((way_split v σ r u six.0 quiet.0 eight D).1 ∙ places) ∙ again_now v σ r t six.1 quiet.1 k.0
    last_again (suc n) v σ r k =
        let six = near_small p a t u ne (suc n) (step σ t) k.1 in
        let on = reached_on TSO (start p) v σ r t k.0 in
        let quiet = near_still p a t u ne (suc (suc n)) v σ r k in
        let later = near_still p a t u ne (suc n) (v ++ (t ∷ [])) (step σ t) on k.1 in
        let put = on_way p a t u ne (suc n) v σ r k.0 k.1 in
        let kept-u = word_same (step σ t) σ u (access_other σ t six.1 u (λ i. ne (sym i))) (later.0 ∙ sym quiet.0) in
        let cells : (l : ℕ) → cell_of (step σ t) l ≡ cell_of σ l = λ l. ap (λ (ρ : State). cell_of ρ l) (step_is σ t six.1) ∙ still_cell σ access t l put in
        sym (ap₂ (λ (y w : ℕ). again (last_digit σ) (y % 128) (w % 8)) kept-u (way_other p v σ r u t ne)) ∙
        sym (again_same (last_digit (step σ t)) (last_digit σ) (last_same (step σ t) σ cells) (word_of (step σ t) u % 128) (way_of p (v ++ (t ∷ [])) u % 8))
        ∙ last_again n (v ++ (t ∷ [])) (step σ t) on k.1

    -- WHO IS NEAR COMES BACK TO IT
    near_comes : (n : ℕ) (v : Schedule) (σ : State) → Met p v σ → NearBy p n σ t u → Comes (last_digit σ) n (word_of σ t) (word_of σ u) (way_of p v u)
    near_comes zero v σ r e = twin_word p a t u ne v σ r e
    near_comes (suc n) v σ r k =
        let hu = (near_small p a t u ne n (step σ t) k.1).0 in
        let s = (near_still p a t u ne (suc n) v σ r k).0 in
        let d = near_eight (suc n) v σ r k in
        let ag = last_again n v σ r k in
        let D = undone p a.0 v σ r u hu s (omega (arith, near_done (suc n) v σ r k)) in
        let q = came v σ r u hu s d D ag in
        let ih = near_comes n D.prefix D.before D.met (before_u p a t u ne n D.prefix D.before D.met D.may (put_back v σ r u hu s d D q) (subst (λ (ρ : State). NearBy p (suc n) ρ t u) (sym q) k)) in (
          ag,
          subst (λ (x : ℕ). Comes (last_digit σ) n x (word_of σ u / 128) (way_of p v u / 8)) (word_other v σ r u hu s d D t ne)
              (subst (λ (y : ℕ). Comes (last_digit σ) n (word_of D.before t) y (way_of p v u / 8)) (sym (word_back v σ r u hu s d D))
              (subst (λ (w : ℕ). Comes (last_digit σ) n (word_of D.before t) (word_of D.before u) w) (sym (way_split v σ r u hu s d D).0)
              (comes_same (last_digit D.before) (last_digit σ) (last_before v σ r u hu s d D) n (word_of D.before t) (word_of D.before u) (way_of p D.prefix u) ih))),
        )

  -- BOTH ARE ONE TEST
  pub near_back_lem : (v : Schedule) (σ : State) → Met p v σ → (t u : ℕ) → near_back p v σ t u ≡ near p σ t u
  unfolding near_back near_by_word
  near_back_lem v σ r t u = equal_tests (near_back p v σ t u) (near p σ t u) there back
    where
      there : near_back p v σ t u ≡ true → near p σ t u ≡ true
      there e =
          let b = both (not (eqb t u)) _ e in
          let ne = eqb-false t u (not-true (eqb t u) b.0) in
          let c = both (together p.groups u t) _ b.1 in
          let x = both (ltb (word_of σ t) (2 ^ 60)) _ c.1 in
          let y = both (ltb (word_of σ u) (2 ^ 60)) _ x.1 in
          let s = word_small σ u (ltb-true (word_of σ u) (2 ^ 60) y.0) in
          let k = becomes_comes (last_digit σ) 8 (word_of σ t) (word_of σ u) (way_of p v u) y.1 in
          true_near p σ t u ne (k.0, comes_near t u ne k.0 v σ r (together_true p u t c.0) s.0 s.1 k.1)

      back : near p σ t u ≡ true → near_back p v σ t u ≡ true
      back e =
          let b = near_true p σ t u e in
          let ne = b.0 in
          let n = b.1.0 in
          let k = b.1.1 in
          let six = near_small p a t u ne n σ k in
          let s = near_still p a t u ne n v σ r k in
          let d = near_eight t u ne n v σ r k in
          let i = near_done t u ne n v σ r k in
          both_and (ap not (ne_eqb t u ne)) (both_and (true_together p u t (near_line p a t u ne n σ k))
          (both_and (lt-ltb (word_of σ t) (2 ^ 60) (word_below v σ r t six.1 s.1 (omega (arith, d, i))))
          (both_and (lt-ltb (word_of σ u) (2 ^ 60) (word_below v σ r u six.0 s.0 d))
          (comes_becomes (last_digit σ) 8 n (word_of σ t) (word_of σ u) (way_of p v u) (omega (arith, d, i)) (near_comes t u ne n v σ r k)))))
