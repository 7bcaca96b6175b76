-- NEARNESS BY WORDS IS NEARNESS. Both say one thing of the reads of two threads that have not written: t's are the first of u's, and each further read
-- of u is of the write that is still the last of its location.
use Prim.Native.Nat.{ℕ, zero, suc, ◌+◌, ◌/◌, ◌%◌, ◌^◌, ◌<◌, ◌≤◌}
use mathlib.Core.Path.{◌≡◌, refl, sym, ap, ap₂, subst, ◌∙◌}
use mathlib.Core.Logic.{◌≢◌, ◌↔◌, ◌⊎◌, inl, inr, ⊎_elim}
use mathlib.Core.Bool.{Bool, true, not, ◌&&◌}
use mathlib.Core.List.Memᴰ
use mathlib.Core.List.{List, [], ◌∷◌, map}
use native.Mathlib.Omega.{arith}
use native.Mathlib.Decide.{ℕ_discrete, dec_lt}
use native.Mathlib.Nat.{pow-suc, pow-le-pow_right}
use lib.Dec.{eqb, ltb}
use lib.ListN.{length, get_or}
use borrow.Author.Tests.{eqb-true, eqb-false, eq-eqb, ne_eqb, lt-ltb, ltb-true, not-true}
use Rattle.spec_file.specs.Program.{Program}
use Rattle.spec_file.specs.WellFormed.{WellFormed}
use Rattle.spec_file.proofs.DigitValues.{both}
use Rattle.spec_file.proofs.Tests.{equal_tests}
use Rattle.spec_schedules.specs.Lists.{range}
use Rattle.spec_schedules.specs.Order.{Schedule}
use Rattle.spec_schedules.specs.System.{Allowed}
use Rattle.spec_schedules.proofs.Runs.{allowed_length}
use Rattle.spec_model.specs.Exchange.{together, Together}
use Rattle.spec_model.proofs.Exchanges.{members}
use Rattle.spec_model.proofs.Permitted.{together_true, true_together}
use Rattle.spec_sc.specs.Local.{Local, place_of, puts}
use Rattle.spec_sc.specs.State.{Event, History, Thread, Cell, State, fresh_cell, thread_of, cell_of, latest, SC, start}
use Rattle.spec_sc.specs.Actions.{given}
use Rattle.spec_sc.specs.Graph.{end_of}
use Rattle.spec_sc.proofs.Same.{both_and}
use Rattle.spec_sc.proofs.Lawful.{lawful, start_24}
use Rattle.spec_sc.proofs.Regular.{Regular}
use Rattle.theory_sc.specs.Sets.{set_of}
use Rattle.theory_sc.specs.LateSet.{late_set}
use Rattle.theory_sc.specs.ThreadWords as ThreadWords
use Rattle.theory_sc.specs.ThreadWords.{lone}
use Rattle.theory_sc.specs.ReadWords.{words_of}
use Rattle.theory_sc.proofs.Sets.{set_same}
use Rattle.theory_sc.proofs.GoesFirst.{Quiet}
use Rattle.theory_sc.proofs.Digits.{digits, Plain, plain_length, Sources, digits_once, led}
use Rattle.theory_sc.proofs.ThreadWords.{digits_fit, digits_above}
use Rattle.theory_sc.proofs.ReadWords.{Reads, Lone, Held, Known, latest_known, sources_known, code_below, code_apart}
use Rattle.theory_sc.proofs.TwinWords.{held}
use Rattle.theory_states.specs.Positions.{Reached}
use Rattle.theory_sc_key.specs.Nearness.{found, looks, onward, gone_on, near, near_sets}
use Rattle.theory_sc_key.specs.Key.{Key, left_of, values_of, key_of}
use Rattle.theory_sc_key.specs.Ways.{way_behind, ways_of, comes_back, near_by_word, near_sets_by_word, carried_key}
use Rattle.theory_sc_key.proofs.GoingOn.{Looks, Comes, comes_last, look_history, Led, led_once, led_onward, led_gone}
use Rattle.theory_sc_key.proofs.Traced.{Trail, went, Walk, Walks, walks_of, Traced, traces, began}
use Rattle.theory_sc_key.proofs.Twelve.{twelve}
use Rattle.theory_sc_key.proofs.Nearness.{Near}
use Rattle.theory_sc_key.proofs.NearTest.{line_sym, five, near_true, true_near}
use Rattle.theory_sc_key.proofs.Ways.{comes_back_at, comes_back_on}

-- ---- BY READS, latest first, of threads that began with h, in a memory cs
module _ (val : ℕ → Event → ℕ) (h : Local) (cs : List Cell) where
  -- the write that r took its value from, behind the reads rs, is still the last of its location
  abbrev Current : ℕ × Event → List (ℕ × Event) → Type 0
  Current r rs = latest (get_or cs (place_of (led val h rs)) (fresh_cell 0)).writes ≡ r.1

  -- xs are the first of the reads rs, and each further one is current
  abbrev pub Back : List (ℕ × Event) → List (ℕ × Event) → Type 0
  Back xs [] = xs ≡ []
  Back xs (r ∷ rs) = (xs ≡ r ∷ rs) ⊎ (Current r rs × Back xs rs)

  back_self : (rs : List (ℕ × Event)) → Back rs rs
  back_self [] = refl
  back_self (r ∷ rs) = inl refl

  module _ (valued : (l : ℕ) → (get_or cs l (fresh_cell 0)).value ≡ val l (latest (get_or cs l (fresh_cell 0)).writes)) (x : Thread) (stands : Led val h x) where
    -- a thread that goes on adds current reads
    gone_back : (n : ℕ) → Looks cs n x → Back x.history.reads (gone_on cs n x).history.reads
    unfolding gone_on
    gone_back zero l = back_self x.history.reads
    gone_back (suc n) l =
        let before : Looks cs n x = λ i s. l i (omega arith) in
        let k : Thread = gone_on cs n x in
        subst (λ (y : History). Back x.history.reads y.reads) (sym (look_history cs k (l n (omega arith))))
        (inr (ap (λ (y : Local). latest (get_or cs (place_of y) (fresh_cell 0)).writes) (sym (led_gone val h cs valued n x stands before)), gone_back n before))

    abbrev behind : ℕ → List (ℕ × Event) → Thread
    behind d rs = record { local = led val h rs; history = record { done = d; reads = rs } }

    -- a thread whose reads are the first of rs, the others current, comes to have rs
    back_comes : Plain x.history.reads x.history.done → (rs : List (ℕ × Event)) (d : ℕ) → Plain rs d → Trail val h rs → Back x.history.reads rs →
        (n : ℕ) × Comes cs n x (behind d rs)
    unfolding gone_on looks
    back_comes px rs d pr tr b = by rs d pr tr b
      where
        at : (rs : List (ℕ × Event)) (d : ℕ) → Plain rs d → x.history.reads ≡ rs → (n : ℕ) × Comes cs n x (behind d rs)
        at rs d pr e =
            let done : x.history.done ≡ d = sym (plain_length x.history.reads x.history.done px) ∙ ap length e ∙ plain_length rs d pr in
            (0, (λ i s. absurd (omega arith), led_once val h x (behind d rs) stands refl (ap₂ (λ (i : ℕ) (l : List (ℕ × Event)). let z : History = record { done = i; reads = l } in z) done e)))

        one : (r : ℕ × Event) (rs : List (ℕ × Event)) (d : ℕ) → Plain (r ∷ rs) d → Trail val h (r ∷ rs) → Current r rs → (n : ℕ) × Comes cs n x (behind r.0 rs) → (n : ℕ) × Comes cs n x (behind d (r ∷ rs))
        one r rs d pr tr c ih =
            let k : Thread = behind r.0 rs in
            let finds : (found cs k).value ≡ val (place_of (led val h rs)) r.1 = valued (place_of (led val h rs)) ∙ ap (val (place_of (led val h rs))) c in
            let l : looks cs k ≡ true = both_and tr.0.pends (ap not (ap (λ (y : ℕ). given (puts (led val h rs) y)) finds ∙ tr.0.none)) in
            let same = led_once val h (onward cs k) (behind d (r ∷ rs)) (led_onward val h cs valued k refl l) refl
            (look_history cs k l ∙ ap₂ (λ (i : ℕ) (e : Event). let z : History = record { done = i; reads = (r.0, e) ∷ rs } in z) (sym pr.0) c) in
            (suc ih.0, subst (Comes cs (suc ih.0) x) same (comes_last cs ih.0 x k ih.1 l))

        by : (rs : List (ℕ × Event)) (d : ℕ) → Plain rs d → Trail val h rs → Back x.history.reads rs → (n : ℕ) × Comes cs n x (behind d rs)
        by [] d pr tr b = at [] d pr b
        by (r ∷ rs) d pr tr (inl e) = at (r ∷ rs) d pr e
        by (r ∷ rs) d pr tr (inr b) = one r rs d pr tr b.0 (by rs r.0 pr.1 tr.1 b.1)

-- ---- BY WORDS: sources that count have numbers below 31, different ones different numbers, and stamps are those of the last writes
module _ (val : ℕ → Event → ℕ) (h : Local) (cs : List Cell) (stamps : List ℕ) (code : Event → ℕ) (Counts : Event → Type 0)
    (below : (e : Event) → Counts e → code e < 31) (apart : (d e : Event) → Counts d → Counts e → code d ≡ code e → d ≡ e)
    (lasts : (l : ℕ) → Counts (latest (get_or cs l (fresh_cell 0)).writes))
    (stamped : (l : ℕ) → l < 8 → get_or stamps l 0 ≡ code (latest (get_or cs l (fresh_cell 0)).writes)) where
  went_below : (rs : List (ℕ × Event)) → Trail val h rs → went val h rs < 8 ^ length rs
  unfolding went way_behind
  went_below [] tr = omega arith
  went_below (r ∷ rs) tr = omega (arith, went_below rs tr.1, tr.0.eight, pow-suc 8 (length rs))

  -- what is left of a way, and of a word, when the latest read is taken off
  way_parts : (r : ℕ × Event) (rs : List (ℕ × Event)) → Trail val h (r ∷ rs) → length rs ≤ 11 → (went val h (r ∷ rs) % 8 ≡ place_of (led val h rs)) × (went val h (r ∷ rs) / 8 ≡ went val h rs)
  unfolding went way_behind
  way_parts r rs tr few =
      let a = went_below rs tr.1 in
      let b : 8 ^ length rs ≤ 8 ^ 11 = pow-le-pow_right {n = 8} (omega arith) {i = length rs} {j = 11} few in
      let c : 8 ^ 11 ≡ 2 ^ 33 = refl in
      let e = tr.0.eight in
      (omega arith, omega arith)

  word_parts : (r : ℕ × Event) (rs : List (ℕ × Event)) → Counts r.1 → (digits code (r ∷ rs) % 32 ≡ code r.1 + 1) × (digits code (r ∷ rs) / 32 ≡ digits code rs)
  unfolding ThreadWords.digits
  word_parts r rs k = let b = below r.1 k in (omega arith, omega arith)

  module _ (xs : List (ℕ × Event)) (i : ℕ) (px : Plain xs i) (kx : Sources Counts xs) where
    same_reads : (rs : List (ℕ × Event)) (d : ℕ) → Plain rs d → Sources Counts rs → digits code rs ≡ digits code xs → xs ≡ rs
    same_reads rs d pr k e = sym (digits_once code rs xs d i pr px (λ r m. below r.1 (k r m)) (λ r m. below r.1 (kx r m)) (λ r s a b z. apart r.1 s.1 (k r a) (kx s b) z) e)

    small : (rs : List (ℕ × Event)) → Sources Counts rs → length rs ≤ 12 → digits code rs < 2 ^ 60
    small rs k few =
        let a = digits_fit 32 (omega arith) (λ (r : ℕ × Event). code r.1 + 1) rs 12 few (λ r m. let b = below r.1 (k r m) in omega arith) in
        let c : 32 ^ 12 ≡ 2 ^ 60 = refl in
        omega (arith, a)

    -- one read taken off a word that is not yet there
    one_off : (r : ℕ × Event) (rs : List (ℕ × Event)) → Trail val h (r ∷ rs) → Sources Counts (r ∷ rs) → length (r ∷ rs) ≤ 12 → digits code (r ∷ rs) ≢ digits code xs →
        (comes_back 12 stamps (digits code xs) (digits code (r ∷ rs)) (went val h (r ∷ rs)) ≡ true)
        ↔ (Current val h cs r rs × (comes_back 12 stamps (digits code xs) (digits code rs) (went val h rs) ≡ true))
    one_off r rs tr k few ne = (there, λ b. off ∙ both_and (eq-eqb (stamp + 1) (code r.1 + 1) (ap (λ (n : ℕ). n + 1) (last ∙ ap code b.0))) b.1)
      where
        l : ℕ
        l = place_of (led val h rs)

        stamp : ℕ
        stamp = get_or stamps l 0

        last : stamp ≡ code (latest (get_or cs l (fresh_cell 0)).writes)
        last = stamped l tr.0.eight

        off : comes_back 12 stamps (digits code xs) (digits code (r ∷ rs)) (went val h (r ∷ rs))
            ≡ (eqb (stamp + 1) (code r.1 + 1) && comes_back 12 stamps (digits code xs) (digits code rs) (went val h rs))
        off =
            let way = way_parts r rs tr (omega arith) in
            let word = word_parts r rs (k r (Memᴰ.head refl)) in
            comes_back_on stamps (digits code xs) (digits code (r ∷ rs)) (went val h (r ∷ rs)) ne (small (r ∷ rs) k few)
            ∙ ap₂ (λ (m n : ℕ). eqb (get_or stamps m 0 + 1) n && comes_back 12 stamps (digits code xs) (digits code (r ∷ rs) / 32) (went val h (r ∷ rs) / 8)) way.0 word.0
            ∙ ap₂ (λ (m n : ℕ). eqb (stamp + 1) (code r.1 + 1) && comes_back 12 stamps (digits code xs) m n) word.1 way.1

        there : comes_back 12 stamps (digits code xs) (digits code (r ∷ rs)) (went val h (r ∷ rs)) ≡ true →
            Current val h cs r rs × (comes_back 12 stamps (digits code xs) (digits code rs) (went val h rs) ≡ true)
        there e =
            let b = both (eqb (stamp + 1) (code r.1 + 1)) _ (sym off ∙ e) in
            let number : stamp ≡ code r.1 = let q = eqb-true (stamp + 1) (code r.1 + 1) b.0 in omega arith in
            (apart (latest (get_or cs l (fresh_cell 0)).writes) r.1 (lasts l) (k r (Memᴰ.head refl)) (sym last ∙ number), b.1)

    -- A WORD COMES BACK exactly where the reads do
    pub word_back : (rs : List (ℕ × Event)) (d : ℕ) → Plain rs d → Trail val h rs → Sources Counts rs → length rs ≤ 12 →
        (comes_back 12 stamps (digits code xs) (digits code rs) (went val h rs) ≡ true) ↔ Back val h cs xs rs
    unfolding ThreadWords.digits
    word_back [] d pr tr k few = go (ℕ_discrete 0 (digits code xs))
      where
        go : Dec (0 ≡ digits code xs) → (comes_back 12 stamps (digits code xs) 0 (went val h []) ≡ true) ↔ (xs ≡ [])
        go (yes q) = (λ e. same_reads [] d pr k q, λ b. comes_back_at stamps (digits code xs) 0 (went val h []) q)
        go (no q) =
            let s : ℕ = get_or stamps (went val h [] % 8) 0 + 1 in (
              λ e. absurd (omega (arith, eqb-true s (0 % 32) (both (eqb s (0 % 32)) _ (sym (comes_back_on stamps (digits code xs) 0 (went val h []) q (omega arith)) ∙ e)).0)),
              λ b. absurd (q (sym (ap (digits code) b))),
            )
    word_back (r ∷ rs) d pr tr k few = go (ℕ_discrete (digits code (r ∷ rs)) (digits code xs)) (word_back rs r.0 pr.1 tr.1 (λ x m. k x (Memᴰ.tail m)) (omega arith))
      where
        go : Dec (digits code (r ∷ rs) ≡ digits code xs) → (comes_back 12 stamps (digits code xs) (digits code rs) (went val h rs) ≡ true) ↔ Back val h cs xs rs →
            (comes_back 12 stamps (digits code xs) (digits code (r ∷ rs)) (went val h (r ∷ rs)) ≡ true) ↔ Back val h cs xs (r ∷ rs)
        go (yes q) ih = (λ e. inl (same_reads (r ∷ rs) d pr k q), λ b. comes_back_at stamps (digits code xs) (digits code (r ∷ rs)) (went val h (r ∷ rs)) q)
        go (no q) ih =
            let o = one_off r rs tr k few q in (
              λ e. let c = o.0 e in inr (c.0, ih.0 c.1),
              λ b. ⊎_elim (λ (e : xs ≡ r ∷ rs). absurd (q (sym (ap (digits code) e)))) (λ (c : Current val h cs r rs × Back val h cs xs rs). o.1 (c.0, ih.1 c.1)) b,
            )

-- a word below 2^60 has at most twelve reads
few_reads : (code : Event → ℕ) (rs : List (ℕ × Event)) → digits code rs < 2 ^ 60 → length rs ≤ 12
few_reads code [] h = omega arith
few_reads code (r ∷ rs) h = go (dec_lt (length rs) 12)
  where
    go : Dec (length rs < 12) → length (r ∷ rs) ≤ 12
    go (yes q) = omega arith
    go (no q) =
        let a = digits_above 32 (omega arith) (λ (x : ℕ × Event). code x.1 + 1) r rs (λ x. omega arith) in
        let b : 32 ^ 12 ≤ 32 ^ length rs = pow-le-pow_right {n = 32} (omega arith) {i = 12} {j = length rs} (omega arith) in
        let c : 32 ^ 12 ≡ 2 ^ 60 = refl in
        absurd (omega arith)

-- ---- THE TEST
module _ (p : Program) (w : WellFormed p) (v : Schedule) (a : Allowed SC (start p) v) where
  abbrev word : ℕ → ℕ
  word t = get_or (words_of p v).words t 0

  C : Held (start p) (end_of p v) (length v) (words_of p v)
  C = held p w v a

  g : Regular (end_of p v)
  g = (traces p w v (end_of p v) (refl, a)).regular

  W : Walks (start p) (end_of p v) (ways_of p v)
  W = walks_of p w v a

  -- a thread only read if its word is below 2^60, or if it has not written and is of an `02` line
  reads_small : (t : ℕ) → t < 6 → word t < 2 ^ 60 → Reads (start p) (end_of p v) C.code C.val (word t) t
  unfolding lone
  reads_small t i h = go (C.worded t i)
    where
      go : Reads (start p) (end_of p v) C.code C.val (word t) t ⊎ Lone (end_of p v) (word t) t → Reads (start p) (end_of p v) C.code C.val (word t) t
      go (inl r) = r
      go (inr l) = absurd (omega (arith, l.is, h))

  reads_quiet : (t u : ℕ) → t ≢ u → Together p t u → t < 6 → Quiet (end_of p v) t → Reads (start p) (end_of p v) C.code C.val (word t) t
  reads_quiet t u ne line i q = go (C.worded t i)
    where
      go : Reads (start p) (end_of p v) C.code C.val (word t) t ⊎ Lone (end_of p v) (word t) t → Reads (start p) (end_of p v) C.code C.val (word t) t
      go (inl r) = r
      go (inr l) = absurd (⊎_elim (λ (f : Quiet (end_of p v) t → ⊥). f q) (λ (f : 12 < (thread_of (end_of p v) t).history.done). omega (arith, f, twelve p w t u ne line v a)) l.why)

  module _ (t u : ℕ) (line : Together p t u) (ht : t < 6) (hu : u < 6) (x : Reads (start p) (end_of p v) C.code C.val (word t) t)
      (y : Reads (start p) (end_of p v) C.code C.val (word u) u) where
    abbrev begun : Local
    begun = (thread_of (start p) u).local

    stands : Led W.val begun (thread_of (end_of p v) t)
    stands = subst (λ (z : Thread). Led W.val z.local (thread_of (end_of p v) t)) (began p w t u line) (W.walks t ht x.quiet).stands

    ahead : Walk W.val begun (thread_of (end_of p v) u) (get_or (ways_of p v) u 0)
    ahead = W.walks u hu y.quiet

    abbrev Reaches : Type 0
    Reaches = Back W.val begun (end_of p v).cells (thread_of (end_of p v) t).history.reads (thread_of (end_of p v) u).history.reads

    by_reads : (comes_back 12 (words_of p v).stamps (word t) (word u) (get_or (ways_of p v) u 0) ≡ true) ↔ Reaches
    unfolding cell_of
    by_reads =
        let short : length v ≤ 24 = omega (arith, allowed_length SC lawful (start p) v a, start_24 p w) in
        let rs : List (ℕ × Event) = (thread_of (end_of p v) u).history.reads in
        let same = ap₂ (λ (m n : ℕ). comes_back 12 (words_of p v).stamps m n (get_or (ways_of p v) u 0)) x.is y.is
        ∙ ap (comes_back 12 (words_of p v).stamps (digits C.code (thread_of (end_of p v) t).history.reads) (digits C.code rs)) ahead.follows in
        let b = word_back W.val begun (end_of p v).cells (words_of p v).stamps C.code (Known (end_of p v))
        (code_below (start p) (end_of p v) (length v) (words_of p v) C short) (code_apart (start p) (end_of p v) (length v) (words_of p v) C)
        (λ l. latest_known (end_of p v) g l (cell_of (end_of p v) l).writes refl) C.stamped
        (thread_of (end_of p v) t).history.reads (thread_of (end_of p v) t).history.done x.plain (sources_known (end_of p v) g t)
        rs (thread_of (end_of p v) u).history.done y.plain ahead.trail (sources_known (end_of p v) g u) (few_reads C.code rs (let s = y.small in omega (arith, y.is, s))) in
        (λ e. b.0 (sym same ∙ e), λ k. same ∙ b.1 k)

    -- u's reads come back to t's exactly where t comes to u
    by_going : Reaches → (n : ℕ) × Comes (end_of p v).cells n (thread_of (end_of p v) t) (thread_of (end_of p v) u)
    unfolding cell_of
    by_going k =
        let c = back_comes W.val begun (end_of p v).cells W.valued (thread_of (end_of p v) t) stands x.plain (thread_of (end_of p v) u).history.reads (thread_of (end_of p v) u).history.done
        y.plain ahead.trail k in
        (c.0, subst (λ (l : Local). Comes (end_of p v).cells c.0 (thread_of (end_of p v) t) (record { local = l; history = (thread_of (end_of p v) u).history })) (sym ahead.stands) c.1)

    going_back : (n : ℕ) → Comes (end_of p v).cells n (thread_of (end_of p v) t) (thread_of (end_of p v) u) → Reaches
    unfolding cell_of
    going_back n c = subst (λ (z : Thread). Back W.val begun (end_of p v).cells (thread_of (end_of p v) t).history.reads z.history.reads) c.1
        (gone_back W.val begun (end_of p v).cells W.valued (thread_of (end_of p v) t) stands n c.0)

  -- NEARNESS BY WORDS IS NEARNESS
  pub near_by_word_lem : (t u : ℕ) → near_by_word p (words_of p v) (ways_of p v) t u ≡ near p (end_of p v) t u
  unfolding near_by_word
  near_by_word_lem t u = equal_tests (near_by_word p (words_of p v) (ways_of p v) t u) (near p (end_of p v) t u) (λ e. there (parts.0 e)) (λ e. parts.1 (back (near_true p w (end_of p v) T t u e)))
    where
      T : Traced p (end_of p v)
      T = traces p w v (end_of p v) (refl, a)

      comes : Bool
      comes = comes_back 12 (words_of p v).stamps (word t) (word u) (get_or (ways_of p v) u 0)

      parts : (near_by_word p (words_of p v) (ways_of p v) t u ≡ true)
          ↔ ((not (eqb t u) ≡ true) × (together p.groups t u ≡ true) × (ltb (word t) (2 ^ 60) ≡ true) × (ltb (word u) (2 ^ 60) ≡ true) × (comes ≡ true))
      parts = five (not (eqb t u)) (together p.groups t u) (ltb (word t) (2 ^ 60)) (ltb (word u) (2 ^ 60)) comes

      six : Together p t u → (t < 6) × (u < 6)
      six line = let m = members p w t u line in let s = w.six in (omega (arith, m.0), omega (arith, m.1))

      there : (not (eqb t u) ≡ true) × (together p.groups t u ≡ true) × (ltb (word t) (2 ^ 60) ≡ true) × (ltb (word u) (2 ^ 60) ≡ true) × (comes ≡ true) → near p (end_of p v) t u ≡ true
      there k =
          let line = together_true p t u k.1 in
          let i = six line in
          let x = reads_small t i.0 (ltb-true (word t) (2 ^ 60) k.2) in
          let y = reads_small u i.1 (ltb-true (word u) (2 ^ 60) k.3) in
          let n = by_going t u line i.0 i.1 x y ((by_reads t u line i.0 i.1 x y).0 k.4) in
          true_near p w (end_of p v) T t u (eqb-false t u (not-true (eqb t u) k.0)) line n.0 (x.quiet, y.quiet, n.1)

      back : (t ≢ u) × Together p t u × ((n : ℕ) × Near n (end_of p v) t u) →
          (not (eqb t u) ≡ true) × (together p.groups t u ≡ true) × (ltb (word t) (2 ^ 60) ≡ true) × (ltb (word u) (2 ^ 60) ≡ true) × (comes ≡ true)
      back k =
          let i = six k.1 in
          let x = reads_quiet t u k.0 k.1 i.0 k.2.1.0 in
          let y = reads_quiet u t (λ q. k.0 (sym q)) (line_sym p t u k.1) i.1 k.2.1.1 in
          let same = (by_reads t u k.1 i.0 i.1 x y).1 (going_back t u k.1 i.0 i.1 x y k.2.0 k.2.1.2) in
          (ap not (ne_eqb t u k.0), true_together p t u k.1, lt-ltb (word t) (2 ^ 60) x.small, lt-ltb (word u) (2 ^ 60) y.small, same)

  -- the sets of all threads
  near_sets_by_word_lem : near_sets_by_word p (words_of p v) (ways_of p v) ≡ near_sets p (end_of p v)
  near_sets_by_word_lem = over (range 0 6)
    where
      over : (l : List ℕ) → map (λ t. set_of (near_by_word p (words_of p v) (ways_of p v) t) 6) l ≡ map (λ t. set_of (near p (end_of p v) t) 6) l
      over [] = refl
      over (t ∷ l) = ap₂ (λ (n : ℕ) (m : List ℕ). n ∷ m) (set_same (near_by_word p (words_of p v) (ways_of p v) t) (near p (end_of p v) t) 6 (λ u h. near_by_word_lem t u)) (over l)

-- THE KEY OF A POSITION IS THE ONE CARRIED
pub carried_key_lem : (p : Program) → WellFormed p → (v : Schedule) (σ : State) → Reached SC (start p) v σ → carried_key p v σ ≡ key_of p v σ
carried_key_lem p w v σ r = ap (λ (near : List ℕ). let k : Key = record { late = late_set p v; left = left_of σ; nearness = near; values = values_of σ } in k)
    (near_sets_by_word_lem p w v r.1 ∙ ap (near_sets p) (sym r.0))
