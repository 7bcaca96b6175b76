-- R2 BY WORDS IS R2: two threads of one `02` line have the same word exactly when they stand alike, have read the same, an own source counting
-- by its number, have the same stores pending, and nothing of either is in memory.
use Prim.Native.Nat.{ℕ, zero, suc, ◌+◌, ◌*◌, ◌^◌, ◌<◌, ◌≤◌}
use mathlib.Core.Path.{◌≡◌, refl, sym, ap, ap₂, subst, ◌∙◌}
use mathlib.Core.Logic.{◌≢◌, ◌⊎◌, inl, inr, ⊎_elim}
use mathlib.Core.Bool.{Bool, true, false, cond, ◌&&◌, true≢false, false≢true}
use mathlib.Core.Option.{Option, none, some}
use mathlib.Core.List.{List, [], ◌∷◌, Memᴰ}
use native.Mathlib.Omega.{arith}
use native.Mathlib.Decide.{ℕ_discrete, dec_lt}
use lib.Dec.{eqb, ltb}
use lib.ListN.{length, get_or}
use borrow.Author.Tests.{eqb-true, eqb-false, eq-eqb, ne_eqb, ltb-true, lt-ltb, le-ltb}
use Rattle.spec_file.specs.Program.{Program, code_of}
use Rattle.spec_file.specs.WellFormed.{WellFormed, all_accesses}
use Rattle.spec_file.proofs.DigitValues.{both}
use Rattle.spec_file.proofs.Tests.{equal_tests}
use Rattle.spec_schedules.specs.Lists.{range, any}
use Rattle.spec_schedules.specs.Order.{Schedule}
use Rattle.spec_schedules.specs.System.{Allowed}
use Rattle.spec_model.specs.Exchange.{Together, together}
use Rattle.spec_model.proofs.Exchanges.{members}
use Rattle.spec_model.proofs.Permitted.{together_true}
use Rattle.spec_sc.specs.Local.{Local, place_of}
use Rattle.spec_sc.specs.State as SC
use Rattle.spec_sc.specs.State.{Event, initial_write, History}
use Rattle.spec_file.specs.Lists.{same_list}
use Rattle.theory_search.specs.Standing.{same_flag, same_local, silent}
use Rattle.spec_sc.proofs.Same.{both_and, same_nil, same_cons, same_shorter, same_longer}
use Rattle.spec_file.proofs.Lists.{same_list_lem, same_list_is}
use Rattle.spec_sc.proofs.Start as Start
use Rattle.spec_tso.specs.Queue.{Entry, newest}
use Rattle.spec_tso.specs.State.{Thread, State, idle, without_queues, thread_of, cell_of, start, TSO}
use Rattle.spec_tso.specs.Graph.{end_of}
use Rattle.spec_tso.proofs.Seen.{drained_thread}
use Rattle.spec_tso.proofs.Sourced.{From, sourced}
use Rattle.spec_tso.proofs.Values.{Values, Old}
use Rattle.theory_tso.specs.Rules.{renamed, same_source, same_entry, stands_as, twin}
use Rattle.theory_sc.specs.ThreadWords.{lone}
use Rattle.theory_sc.proofs.ThreadWords.{Paired, digits_fit, digits_paired, paired_digits}
use Rattle.theory_tso.specs.ReadWords.{sources_of, source_digit, digit, digits, word_of}
use Rattle.theory_tso.proofs.ReadWords.{Numbered, sources_length, Small, digit_positive}
use Rattle.theory_tso.proofs.Kept.{kept}
use Rattle.theory_tso.proofs.Small.{done_16, done_both, done_six, small, sources_from}
use Rattle.theory_tso.proofs.Words.{Quiet, silent_quiet, quiet_silent}
use Rattle.theory_tso.proofs.Tracks.{Track, own_value, found_from, tracked, track, own_found, other_found, led}

-- ---- sources of u and of t that count the same
abbrev Matches : ℕ → ℕ → Option Event → Option Event → Type 0
Matches u t none none = Unit {0}
Matches u t none (some f) = ⊥
Matches u t (some e) none = ⊥
Matches u t (some e) (some f) = ((e.0 ≡ u) × (f.0 ≡ t) × (e.1 ≡ f.1)) ⊎ ((e ≡ f) × (e.0 ≢ u) × (f.0 ≢ t))

abbrev Matched : ℕ → ℕ → List (Option Event) → List (Option Event) → Type 0
Matched u t = Paired (Matches u t)

-- an event that digits tell apart
abbrev Codable : Event → Type 0
Codable e = (e ≡ initial_write) ⊎ ((e.0 < 6) × (e.1 < 16))

abbrev AllCodable : List (Option Event) → Type 0
AllCodable os = (e : Event) → Memᴰ (some e) os → Codable e

own_digit : (t : ℕ) (e : Event) → e.0 ≡ t → source_digit t e ≡ e.1 + 3
unfolding source_digit
own_digit t e q = let i = eq-eqb e.0 t q in rw i

foreign_digit : (t : ℕ) (e : Event) → e.0 ≢ t → e.0 < 6 → source_digit t e ≡ e.0 * 16 + e.1 + 19
unfolding source_digit
foreign_digit t e q h = let i = ne_eqb e.0 t q in let j = lt-ltb e.0 6 h in rw (i, j)

initial_digit : (t : ℕ) (e : Event) → t < 6 → e ≡ initial_write → source_digit t e ≡ 2
unfolding source_digit initial_write
initial_digit t e h q =
    let x : e.0 ≡ 255 = ap (λ (y : Event). y.0) q in
    let i = ne_eqb e.0 t (λ z. omega (arith, x, z, h)) in
    let j = le-ltb e.0 6 (omega (arith, x)) in
    rw (i, j)

initial_not : (t : ℕ) (e : Event) → t < 6 → e ≡ initial_write → e.0 ≢ t
unfolding initial_write
initial_not t e h q z = omega (arith, h, z, ap (λ (y : Event). y.0) q)

pair : (e f : Event) → e.0 ≡ f.0 → e.1 ≡ f.1 → e ≡ f
pair e f a b = ap₂ (λ (x y : ℕ). let z : Event = (x, y) in z) a b

-- ---- the latest of suc n accesses: a read, or a store
data View (n : ℕ) (rs : List (ℕ × Event)) : Type 0 where
  read : (r : ℕ × Event) (later : List (ℕ × Event)) → rs ≡ r ∷ later → r.0 ≡ n → Numbered n later → sources_of (suc n) rs ≡ some r.1 ∷ sources_of n later → View n rs
  store : Numbered n rs → sources_of (suc n) rs ≡ none ∷ sources_of n rs → View n rs

view : (n : ℕ) (rs : List (ℕ × Event)) → Numbered (suc n) rs → View n rs
unfolding sources_of
view n [] x = store tt refl
view n (r ∷ rs) x = go (eqb r.0 n) refl
  where
    go : (b : Bool) → eqb r.0 n ≡ b → View n (r ∷ rs)
    go true q = let e = eqb-true r.0 n q in read r rs refl e (subst (λ (k : ℕ). Numbered k rs) e x.1) (rw (q, sources_of))
    go false q = let i = x.0 in let k = eqb-false r.0 n q in store (omega arith, x.1) (rw (q, sources_of))

no_reads : (rs : List (ℕ × Event)) → Numbered 0 rs → rs ≡ []
no_reads [] x = refl
no_reads (r ∷ rs) x = absurd (let i = x.0 in omega arith)

renamed_own : (u t x : ℕ) → x ≡ u → renamed u t x ≡ t
unfolding renamed
renamed_own u t x e = let i = eq-eqb x u e in rw (i, renamed)

renamed_else : (u t x : ℕ) → x ≢ u → renamed u t x ≡ x
unfolding renamed
renamed_else u t x e = let i = ne_eqb x u e in rw (i, renamed)

module _ (u t : ℕ) (hu : u < 6) (ht : t < 6) where
  -- the kinds of a source
  data Sort (x : ℕ) (e : Event) : Type 0 where
    own : e.0 ≡ x → e.1 < 16 → source_digit x e ≡ e.1 + 3 → Sort x e
    foreign : e.0 ≢ x → e.0 < 6 → e.1 < 16 → source_digit x e ≡ e.0 * 16 + e.1 + 19 → Sort x e
    first : e ≡ initial_write → source_digit x e ≡ 2 → Sort x e

  sort : (x : ℕ) → x < 6 → (e : Event) → Codable e → Sort x e
  sort x h e (inl q) = first q (initial_digit x e h q)
  sort x h e (inr q) = go (ℕ_discrete e.0 x)
    where
      go : Dec (e.0 ≡ x) → Sort x e
      go (yes i) = own i q.1 (own_digit x e i)
      go (no i) = foreign i q.0 q.1 (foreign_digit x e i q.0)

  source_matches : (e f : Event) → Codable e → Codable f → source_digit u e ≡ source_digit t f → Matches u t (some e) (some f)
  source_matches e f a b q = go (sort u hu e a) (sort t ht f b)
    where
      go : Sort u e → Sort t f → Matches u t (some e) (some f)
      go (own i j k) (own l m n) = inl (i, l, omega (arith, k, n, q))
      go (own i j k) (foreign l m o n) = absurd (omega (arith, j, k, n, q))
      go (own i j k) (first l n) = absurd (omega (arith, k, n, q))
      go (foreign i j o k) (own l m n) = absurd (omega (arith, m, k, n, q))
      go (foreign i j o k) (foreign l m r n) = inr (pair e f (omega (arith, o, r, k, n, q)) (omega (arith, o, r, k, n, q)), i, l)
      go (foreign i j o k) (first l n) = absurd (omega (arith, k, n, q))
      go (first i k) (own l m n) = absurd (omega (arith, k, n, q))
      go (first i k) (foreign l m o n) = absurd (omega (arith, k, n, q))
      go (first i k) (first l n) = inr (i ∙ sym l, initial_not u e hu i, initial_not t f ht l)

  matches_digit : (o x : Option Event) → Matches u t o x → digit u o ≡ digit t x
  unfolding digit source_digit
  matches_digit none none m = refl
  matches_digit none (some f) m = absurd m
  matches_digit (some e) none m = absurd m
  matches_digit (some e) (some f) (inl m) =
      let i = eq-eqb e.0 u m.0 in
      let j = eq-eqb f.0 t m.1 in
      rw (i, j) (ap (λ (n : ℕ). n + 3) m.2)
  matches_digit (some e) (some f) (inr m) =
      let i = ne_eqb e.0 u m.1 in
      let j = ne_eqb f.0 t m.2 in
      rw (i, j) (ap (λ (y : Event). cond (ltb y.0 6) (y.0 * 16 + y.1 + 19) 2) m.0)

  store_digit : digit u none ≡ digit t none
  unfolding digit
  store_digit = refl

  -- a store's digit is no source's
  store_apart : (x : ℕ) → x < 6 → (e : Event) → Codable e → digit x (some e) ≢ 1
  unfolding digit
  store_apart x h e a q = go (sort x h e a)
    where
      go : Sort x e → ⊥
      go (own i j k) = omega (arith, k, q)
      go (foreign i j o k) = omega (arith, k, q)
      go (first i k) = omega (arith, k, q)

  digit_matches : (o x : Option Event) → ((e : Event) → o ≡ some e → Codable e) → ((e : Event) → x ≡ some e → Codable e) → digit u o ≡ digit t x → Matches u t o x
  unfolding digit
  digit_matches none none a b q = tt
  digit_matches none (some f) a b q = absurd (store_apart t ht f (b f refl) (sym q))
  digit_matches (some e) none a b q = absurd (store_apart u hu e (a e refl) q)
  digit_matches (some e) (some f) a b q = source_matches e f (a e refl) (b f refl) q

  -- accesses whose digits make the same number match
  digits_matched : (os xs : List (Option Event)) → AllCodable os → AllCodable xs → Small u os → Small t xs → digits u os ≡ digits t xs → Matched u t os xs
  digits_matched os xs a b s r = digits_paired 128 (omega arith) (digit u) (digit t) (Matches u t) os xs (λ o m. (digit_positive u o, s o m)) (λ x m. (digit_positive t x, r x m))
      (λ o x m k. digit_matches o x (λ e z. a e (subst (λ (y : Option Event). Memᴰ y os) z m)) (λ e z. b e (subst (λ (y : Option Event). Memᴰ y xs) z k)))

  matched_digits : (os xs : List (Option Event)) → Matched u t os xs → digits u os ≡ digits t xs
  matched_digits os xs = paired_digits 128 (omega arith) (digit u) (digit t) (Matches u t) os xs matches_digit

  matched_length : (os xs : List (Option Event)) → Matched u t os xs → length os ≡ length xs
  matched_length [] [] m = refl
  matched_length [] (x ∷ xs) m = absurd m
  matched_length (o ∷ os) [] m = absurd m
  matched_length (o ∷ os) (x ∷ xs) m = ap suc (matched_length os xs m.1)

  -- lead to the same place
  matches_found : (β : Values) (q : List Entry) (l : ℕ) (o x : Option Event) → Matches u t o x → found_from β u q l o ≡ found_from β t q l x
  unfolding found_from
  matches_found β q l none none m = refl
  matches_found β q l none (some f) m = absurd m
  matches_found β q l (some e) none m = absurd m
  matches_found β q l (some e) (some f) (inl m) = own_found β u q l e m.0 ∙ sym (own_found β t q l f m.1)
  matches_found β q l (some e) (some f) (inr m) = other_found β u q l e m.1 ∙ ap (β l) m.0 ∙ sym (other_found β t q l f m.2)

  matched_track : (β : Values) (h : Local) (os xs : List (Option Event)) → Matched u t os xs → track β u h os ≡ track β t h xs
  unfolding track
  matched_track β h [] [] m = refl
  matched_track β h [] (x ∷ xs) m = absurd m
  matched_track β h (o ∷ os) [] m = absurd m
  matched_track β h (o ∷ os) (x ∷ xs) m =
      let k = track β t h xs in
      ap₂ (λ (y : Track) (n : ℕ). tracked y.local y.queue n (found_from β u y.queue (place_of y.local) o)) (matched_track β h os xs m.1) (matched_length os xs m.1)
      ∙ ap (tracked k.local k.queue (length xs)) (matches_found β k.queue (place_of k.local) o x m.0)

  -- ---- reads
  source_same : (r s : ℕ × Event) → r.0 ≡ s.0 → Matches u t (some r.1) (some s.1) → same_source u t r s ≡ true
  unfolding same_source
  source_same r s e (inl m) = both_and (eq-eqb r.0 s.0 e) (both_and (eq-eqb (renamed u t r.1.0) s.1.0 (renamed_own u t r.1.0 m.0 ∙ sym m.1)) (eq-eqb r.1.1 s.1.1 m.2))
  source_same r s e (inr m) =
      both_and (eq-eqb r.0 s.0 e)
      (both_and (eq-eqb (renamed u t r.1.0) s.1.0 (renamed_else u t r.1.0 m.1 ∙ ap (λ (y : Event). y.0) m.0)) (eq-eqb r.1.1 s.1.1 (ap (λ (y : Event). y.1) m.0)))

  same_source_lem : (r s : ℕ × Event) → r.1.0 ≢ t → same_source u t r s ≡ true → (r.0 ≡ s.0) × Matches u t (some r.1) (some s.1)
  unfolding same_source
  same_source_lem r s n q =
      let a = both (eqb r.0 s.0) _ q in
      let b = both (eqb (renamed u t r.1.0) s.1.0) _ a.1 in
      (eqb-true r.0 s.0 a.0, go (ℕ_discrete r.1.0 u) (eqb-true (renamed u t r.1.0) s.1.0 b.0) (eqb-true r.1.1 s.1.1 b.1))
    where
      go : Dec (r.1.0 ≡ u) → renamed u t r.1.0 ≡ s.1.0 → r.1.1 ≡ s.1.1 → Matches u t (some r.1) (some s.1)
      go (yes e) i j = inl (e, sym i ∙ renamed_own u t r.1.0 e, j)
      go (no e) i j = let k = sym (renamed_else u t r.1.0 e) ∙ i in inr (pair r.1 s.1 k j, e, λ z. n (k ∙ z))

  matched_reads : (n : ℕ) (rs qs : List (ℕ × Event)) → Numbered n rs → Numbered n qs → Matched u t (sources_of n rs) (sources_of n qs) → same_list (same_source u t) rs qs ≡ true
  matched_reads zero rs qs x y m = ap₂ (λ (a b : List (ℕ × Event)). same_list (same_source u t) a b) (no_reads rs x) (no_reads qs y) ∙ same_nil (same_source u t)
  matched_reads (suc n) rs qs x y m = go (view n rs x) (view n qs y) (λ a b. matched_reads n a b)
    where
      go : View n rs → View n qs → ((a b : List (ℕ × Event)) → Numbered n a → Numbered n b → Matched u t (sources_of n a) (sources_of n b) → same_list (same_source u t) a b ≡ true) → same_list (same_source u t) rs qs ≡ true
      go (read r rs' e i k f) (read s qs' e' i' k' f') ih =
          let z : Matched u t (some r.1 ∷ sources_of n rs') (some s.1 ∷ sources_of n qs') = subst (Matched u t (some r.1 ∷ sources_of n rs')) f' (subst (λ (l : List (Option Event)). Matched u t l (sources_of (suc n) qs)) f m) in
          ap₂ (λ (a b : List (ℕ × Event)). same_list (same_source u t) a b) e e' ∙ same_cons (same_source u t) r rs' s qs' ∙ both_and (source_same r s (i ∙ sym i') z.0) (ih rs' qs' k k' z.1)
      go (read r rs' e i k f) (store k' f') ih =
          let z : Matched u t (some r.1 ∷ sources_of n rs') (none ∷ sources_of n qs) = subst (Matched u t (some r.1 ∷ sources_of n rs')) f' (subst (λ (l : List (Option Event)). Matched u t l (sources_of (suc n) qs)) f m) in absurd z.0
      go (store k f) (read s qs' e' i' k' f') ih =
          let z : Matched u t (none ∷ sources_of n rs) (some s.1 ∷ sources_of n qs') = subst (Matched u t (none ∷ sources_of n rs)) f' (subst (λ (l : List (Option Event)). Matched u t l (sources_of (suc n) qs)) f m) in absurd z.0
      go (store k f) (store k' f') ih =
          let z : Matched u t (none ∷ sources_of n rs) (none ∷ sources_of n qs) = subst (Matched u t (none ∷ sources_of n rs)) f' (subst (λ (l : List (Option Event)). Matched u t l (sources_of (suc n) qs)) f m) in ih rs qs k k' z.1

  -- reads with numbers that differ are not the same
  read_store : (n : ℕ) (r : ℕ × Event) (rs qs : List (ℕ × Event)) → r.0 ≡ n → Numbered n qs → same_list (same_source u t) (r ∷ rs) qs ≡ true → ⊥
  unfolding same_source
  read_store n r rs [] i y e = true≢false (sym e ∙ same_longer (same_source u t) r rs)
  read_store n r rs (s ∷ qs) i y e =
      let a = (both (same_source u t r s) _ (sym (same_cons (same_source u t) r rs s qs) ∙ e)).0 in
      let b = eqb-true r.0 s.0 (both (eqb r.0 s.0) _ a).0 in
      let k = y.0 in
      omega arith

  store_read : (n : ℕ) (s : ℕ × Event) (rs qs : List (ℕ × Event)) → s.0 ≡ n → Numbered n rs → same_list (same_source u t) rs (s ∷ qs) ≡ true → ⊥
  unfolding same_source
  store_read n s [] qs i y e = true≢false (sym e ∙ same_shorter (same_source u t) s qs)
  store_read n s (r ∷ rs) qs i y e =
      let a = (both (same_source u t r s) _ (sym (same_cons (same_source u t) r rs s qs) ∙ e)).0 in
      let b = eqb-true r.0 s.0 (both (eqb r.0 s.0) _ a).0 in
      let k = y.0 in
      omega arith

  reads_matched : (n : ℕ) (rs qs : List (ℕ × Event)) → Numbered n rs → Numbered n qs → ((r : ℕ × Event) → Memᴰ r rs → r.1.0 ≢ t) → same_list (same_source u t) rs qs ≡ true → Matched u t (sources_of n rs) (sources_of n qs)
  unfolding sources_of
  reads_matched zero rs qs x y d m = tt
  reads_matched (suc n) rs qs x y d m = go (view n rs x) (view n qs y) (λ a b. reads_matched n a b)
    where
      go : View n rs → View n qs → ((a b : List (ℕ × Event)) → Numbered n a → Numbered n b → ((r : ℕ × Event) → Memᴰ r a → r.1.0 ≢ t) → same_list (same_source u t) a b ≡ true → Matched u t (sources_of n a) (sources_of n b)) → Matched u t (sources_of (suc n) rs) (sources_of (suc n) qs)
      go (read r rs' e i k f) (read s qs' e' i' k' f') ih =
          let z = both (same_source u t r s) _ (sym (ap₂ (λ (a b : List (ℕ × Event)). same_list (same_source u t) a b) e e' ∙ same_cons (same_source u t) r rs' s qs') ∙ m) in
          let here : Memᴰ r rs = subst (Memᴰ r) (sym e) (mathlib.Core.List.Memᴰ.head refl) in
          subst (λ (l : List (Option Event)). Matched u t l (sources_of (suc n) qs)) (sym f) (subst (Matched u t (some r.1 ∷ sources_of n rs')) (sym f')
          ((same_source_lem r s (d r here) z.0).1, ih rs' qs' k k' (λ x j. d x (subst (Memᴰ x) (sym e) (mathlib.Core.List.Memᴰ.tail j))) z.1))
      go (read r rs' e i k f) (store k' f') ih = absurd (read_store n r rs' qs i k' (ap (λ (a : List (ℕ × Event)). same_list (same_source u t) a qs) (sym e) ∙ m))
      go (store k f) (read s qs' e' i' k' f') ih = absurd (store_read n s rs qs' i' k (ap (λ (a : List (ℕ × Event)). same_list (same_source u t) rs a) (sym e') ∙ m))
      go (store k f) (store k' f') ih =
          subst (λ (l : List (Option Event)). Matched u t l (sources_of (suc n) qs)) (sym f) (subst (Matched u t (none ∷ sources_of n rs)) (sym f') (tt, ih rs qs k k' d m))

-- ---- the tests pass for what is the same
flag_same : (b : Bool) → same_flag b b ≡ true
unfolding same_flag
flag_same true = refl
flag_same false = refl

local_same : (h k : Local) → h ≡ k → same_local h k ≡ true
unfolding same_local
local_same h k e = subst (λ (x : Local). same_local h x ≡ true) e
    (both_and (eq-eqb (length h.rest) (length h.rest) refl) (both_and (same_list_lem eqb (λ x. eq-eqb x x refl) h.registers) (flag_same h.failed)))

entry_same : (x : Entry) → same_entry x x ≡ true
unfolding same_entry
entry_same x = both_and (eq-eqb x.number x.number refl) (both_and (eq-eqb x.location x.location refl) (eq-eqb x.value x.value refl))

queue_same : (q r : List Entry) → q ≡ r → same_list same_entry q r ≡ true
queue_same q r e = subst (λ (x : List Entry). same_list same_entry q x ≡ true) e (same_list_lem same_entry entry_same q)

-- ---- THE TEST
module _ (p : Program) (w : WellFormed p) (few : all_accesses p.threads ≤ 16) (v : Schedule) (a : Allowed TSO (start p) v) (u t : ℕ) (ne : u ≢ t) (hu : u < 6) (ht : t < 6) where
  abbrev σ : State
  σ = end_of p v

  abbrev hist : ℕ → History
  hist x = (thread_of (end_of p v) x).history

  abbrev sources : ℕ → List (Option Event)
  sources x = sources_of (thread_of (end_of p v) x).history.done (thread_of (end_of p v) x).history.reads

  codable : (x : ℕ) → x < 6 → AllCodable (sources_of (thread_of (end_of p v) x).history.done (thread_of (end_of p v) x).history.reads)
  codable x h e m = go (sources_from (hist x).done (hist x).reads (some e) m)
    where
      known : Old (end_of p v) e → Codable e
      known (inl q) = inl q
      known (inr q) = inr (done_six p w few v a e.0 (omega (arith, q)), omega (arith, q, done_16 p w few v a e.0))

      go : (some e ≡ none) ⊎ ((r : ℕ × Event) × Memᴰ r (thread_of (end_of p v) x).history.reads × (some e ≡ some r.1)) → Codable e
      go (inl q) = absurd (let z : ◌≡◌ {A = ℕ} 0 1 = cc in omega arith)
      go (inr k) = let q : e ≡ k.0.1 = (let z = k.2 in cc) in known (subst (Old (end_of p v)) (sym q) ((kept p w v a).known x k.0 k.1))

  digits_few : (x : ℕ) → x < 6 → ltb (thread_of (end_of p v) x).history.done 9 ≡ true → digits x (sources_of (thread_of (end_of p v) x).history.done (thread_of (end_of p v) x).history.reads) < 2 ^ 56
  digits_few x h q =
      let l = sources_length (hist x).done (hist x).reads in
      let k = ltb-true (hist x).done 9 q in
      let c : 128 ^ 8 ≡ 2 ^ 56 = refl in
      omega (arith, c, digits_fit 128 (omega arith) (digit x) (sources x) 8 (omega arith) (small p w few v a x h))

  -- what a word says
  data Word (x : ℕ) : Type 0 where
    plain : silent (without_queues (end_of p v)) x ≡ true → word_of (end_of p v) x ≡ digits x (sources_of (thread_of (end_of p v) x).history.done (thread_of (end_of p v) x).history.reads) → word_of (end_of p v) x < 2 ^ 56 → Word x
    alone : word_of (end_of p v) x ≡ 2 ^ 60 + x → Word x

  word_of_lem : (x : ℕ) → x < 6 → Word x
  unfolding word_of lone
  word_of_lem x h = go (silent (without_queues σ) x) refl (ltb (hist x).done 9) refl
    where
      go : (s : Bool) → silent (without_queues (end_of p v)) x ≡ s → (n : Bool) → ltb (thread_of (end_of p v) x).history.done 9 ≡ n → Word x
      go true e true f = let z : word_of (end_of p v) x ≡ digits x (sources x) = rw (e, f) in plain e z (omega (arith, z, digits_few x h f))
      go true e false f = alone (rw (e, f))
      go false e n f = alone (rw e)

  began : Together p u t → (thread_of (start p) u).local ≡ (thread_of (start p) t).local
  unfolding start idle
  began line =
      let k = members p w u t line in
      ap (λ (h : Thread). h.local) (drained_thread (SC.start p) u ∙ ap idle (Start.start_thread p u k.0 ∙ ap SC.opened k.2 ∙ sym (Start.start_thread p t k.1)) ∙ sym (drained_thread (SC.start p) t))

  -- threads with the same word stand alike
  alike : Together p u t → silent (without_queues (end_of p v)) u ≡ true → silent (without_queues (end_of p v)) t ≡ true → digits u (sources_of (thread_of (end_of p v) u).history.done (thread_of (end_of p v) u).history.reads)
      ≡ digits t (sources_of (thread_of (end_of p v) t).history.done (thread_of (end_of p v) t).history.reads) → stands_as u t (thread_of (end_of p v) u) (thread_of (end_of p v) t) ≡ true
  unfolding stands_as
  alike line su st e =
      let m = digits_matched u t hu ht (sources u) (sources t) (codable u hu) (codable t ht) (small p w few v a u hu) (small p w few v a t ht) e in
      let d : (hist u).done ≡ (hist t).done = sym (sources_length (hist u).done (hist u).reads) ∙ matched_length u t hu ht (sources u) (sources t) m ∙ sources_length (hist t).done (hist t).reads in
      let L = led p w v a in
      let lu = L.1 u hu (silent_quiet σ u su) in
      let lt = L.1 t ht (silent_quiet σ t st) in
      let k : track L.0 u (thread_of (start p) u).local (sources u) ≡ track L.0 t (thread_of (start p) t).local (sources t) =
      ap (λ (h : Local). track L.0 u h (sources u)) (began line) ∙ matched_track u t hu ht L.0 (thread_of (start p) t).local (sources u) (sources t) m in
      both_and (local_same (thread_of σ u).local (thread_of σ t).local (lu.0 ∙ ap (λ (x : Track). x.local) k ∙ sym lt.0))
      (both_and (eq-eqb (hist u).done (hist t).done d)
      (both_and (matched_reads u t hu ht (hist u).done (hist u).reads (hist t).reads ((kept p w v a).numbered u) (subst (λ (n : ℕ). Numbered n (hist t).reads) (sym d) ((kept p w v a).numbered t))
      (subst (λ (n : ℕ). Matched u t (sources u) (sources_of n (hist t).reads)) (sym d) m))
      (queue_same (thread_of σ u).queue (thread_of σ t).queue (lu.1 ∙ ap (λ (x : Track). x.queue) k ∙ sym lt.1))))

  -- what u read is not t's
  not_theirs : Quiet (end_of p v) t → (r : ℕ × Event) → Memᴰ r (thread_of (end_of p v) u).history.reads → r.1.0 ≢ t
  unfolding initial_write
  not_theirs q r m i = go (sourced p w v a u r m)
    where
      go : From (end_of p v) u r.1 → ⊥
      go (inl e) = ne (sym e ∙ i)
      go (inr (inl e)) = omega (arith, ht, i, ap (λ (y : Event). y.0) e)
      go (inr (inr k)) = q k.0 r.1 k.1 i

  -- threads that stand alike have equal words
  same_word : silent (without_queues (end_of p v)) u ≡ true → silent (without_queues (end_of p v)) t ≡ true → (thread_of (end_of p v) u).history.done ≡ (thread_of (end_of p v) t).history.done →
      same_list (same_source u t) (thread_of (end_of p v) u).history.reads (thread_of (end_of p v) t).history.reads ≡ true → word_of (end_of p v) u ≡ word_of (end_of p v) t
  unfolding word_of
  same_word su st d e =
      let b = done_both p w few v a u t ne in
      let fu = lt-ltb (hist u).done 9 (omega (arith, b, d)) in
      let ft = lt-ltb (hist t).done 9 (omega (arith, b, d)) in
      let m = reads_matched u t hu ht (hist u).done (hist u).reads (hist t).reads ((kept p w v a).numbered u) (subst (λ (n : ℕ). Numbered n (hist t).reads) (sym d) ((kept p w v a).numbered t)) (not_theirs (silent_quiet σ t st)) e in
      rw (su, st, fu, ft) (matched_digits u t hu ht (sources u) (sources t) (subst (λ (n : ℕ). Matched u t (sources u) (sources_of n (hist t).reads)) d m))

  pub twin_by_word_lem : (together p.groups u t && eqb (word_of (end_of p v) u) (word_of (end_of p v) t)) ≡ twin p (end_of p v) t u
  unfolding twin stands_as
  twin_by_word_lem = equal_tests _ _ there back
    where
      there : (together p.groups u t && eqb (word_of (end_of p v) u) (word_of (end_of p v) t)) ≡ true → twin p (end_of p v) t u ≡ true
      there e =
          let x = both (together p.groups u t) _ e in
          let q = eqb-true (word_of σ u) (word_of σ t) x.1 in
          go (word_of_lem u hu) (word_of_lem t ht) x.0 q
        where
          go : Word u → Word t → together p.groups u t ≡ true → word_of (end_of p v) u ≡ word_of (end_of p v) t → twin p (end_of p v) t u ≡ true
          go (plain s i k) (plain s' i' k') l q = both_and l (both_and (alike (together_true p u t l) s s' (sym i ∙ q ∙ i')) (both_and s s'))
          go (plain s i k) (alone i') l q = absurd (omega (arith, k, i', q))
          go (alone i) (plain s i' k') l q = absurd (omega (arith, k', i, q))
          go (alone i) (alone i') l q = absurd (ne (omega (arith, i, i', q)))

      back : twin p (end_of p v) t u ≡ true → (together p.groups u t && eqb (word_of (end_of p v) u) (word_of (end_of p v) t)) ≡ true
      back e =
          let x = both (together p.groups u t) _ e in
          let y = both (stands_as u t (thread_of σ u) (thread_of σ t)) _ x.1 in
          let s = both (silent (without_queues σ) u) _ y.1 in
          let l = both (same_local (thread_of σ u).local (thread_of σ t).local) _ y.0 in
          let d = both (eqb (hist u).done (hist t).done) _ l.1 in
          let r = both (same_list (same_source u t) (hist u).reads (hist t).reads) _ d.1 in
          both_and x.0 (eq-eqb (word_of σ u) (word_of σ t) (same_word s.0 s.1 (eqb-true (hist u).done (hist t).done d.0) r.0))
