-- What words and stamps are along a run: each event has a number, its step's; a location's stamp is its latest write's, and a thread that only
-- read has its sources' numbers as digits, and stands where they lead it. Any other thread has a word of its own, and can have no twin.
use Prim.Native.Nat.{ℕ, zero, suc, ◌+◌, ◌*◌, ◌^◌, ◌<◌, ◌≤◌}
use mathlib.Core.Path.{◌≡◌, refl, sym, ap, ap₂, subst, ◌∙◌}
use mathlib.Core.Logic.{◌≢◌, ◌⊎◌, inl, inr, ⊎_elim}
use mathlib.Core.Bool.{Bool, true, false}
use mathlib.Core.List.Memᴰ
use mathlib.Core.List.{List, [], ◌∷◌, Memᴰ}
use native.Mathlib.Omega.{arith}
use native.Mathlib.Decide.{ℕ_discrete, dec_lt}
use lib.Dec.{ltb}
use lib.ListN.{length, length-set, get_or, set}
use lib.Seq.{get_or-set_same, get_or-set_other}
use borrow.Author.Tests.{ltb-true, ltb-false}
use Rattle.spec_file.specs.Program.{Program}
use Rattle.spec_file.specs.WellFormed.{WellFormed}
use Rattle.spec_schedules.specs.Order.{Schedule}
use Rattle.spec_schedules.specs.System.{run, Allowed}
use Rattle.spec_sc.specs.Local.{Local, place_of, takes, next}
use Rattle.spec_sc.specs.State.{Event, initial_write, History, Thread, Cell, State, fresh_cell, thread_of, cell_of, place, latest, noted, advanced, step, enabled, start, SC}
use Rattle.spec_sc.specs.Actions.{writes}
use Rattle.spec_sc.proofs.Steps.{enabled_small, enabled_range, thread_own, thread_other, cell_other}
use Rattle.spec_sc.proofs.Change.{done_own, done_grows, writes_stay, Change, kept, wrote}
use Rattle.spec_sc.proofs.Start.{start_writes, start_history}
use Rattle.spec_sc.proofs.Regular.{Regular, Written, place_in, changes, regular_step}
use Rattle.spec_sc.proofs.Histories.{upcoming, Done, upcoming_undone, done_cases}
use Rattle.spec_sc.proofs.Swap.{still_cells}
use Rattle.spec_sc.proofs.Trails.{writes_own, still_takes}
use Rattle.theory_sc.specs.ThreadWords as ThreadWords
use Rattle.theory_sc.specs.ThreadWords.{lone}
use Rattle.theory_sc.specs.ReadWords.{Words, word_behind, stamps_behind, words_behind, words_after, no_words}
use Rattle.theory_sc.proofs.Counting.{latest_front}
use Rattle.theory_sc.proofs.GoesFirst.{Quiet}
use Rattle.theory_sc.proofs.Digits.{numbered, numbered_at, numbered_else, digits, Plain, plain_length, Sources, digits_same, led, led_same}
use Rattle.theory_sc.proofs.ThreadWords.{digits_fit}

-- since ρ the thread only read; its word has its sources, and they led it where it stands
pub record Reads (ρ σ : State) (code : Event → ℕ) (val : ℕ → Event → ℕ) (word t : ℕ) : Type 0 where
  pub quiet : Quiet σ t
  pub plain : Plain (thread_of σ t).history.reads (thread_of σ t).history.done
  pub is : word ≡ digits code (thread_of σ t).history.reads
  pub small : word < 2 ^ 60
  pub local : (thread_of σ t).local ≡ led val (thread_of ρ t).local (thread_of σ t).history.reads

-- the thread wrote, or did more accesses than two threads can
pub record Lone (σ : State) (word t : ℕ) : Type 0 where
  pub is : word ≡ lone t
  pub why : (Quiet σ t → ⊥) ⊎ (12 < (thread_of σ t).history.done)

-- events have numbers and values, stamps are those of the latest writes, and each thread only read or has a word of its own
pub record Held (ρ σ : State) (n : ℕ) (m : Words) : Type 0 where
  pub code : Event → ℕ
  pub code_initial : code initial_write ≡ 0
  pub code_done : (e : Event) → Done σ e → (0 < code e) × (code e ≤ n)
  pub code_once : (d e : Event) → Done σ d → Done σ e → code d ≡ code e → d ≡ e
  pub val : ℕ → Event → ℕ
  pub valued : (l : ℕ) → (cell_of σ l).value ≡ val l (latest (cell_of σ l).writes)
  pub eight : length m.stamps ≡ 8
  pub six : length m.words ≡ 6
  pub stamped : (l : ℕ) → l < 8 → get_or m.stamps l 0 ≡ code (latest (cell_of σ l).writes)
  pub worded : (t : ℕ) → t < 6 → Reads ρ σ code val (get_or m.words t 0) t ⊎ Lone σ (get_or m.words t 0) t

-- an event that has a number
abbrev pub Known : State → Event → Type 0
Known σ e = (e ≡ initial_write) ⊎ Done σ e

pub latest_known : (σ : State) → Regular σ → (l : ℕ) (ws : List Event) → (cell_of σ l).writes ≡ ws → Known σ (latest ws)
unfolding latest
latest_known σ g l [] q = inl refl
latest_known σ g l (x ∷ ws) q = inr (g.old l x (subst (Memᴰ x) (sym q) (Memᴰ.head refl)))

pub sources_known : (σ : State) → Regular σ → (t : ℕ) → Sources (Known σ) (thread_of σ t).history.reads
sources_known σ g t r m = ⊎_elim (λ (q : r.1 ≡ initial_write). inl q) (λ (w : Written σ r.1). inr (g.old w.0 r.1 w.1)) (g.sourced t r m)

pub known_new : (σ : State) (t : ℕ) → t < 6 → (e : Event) → Known σ e → e ≢ upcoming σ t
unfolding initial_write
known_new σ t h e (inl q) k = let i : 255 ≡ t = ap (λ (x : Event). x.0) (sym q ∙ k) in omega arith
known_new σ t h e (inr d) k = upcoming_undone σ t (subst (Done σ) k d)

pub code_below : (ρ σ : State) (n : ℕ) (m : Words) (C : Held ρ σ n m) → n ≤ 24 → (e : Event) → Known σ e → C.code e < 31
code_below ρ σ n m C h e (inl q) = omega (arith, ap C.code q, C.code_initial)
code_below ρ σ n m C h e (inr d) = omega (arith, h, (C.code_done e d).1)

pub code_apart : (ρ σ : State) (n : ℕ) (m : Words) (C : Held ρ σ n m) → (d e : Event) → Known σ d → Known σ e → C.code d ≡ C.code e → d ≡ e
code_apart ρ σ n m C d e (inl a) (inl b) q = a ∙ sym b
code_apart ρ σ n m C d e (inl a) (inr b) q = absurd (omega (arith, q, ap C.code a, C.code_initial, (C.code_done e b).0))
code_apart ρ σ n m C d e (inr a) (inl b) q = absurd (omega (arith, q, ap C.code b, C.code_initial, (C.code_done d a).0))
code_apart ρ σ n m C d e (inr a) (inr b) q = C.code_once d e a b q

-- ---- one step
stamps_length : (s : List ℕ) (l n : ℕ) (b : Bool) → length (stamps_behind s l n b) ≡ length s
unfolding stamps_behind
stamps_length s l n true = length-set s l n
stamps_length s l n false = refl

module _ (ρ σ : State) (n : ℕ) (m : Words) (C : Held ρ σ n m) (g : Regular σ) (t : ℕ) (ok : enabled σ t ≡ true) (h : n < 24) where
  abbrev τ : State
  τ = step σ t

  small : t < 6
  small = enabled_small σ t ok

  in_range_lem : t < length σ.threads
  in_range_lem = enabled_range σ t ok

  unfoldable code' : Event → ℕ
  code' = numbered C.code (upcoming σ t) (n + 1)

  new_code : (e : Event) → e ≡ upcoming σ t → code' e ≡ n + 1
  unfolding code'
  new_code e q = numbered_at C.code (upcoming σ t) (n + 1) e q

  old_code : (e : Event) → Known σ e → code' e ≡ C.code e
  unfolding code'
  old_code e k = numbered_else C.code (upcoming σ t) (n + 1) e (known_new σ t small e k)

  -- what a read finds
  unfoldable val' : ℕ → Event → ℕ
  val' l = numbered (C.val l) (upcoming σ t) (cell_of τ l).value

  new_val : (l : ℕ) (e : Event) → e ≡ upcoming σ t → val' l e ≡ (cell_of τ l).value
  unfolding val'
  new_val l e q = numbered_at (C.val l) (upcoming σ t) (cell_of τ l).value e q

  old_val : (e : Event) → Known σ e → (l : ℕ) → val' l e ≡ C.val l e
  unfolding val'
  old_val e k l = numbered_else (C.val l) (upcoming σ t) (cell_of τ l).value e (known_new σ t small e k)

  valued' : (l : ℕ) → (cell_of τ l).value ≡ val' l (latest (cell_of τ l).writes)
  valued' l = go (changes σ g t l)
    where
      go : Change σ t l → (cell_of τ l).value ≡ val' l (latest (cell_of τ l).writes)
      go (kept q) =
          ap (λ (c : Cell). c.value) q ∙ C.valued l ∙ sym (old_val (latest (cell_of σ l).writes) (latest_known σ g l (cell_of σ l).writes refl) l)
          ∙ ap (λ (c : Cell). val' l (latest c.writes)) (sym q)
      go (wrote q v o y z) = sym (new_val l (latest (cell_of τ l).writes) (ap latest y ∙ latest_front (upcoming σ t) (cell_of σ l).writes))

  code_done' : (e : Event) → Done τ e → (0 < code' e) × (code' e ≤ n + 1)
  code_done' e d = go (done_cases σ t ok e d)
    where
      go : Done σ e ⊎ (e ≡ upcoming σ t) → (0 < code' e) × (code' e ≤ n + 1)
      go (inl k) = let c = C.code_done e k in let q = old_code e (inr k) in (omega (arith, q, c.0), omega (arith, q, c.1))
      go (inr q) = let c = new_code e q in (omega arith, omega arith)

  code_once' : (d e : Event) → Done τ d → Done τ e → code' d ≡ code' e → d ≡ e
  code_once' d e a b q = go (done_cases σ t ok d a) (done_cases σ t ok e b)
    where
      go : Done σ d ⊎ (d ≡ upcoming σ t) → Done σ e ⊎ (e ≡ upcoming σ t) → d ≡ e
      go (inl x) (inl y) = C.code_once d e x y (sym (old_code d (inr x)) ∙ q ∙ old_code e (inr y))
      go (inl x) (inr y) = absurd (omega (arith, q, old_code d (inr x), new_code e y, (C.code_done d x).1))
      go (inr x) (inl y) = absurd (omega (arith, q, old_code e (inr y), new_code d x, (C.code_done e y).1))
      go (inr x) (inr y) = x ∙ sym y

  -- the stamps
  old_cell : (l : ℕ) → cell_of τ l ≡ cell_of σ l → get_or m.stamps l 0 ≡ C.code (latest (cell_of σ l).writes) → get_or m.stamps l 0 ≡ code' (latest (cell_of τ l).writes)
  old_cell l q e = e ∙ sym (old_code (latest (cell_of σ l).writes) (latest_known σ g l (cell_of σ l).writes refl)) ∙ ap (λ (c : Cell). code' (latest c.writes)) (sym q)

  stamped' : (b : Bool) → writes σ t ≡ b → (l : ℕ) → l < 8 → get_or (stamps_behind m.stamps (place σ t) (n + 1) b) l 0 ≡ code' (latest (cell_of τ l).writes)
  unfolding stamps_behind cell_of
  stamped' false e l i = old_cell l (ap (λ (cs : List Cell). get_or cs l (fresh_cell 0)) (still_cells σ t e)) (C.stamped l i)
  stamped' true e l i = go (ℕ_discrete l (place σ t))
    where
      go : Dec (l ≡ place σ t) → get_or (set m.stamps (place σ t) (n + 1)) l 0 ≡ code' (latest (cell_of τ l).writes)
      go (no q) = get_or-set_other m.stamps (place σ t) l (n + 1) 0 q ∙ old_cell l (cell_other σ t l q) (C.stamped l i)
      go (yes q) =
          ap (λ (k : ℕ). get_or (set m.stamps (place σ t) (n + 1)) k 0) q ∙ get_or-set_same m.stamps (place σ t) (n + 1) 0 (omega (arith, q, i, C.eight))
          ∙ sym (new_code (latest (cell_of τ l).writes) (ap latest (writes_own σ g t l q e) ∙ latest_front (upcoming σ t) (cell_of σ l).writes))

  -- the word of a thread that waits
  quiet_on : (u : ℕ) → u ≢ t → Quiet σ u → Quiet τ u
  quiet_on u ne k l j x = go (changes σ g t l)
    where
      go : Change σ t l → ⊥
      go (kept q) = k l j (subst (λ (c : Cell). Memᴰ (u, j) c.writes) q x)
      go (wrote q v o y z) = ⊎_elim (λ (i : (u, j) ≡ upcoming σ t). ne (ap (λ (e : Event). e.0) i)) (λ (i : Memᴰ (u, j) (cell_of σ l).writes). k l j i) (Memᴰ.cases_cons (subst (Memᴰ (u, j)) y x))

  quiet_back : (u : ℕ) → Quiet τ u → Quiet σ u
  quiet_back u k l j x = k l j (writes_stay σ t l (u, j) (place_in σ g t) x)

  lone_on : (u word : ℕ) → Lone σ word u → Lone τ word u
  lone_on u word k = record { is = k.is; why = ⊎_elim (λ (q : Quiet σ u → ⊥). inl (λ x. q (quiet_back u x))) (λ (d : 12 < (thread_of σ u).history.done). inr (omega (arith, d, done_grows σ t in_range_lem u))) k.why }

  waits : (u word : ℕ) → u ≢ t → Reads ρ σ C.code C.val word u ⊎ Lone σ word u → Reads ρ τ code' val' word u ⊎ Lone τ word u
  waits u word ne (inr k) = inr (lone_on u word k)
  waits u word ne (inl k) =
      let e = thread_other σ t u ne in
      inl (record {
        quiet = quiet_on u ne k.quiet;
        plain = subst (λ (x : Thread). Plain x.history.reads x.history.done) (sym e) k.plain;
        is = k.is ∙ sym (digits_same C.code code' (thread_of σ u).history.reads (λ r i. old_code r.1 (sources_known σ g u r i))) ∙ ap (λ (x : Thread). digits code' x.history.reads) (sym e);
        small = k.small;
        local = ap (λ (x : Thread). x.local) e ∙ k.local ∙ sym (led_same C.val val' (thread_of ρ u).local (thread_of σ u).history.reads (λ r i. old_val r.1 (sources_known σ g u r i))) ∙ ap (λ (x : Thread). led val' (thread_of ρ u).local x.history.reads) (sym e);
      })

  -- the word of the thread that steps
  abbrev stamp : ℕ
  stamp = get_or m.stamps (place σ t) 0

  abbrev source : Event
  source = latest (cell_of σ (place σ t)).writes

  read_history : takes (thread_of σ t).local ≡ true → (thread_of τ t).history ≡ record { done = suc (thread_of σ t).history.done; reads = ((thread_of σ t).history.done, source) ∷ (thread_of σ t).history.reads }
  unfolding advanced noted
  read_history e = ap (λ (x : Thread). x.history) (thread_own σ t in_range_lem) ∙ rw e

  read_local : (thread_of τ t).local ≡ next (thread_of σ t).local (cell_of σ (place σ t)).value
  unfolding advanced
  read_local = ap (λ (x : Thread). x.local) (thread_own σ t in_range_lem)

  source_known : Known σ source
  source_known = latest_known σ g (place σ t) (cell_of σ (place σ t)).writes refl

  led_on : (h : Local) (rs : List (ℕ × Event)) (i : ℕ) → Sources (Known σ) rs → (thread_of σ t).local ≡ led C.val h rs → (thread_of τ t).local ≡ led val' h ((i, source) ∷ rs)
  unfolding led place
  led_on h rs i k e =
      let same : (thread_of σ t).local ≡ led val' h rs = e ∙ sym (led_same C.val val' h rs (λ r j. old_val r.1 (k r j))) in
      read_local ∙ ap (next (thread_of σ t).local) (C.valued (place σ t) ∙ sym (old_val source source_known (place σ t))) ∙ ap (λ (x : Local). next x (val' (place_of x) source)) same

  full_word : (word : ℕ) → Reads ρ σ C.code C.val word t → 2 ^ 55 ≤ word → 12 ≤ (thread_of σ t).history.done
  full_word word k b = go (dec_lt (thread_of σ t).history.done 12)
    where
      go : Dec ((thread_of σ t).history.done < 12) → 12 ≤ (thread_of σ t).history.done
      go (no q) = omega arith
      go (yes q) =
          let below = digits_fit 32 (omega arith) (λ (r : ℕ × Event). C.code r.1 + 1) (thread_of σ t).history.reads 11 (omega (arith, plain_length (thread_of σ t).history.reads (thread_of σ t).history.done k.plain))
          (λ r i. let l = code_below ρ σ n m C (omega (arith, h)) r.1 (sources_known σ g t r i) in omega arith) in
          let c : 32 ^ 11 ≡ 2 ^ 55 = refl in
          absurd (omega (arith, c, below, b, k.is))

  steps : (word : ℕ) (b : Bool) → writes σ t ≡ b → Reads ρ σ C.code C.val word t ⊎ Lone σ word t → Reads ρ τ code' val' (word_behind t word stamp b) t ⊎ Lone τ (word_behind t word stamp b) t
  unfolding ThreadWords.word_behind lone cell_of ThreadWords.digits
  steps word true e k = inr (record { is = refl; why = inl (λ q. q (place σ t) (thread_of σ t).history.done (subst (Memᴰ (upcoming σ t)) (sym (writes_own σ g t (place σ t) refl e)) (Memᴰ.head refl))) })
  steps word false e k = go k (ltb word (2 ^ 55)) refl
    where
      lones : ltb word (2 ^ 55) ≡ false → ((Quiet τ t → ⊥) ⊎ (12 < (thread_of τ t).history.done)) → Reads ρ τ code' val' (word_behind t word stamp false) t ⊎ Lone τ (word_behind t word stamp false) t
      lones q y = inr (record { is = rw q; why = y })

      go : Reads ρ σ C.code C.val word t ⊎ Lone σ word t → (b : Bool) → ltb word (2 ^ 55) ≡ b → Reads ρ τ code' val' (word_behind t word stamp false) t ⊎ Lone τ (word_behind t word stamp false) t
      go (inl r) false q = lones q (inr (omega (arith, full_word word r (ltb-false word (2 ^ 55) q), done_own σ t in_range_lem)))
      go (inr l) false q = lones q (lone_on t word l).why
      go (inr l) true q = absurd (omega (arith, ltb-true word (2 ^ 55) q, l.is))
      go (inl r) true q =
          let hist = read_history (still_takes σ t ok e) in
          let place8 : place σ t < 8 = omega (arith, place_in σ g t, g.eight) in
          let from : stamp ≡ code' source = C.stamped (place σ t) place8 ∙ sym (old_code source (latest_known σ g (place σ t) (cell_of σ (place σ t)).writes refl)) in
          let below : stamp < 31 = omega (arith, C.stamped (place σ t) place8, code_below ρ σ n m C (omega (arith, h)) source (latest_known σ g (place σ t) (cell_of σ (place σ t)).writes refl)) in
          let w : word_behind t word stamp false ≡ word * 32 + (stamp + 1) = rw q in
          inl (record {
            quiet = λ l j x. r.quiet l j (subst (λ (cs : List Cell). Memᴰ (t, j) (get_or cs l (fresh_cell 0)).writes) (still_cells σ t e) x);
            plain = subst (λ (x : History). Plain x.reads x.done) (sym hist) (refl, r.plain);
            is = w ∙ ap₂ (λ (a b : ℕ). a * 32 + (b + 1)) (r.is ∙ sym (digits_same C.code code' (thread_of σ t).history.reads (λ x i. old_code x.1 (sources_known σ g t x i)))) from ∙ ap (λ (x : History). digits code' x.reads) (sym hist);
            small = omega (arith, w, below, ltb-true word (2 ^ 55) q);
            local = led_on (thread_of ρ t).local (thread_of σ t).history.reads (thread_of σ t).history.done (sources_known σ g t) r.local ∙ ap (λ (x : History). led val' (thread_of ρ t).local x.reads) (sym hist);
          })

  held_step : Held ρ (step σ t) (n + 1) (words_behind σ (n + 1) m t)
  unfolding words_behind
  held_step = record {
    code = code';
    code_initial = old_code initial_write (inl refl) ∙ C.code_initial;
    code_done = code_done';
    code_once = code_once';
    val = val';
    valued = valued';
    eight = stamps_length m.stamps (place σ t) (n + 1) (writes σ t) ∙ C.eight;
    six = length-set m.words t _ ∙ C.six;
    stamped = stamped' (writes σ t) refl;
    worded = λ u i. go u i (ℕ_discrete u t);
  }
    where
      go : (u : ℕ) → u < 6 → Dec (u ≡ t) → Reads ρ τ code' val' (get_or (set m.words t (word_behind t (get_or m.words t 0) stamp (writes σ t))) u 0) u ⊎ Lone τ (get_or (set m.words t (word_behind t (get_or m.words t 0) stamp (writes σ t))) u 0) u
      go u i (no q) = subst (λ (x : ℕ). Reads ρ τ code' val' x u ⊎ Lone τ x u) (sym (get_or-set_other m.words t u (word_behind t (get_or m.words t 0) stamp (writes σ t)) 0 q)) (waits u (get_or m.words u 0) q (C.worded u i))
      go u i (yes q) = subst (λ (k : ℕ). Reads ρ τ code' val' (get_or (set m.words t (word_behind t (get_or m.words t 0) stamp (writes σ t))) k 0) k ⊎ Lone τ (get_or (set m.words t (word_behind t (get_or m.words t 0) stamp (writes σ t))) k 0) k) (sym q)
          (subst (λ (x : ℕ). Reads ρ τ code' val' x t ⊎ Lone τ x t) (sym (get_or-set_same m.words t (word_behind t (get_or m.words t 0) stamp (writes σ t)) 0 (omega (arith, small, C.six)))) (steps (get_or m.words t 0) (writes σ t) refl (C.worded t small)))

-- ---- along a run
pub held_run : (v : Schedule) (ρ σ : State) (n : ℕ) (m : Words) → Held ρ σ n m → Regular σ → Allowed SC σ v → n + length v ≤ 24 → Held ρ (run SC σ v) (n + length v) (words_after σ n m v)
unfolding run words_after
held_run [] ρ σ n m C g a h = subst (λ (k : ℕ). Held ρ σ k m) (omega arith) C
held_run (t ∷ v) ρ σ n m C g a h =
    subst (λ (k : ℕ). Held ρ (run SC (step σ t) v) k (words_after (step σ t) (n + 1) (words_behind σ (n + 1) m t) v)) (omega arith)
    (held_run v ρ (step σ t) (n + 1) (words_behind σ (n + 1) m t) (held_step ρ σ n m C g t a.0 (omega arith)) (regular_step σ t g a.0) a.1 (omega arith))

zeros : (l : ℕ) → (get_or no_words.stamps l 0 ≡ 0) × (get_or no_words.words l 0 ≡ 0)
unfolding no_words
zeros zero = (refl, refl)
zeros (suc zero) = (refl, refl)
zeros (suc (suc zero)) = (refl, refl)
zeros (suc (suc (suc zero))) = (refl, refl)
zeros (suc (suc (suc (suc zero)))) = (refl, refl)
zeros (suc (suc (suc (suc (suc zero))))) = (refl, refl)
zeros (suc (suc (suc (suc (suc (suc zero)))))) = (refl, refl)
zeros (suc (suc (suc (suc (suc (suc (suc zero))))))) = (refl, refl)
zeros (suc (suc (suc (suc (suc (suc (suc (suc l)))))))) = (refl, refl)

pub held_start : (p : Program) → WellFormed p → Held (start p) (start p) 0 no_words
unfolding no_words latest ThreadWords.digits led
held_start p w = record {
  code = λ e. 0;
  code_initial = refl;
  code_done = λ e d. absurd (omega (arith, d, (start_history p e.0).0));
  code_once = λ d e a b q. absurd (omega (arith, a, (start_history p d.0).0));
  val = λ l e. (cell_of (start p) l).value;
  valued = λ l. refl;
  eight = refl;
  six = refl;
  stamped = λ l h. (zeros l).0;
  worded = λ t h. inl (record {
    quiet = λ l j x. Memᴰ.not-nil (subst (Memᴰ (t, j)) (start_writes p l) x);
    plain = subst (λ (rs : List (ℕ × Event)). Plain rs (thread_of (start p) t).history.done) (sym (start_history p t).1) (start_history p t).0;
    is = (zeros t).1 ∙ sym (ap (digits (λ e. 0)) (start_history p t).1);
    small = omega (arith, (zeros t).1);
    local = sym (ap (led (λ l e. (cell_of (start p) l).value) (thread_of (start p) t).local) (start_history p t).1);
  });
}
