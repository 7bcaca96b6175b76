-- R2 BY WORDS IS R2: two threads of one `02` line have the same word exactly when they stand alike, with the same reads, and neither has written.
use Prim.Native.Nat.{ℕ, suc, ◌+◌, ◌^◌, ◌<◌, ◌≤◌}
use mathlib.Core.Path.{◌≡◌, refl, sym, ap, ap₂, subst, ◌∙◌}
use mathlib.Core.Logic.{◌≢◌, ◌⊎◌, inl, inr, ⊎_elim}
use mathlib.Core.Bool.{Bool, true}
use mathlib.Core.List.{List, [], ◌∷◌, ◌++◌, Memᴰ}
use native.Mathlib.Omega.{arith}
use native.Mathlib.Decide.{ℕ_discrete}
use lib.Dec.{eqb}
use lib.ListN.{length, get_or}
use borrow.Author.Tests.{eqb-true, eq-eqb}
use Rattle.spec_file.specs.Program.{Program}
use Rattle.spec_file.specs.WellFormed.{WellFormed}
use Rattle.spec_file.proofs.DigitValues.{both}
use Rattle.spec_file.proofs.Tests.{equal_tests}
use Rattle.spec_schedules.specs.Order.{Schedule}
use Rattle.spec_schedules.specs.Lists.{range, any}
use Rattle.spec_schedules.specs.System.{run, Allowed}
use Rattle.spec_schedules.proofs.Lists.{of_range, any_yes, any_of}
use Rattle.spec_schedules.proofs.Runs.{allowed_length}
use Rattle.spec_sc.specs.Local.{Local}
use Rattle.spec_sc.specs.State.{Event, Thread, State, thread_of, cell_of, latest, step, start, SC, opened, History}
use Rattle.spec_sc.specs.Graph.{end_of}
use Rattle.spec_sc.specs.Actions.{writes}
use Rattle.spec_sc.proofs.Steps.{enabled_range, thread_other}
use Rattle.spec_sc.proofs.Change.{done_own}
use Rattle.spec_sc.proofs.Start.{start_thread, start_history}
use Rattle.spec_sc.proofs.Lawful.{lawful, start_24}
use Rattle.spec_sc.proofs.Regular.{Regular, regular_start, regular_run}
use Rattle.spec_sc.specs.Same.{same_read}
use Rattle.spec_sc.proofs.Same.{both_and, same_read_is}
use Rattle.spec_file.proofs.Lists.{same_list_is}
use Rattle.spec_model.specs.Exchange.{together, Together}
use Rattle.spec_model.proofs.Permitted.{together_true}
use Rattle.spec_model.proofs.Exchanges.{members}
use Rattle.theory_search.specs.Standing.{same_local, silent}
use Rattle.theory_sc.specs.Rules.{same_history, twin}
use Rattle.theory_sc.specs.ThreadWords.{lone, twin_by_word}
use Rattle.theory_sc.specs.ReadWords.{Words, words_behind, words_after, no_words, words_of}
use Rattle.theory_sc.proofs.GoesFirst.{Quiet}
use Rattle.theory_sc.proofs.Preferring.{silent_quiet, twin_of}
use Rattle.theory_sc.proofs.Digits.{digits, Plain, plain_length, digits_once, led}
use Rattle.theory_sc.proofs.ReadWords.{Reads, Lone, Held, latest_known, sources_known, code_below, code_apart, held_run, held_start}

-- two threads have done together no more accesses than there were steps
together_done : (v : Schedule) (σ : State) (u t : ℕ) → u ≢ t → Allowed SC σ v →
    (thread_of (run SC σ v) u).history.done + (thread_of (run SC σ v) t).history.done ≤ (thread_of σ u).history.done + (thread_of σ t).history.done + length v
unfolding run
together_done [] σ u t ne a = omega arith
together_done (b ∷ v) σ u t ne a = go (ℕ_discrete u b) (ℕ_discrete t b) (together_done v (step σ b) u t ne a.1)
  where
    more : (x : ℕ) → x ≢ b → (thread_of (step σ b) x).history.done ≡ (thread_of σ x).history.done
    more x q = ap (λ (k : Thread). k.history.done) (thread_other σ b x q)

    own : (x : ℕ) → x ≡ b → (thread_of (step σ b) x).history.done ≡ suc (thread_of σ x).history.done
    own x q = subst (λ (y : ℕ). (thread_of (step σ b) y).history.done ≡ suc (thread_of σ y).history.done) (sym q) (done_own σ b (enabled_range σ b a.0))

    after : ℕ
    after = (thread_of (run SC (step σ b) v) u).history.done + (thread_of (run SC (step σ b) v) t).history.done

    go : Dec (u ≡ b) → Dec (t ≡ b) → after ≤ (thread_of (step σ b) u).history.done + (thread_of (step σ b) t).history.done + length v →
        after ≤ (thread_of σ u).history.done + (thread_of σ t).history.done + suc (length v)
    go (yes q) (yes r) ih = absurd (ne (q ∙ sym r))
    go (yes q) (no r) ih = omega (arith, ih, own u q, more t r)
    go (no q) (yes r) ih = omega (arith, ih, more u q, own t r)
    go (no q) (no r) ih = omega (arith, ih, more u q, more t r)

-- ---- what a prefix holds
module _ (p : Program) (w : WellFormed p) (v : Schedule) (a : Allowed SC (start p) v) where
  short : length v ≤ 24
  short = omega (arith, allowed_length SC lawful (start p) v a, start_24 p w)

  pub held : Held (start p) (end_of p v) (length v) (words_of p v)
  unfolding words_of
  held = subst (λ (k : ℕ). Held (start p) (end_of p v) k (words_after (start p) 0 no_words v)) (omega arith) (held_run v (start p) (start p) 0 no_words (held_start p w) (regular_start p w) a (omega (arith, short)))

-- ---- the test
module _ (p : Program) (w : WellFormed p) (v : Schedule) (a : Allowed SC (start p) v) (u t : ℕ) (ne : u ≢ t) (hu : u < 6) (ht : t < 6) where
  abbrev σ : State
  σ = end_of p v

  abbrev C : Held (start p) (end_of p v) (length v) (words_of p v)
  C = held p w v a

  g : Regular (end_of p v)
  g = regular_run v (start p) (regular_start p w) a

  abbrev word : ℕ → ℕ
  word x = get_or (words_of p v).words x 0

  -- threads with the same word have the same state, and wrote nothing
  same_word : Together p u t → get_or (words_of p v).words u 0 ≡ get_or (words_of p v).words t 0 → (thread_of (end_of p v) u ≡ thread_of (end_of p v) t) × Quiet (end_of p v) u × Quiet (end_of p v) t
  unfolding lone
  same_word line e = go (C.worded u hu) (C.worded t ht)
    where
      began : thread_of (start p) u ≡ thread_of (start p) t
      began = let k = members p w u t line in start_thread p u k.0 ∙ ap opened k.2 ∙ sym (start_thread p t k.1)

      go : Reads (start p) σ C.code C.val (word u) u ⊎ Lone σ (word u) u → Reads (start p) σ C.code C.val (word t) t ⊎ Lone σ (word t) t → (thread_of σ u ≡ thread_of σ t) × Quiet σ u × Quiet σ t
      go (inr x) (inr y) = absurd (ne (omega (arith, e, x.is, y.is)))
      go (inr x) (inl y) = absurd (omega (arith, e, x.is, y.small))
      go (inl x) (inr y) = absurd (omega (arith, e, y.is, x.small))
      go (inl x) (inl y) =
          let reads = digits_once C.code (thread_of σ u).history.reads (thread_of σ t).history.reads (thread_of σ u).history.done (thread_of σ t).history.done x.plain y.plain
          (λ r i. code_below (start p) σ (length v) (words_of p v) C (short p w v a) r.1 (sources_known σ g u r i)) (λ r i. code_below (start p) σ (length v) (words_of p v) C (short p w v a) r.1 (sources_known σ g t r i))
          (λ r s i j q. code_apart (start p) σ (length v) (words_of p v) C r.1 s.1 (sources_known σ g u r i) (sources_known σ g t s j) q) (sym x.is ∙ e ∙ y.is) in
          let done = sym (plain_length (thread_of σ u).history.reads (thread_of σ u).history.done x.plain) ∙ ap length reads ∙ plain_length (thread_of σ t).history.reads (thread_of σ t).history.done y.plain in
          let local = x.local ∙ ap₂ (λ (h : Thread) (rs : List (ℕ × Event)). led C.val h.local rs) began reads ∙ sym y.local in (
            ap₂ (λ (h : Local) (k : History). let z : Thread = record { local = h; history = k } in z) local (ap₂ (λ (i : ℕ) (rs : List (ℕ × Event)). let z : History = record { done = i; reads = rs } in z) done reads),
            x.quiet,
            y.quiet,
          )

  -- equal histories have equal words
  word_same : (thread_of (end_of p v) u).history.done ≡ (thread_of (end_of p v) t).history.done → (thread_of (end_of p v) u).history.reads ≡ (thread_of (end_of p v) t).history.reads →
      Quiet (end_of p v) u → Quiet (end_of p v) t → get_or (words_of p v).words u 0 ≡ get_or (words_of p v).words t 0
  word_same d e qu qt = go (C.worded u hu) (C.worded t ht)
    where
      few : (thread_of σ u).history.done + (thread_of σ t).history.done ≤ 24
      few = omega (arith, short p w v a, together_done v (start p) u t ne a, (start_history p u).0, (start_history p t).0)

      not_lone : (x n : ℕ) → Lone σ n x → Quiet σ x → (thread_of σ x).history.done ≤ 12 → ⊥
      not_lone x n l q k = ⊎_elim (λ (f : Quiet σ x → ⊥). f q) (λ (f : 12 < (thread_of σ x).history.done). omega (arith, f, k)) l.why

      go : Reads (start p) σ C.code C.val (word u) u ⊎ Lone σ (word u) u → Reads (start p) σ C.code C.val (word t) t ⊎ Lone σ (word t) t → word u ≡ word t
      go (inr x) y = absurd (not_lone u (word u) x qu (omega (arith, few, d)))
      go (inl x) (inr y) = absurd (not_lone t (word t) y qt (omega (arith, few, d)))
      go (inl x) (inl y) = x.is ∙ ap (digits C.code) e ∙ sym y.is

  -- R2 BY WORDS IS R2
  pub twin_by_word_lem : twin_by_word p (words_of p v).words t u ≡ twin p (end_of p v) t u
  unfolding twin same_history
  twin_by_word_lem = equal_tests _ _ there back
    where
      there : twin_by_word p (words_of p v).words t u ≡ true → twin p σ t u ≡ true
      there e =
          let x = both (together p.groups u t) _ e in
          let line = together_true p u t x.0 in
          let r = same_word line (eqb-true _ _ x.1) in
          twin_of p σ u t line r.0 r.1 r.2

      back : twin p σ t u ≡ true → twin_by_word p (words_of p v).words t u ≡ true
      back e =
          let x = both (together p.groups u t) _ e in
          let y = both (same_local (thread_of σ u).local (thread_of σ t).local) _ x.1 in
          let z = both (same_history (thread_of σ u).history (thread_of σ t).history) _ y.1 in
          let h = both (eqb (thread_of σ u).history.done (thread_of σ t).history.done) _ z.0 in
          let q = both (silent σ u) (silent σ t) z.1 in
          both_and x.0 (eq-eqb _ _ (word_same (eqb-true _ _ h.0) (same_list_is same_read same_read_is _ _ h.1) (silent_quiet σ u q.0) (silent_quiet σ t q.1)))

-- tests that agree on these
pub any_same : (f g : ℕ → Bool) (l : List ℕ) → ((x : ℕ) → Memᴰ x l → f x ≡ g x) → any f l ≡ any g l
any_same f g l e = equal_tests (any f l) (any g l)
    (λ q. let r = any_yes f l q in any_of g l r.0 r.1 (sym (e r.0 r.1) ∙ r.2))
    (λ q. let r = any_yes g l q in any_of f l r.0 r.1 (e r.0 r.1 ∙ r.2))

-- no thread below t is its twin by words exactly where none is by states
pub twins_by_word : (p : Program) → WellFormed p → (v : Schedule) → Allowed SC (start p) v → (t : ℕ) → t < 6 →
    any (twin_by_word p (words_of p v).words t) (range 0 t) ≡ any (twin p (end_of p v) t) (range 0 t)
twins_by_word p w v a t h = any_same (twin_by_word p (words_of p v).words t) (twin p (end_of p v) t) (range 0 t)
    (λ u m. let i = (of_range 0 t u m).1 in twin_by_word_lem p w v a u t (λ q. omega arith) (omega arith) h)

-- ---- as code carries them: zeros at the start, then step by step
pub words_start : (p : Program) → words_of p [] ≡ no_words
unfolding words_of words_after
words_start p = refl

words_after_more : (v : Schedule) (σ : State) (n : ℕ) (m : Words) (t : ℕ) → words_after σ n m (v ++ (t ∷ [])) ≡ words_behind (run SC σ v) (n + length v + 1) (words_after σ n m v) t
unfolding words_after run
words_after_more [] σ n m t = ap (λ (k : ℕ). words_behind σ (k + 1) m t) (omega arith)
words_after_more (b ∷ v) σ n m t = words_after_more v (step σ b) (n + 1) (words_behind σ (n + 1) m b) t ∙ ap (λ (k : ℕ). words_behind (run SC (step σ b) v) (k + 1) (words_after (step σ b) (n + 1) (words_behind σ (n + 1) m b) v) t) (omega arith)

pub words_more : (p : Program) (v : Schedule) (t : ℕ) → words_of p (v ++ (t ∷ [])) ≡ words_behind (end_of p v) (length v + 1) (words_of p v) t
unfolding words_of
words_more p v t = words_after_more v (start p) 0 no_words t ∙ ap (λ (k : ℕ). words_behind (end_of p v) (k + 1) (words_after (start p) 0 no_words v) t) (omega arith)
