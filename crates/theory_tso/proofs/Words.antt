-- WORDS FROM STEP TO STEP: the word of the thread that steps gains a digit, or is lone from then on; every other thread keeps its word.
use Prim.Native.Nat.{ℕ, suc, ◌+◌, ◌*◌, ◌^◌, ◌<◌, ◌≤◌}
use mathlib.Core.Path.{◌≡◌, refl, sym, ap, ap₂, subst, ◌∙◌}
use mathlib.Core.Logic.{◌≢◌, ◌⊎◌, inl, inr, ⊎_elim}
use mathlib.Core.Bool.{Bool, true, false, cond, not, ◌&&◌, true≢false, false≢true}
use mathlib.Core.Option.{Option, none, some}
use mathlib.Core.List.{List, [], ◌∷◌, Memᴰ}
use native.Mathlib.Omega.{arith}
use lib.Dec.{eqb, ltb}
use lib.ListN.{length}
use borrow.Author.Tests.{eqb-true, ltb-true, ltb-false, lt-ltb, le-ltb}
use Rattle.spec_file.specs.Program.{Program}
use Rattle.spec_file.specs.WellFormed.{WellFormed, all_accesses}
use Rattle.spec_file.proofs.Tests.{equal_tests}
use Rattle.spec_schedules.specs.Lists.{all}
use Rattle.spec_schedules.specs.Order.{Schedule}
use Rattle.spec_schedules.specs.System.{Allowed}
use Rattle.spec_schedules.proofs.Lists.{all_of}
use Rattle.spec_sc.specs.Local.{takes}
use Rattle.spec_sc.specs.State as SC
use Rattle.spec_sc.specs.State.{Event, Cell, History, noted}
use Rattle.spec_sc.specs.Actions.{given}
use Rattle.theory_search.specs.Standing.{silent}
use Rattle.spec_sc.proofs.Change.{noted_done}
use Rattle.spec_sc.proofs.Same.{not_of}
use Rattle.spec_sc.proofs.FixedState.{write_cell, cell_of_lem}
use Rattle.theory_search.proofs.Standing.{silent_true}
use Rattle.spec_tso.specs.Queue.{Entry, oldest_value, movable}
use Rattle.spec_tso.specs.State.{Thread, State, Kind, access, move, without_queues, thread_of, cell_of, finds, number_of, thread_behind, reaches, place, step_of, able, kind_of, owner, step, enabled, start, TSO}
use Rattle.spec_tso.specs.Graph.{end_of}
use Rattle.spec_tso.proofs.Bytes.{access≢move, move≢access}
use Rattle.spec_tso.proofs.Steps.{enabled_able, enabled_small, able_range, able_movable, thread_own, thread_other, putting}
use Rattle.spec_tso.proofs.Seen.{seen_cell}
use Rattle.spec_tso.proofs.Change.{Change, write_cases, writes_stay, wrote_own}
use Rattle.spec_tso.proofs.Regular.{Regular, place_in, changes, regular_start, regular_run}
use Rattle.theory_sc.specs.ThreadWords as ThreadWords
use Rattle.theory_sc.specs.ThreadWords.{lone}
use Rattle.theory_tso.specs.ReadWords.{sources_of, source_digit, digit, digits, word_of, word_behind}
use Rattle.theory_tso.proofs.ReadWords.{Numbered, source_or, sources_noted, sources_length, Small, word_room}
use Rattle.theory_tso.proofs.Kept.{kept}
use Rattle.theory_tso.proofs.Small.{small}

-- ---- nothing of t is in memory
abbrev pub Quiet : State → ℕ → Type 0
Quiet σ t = (l : ℕ) (e : Event) → Memᴰ e (cell_of σ l).writes → e.0 ≢ t

pub silent_quiet : (σ : State) (t : ℕ) → silent (without_queues σ) t ≡ true → Quiet σ t
silent_quiet σ t s l e m =
    let c = write_cell (without_queues σ) l e (subst (λ (k : Cell). Memᴰ e k.writes) (sym (seen_cell σ l)) m) in
    silent_true (without_queues σ) t s c.0 c.1 e c.2

pub quiet_silent : (σ : State) (t : ℕ) → Quiet σ t → silent (without_queues σ) t ≡ true
unfolding silent
quiet_silent σ t q =
    all_of (λ (c : Cell). all (λ (e : Event). not (eqb e.0 t)) c.writes) (without_queues σ).cells
    (λ c m. all_of (λ (e : Event). not (eqb e.0 t)) c.writes (λ e i.
    let k = cell_of_lem (without_queues σ) c m in
    not_of (eqb e.0 t) (λ z. q k.0 e (subst (λ (x : Cell). Memᴰ e x.writes) (sym (sym (seen_cell σ k.0) ∙ k.1)) i) (eqb-true e.0 t z))))

module _ (σ : State) (k : Kind) (t : ℕ) (g : Regular σ) (m : able k (thread_of σ t) (length σ.cells) ≡ true) where
  pub quiet_back : (u : ℕ) → Quiet (step_of σ k t) u → Quiet σ u
  quiet_back u q l e i = q l e (writes_stay σ k t l e (changes σ g k t m l) i)

  quiet_on : (u : ℕ) → (u ≢ t) ⊎ (putting σ k t ≡ none) → Quiet σ u → Quiet (step_of σ k t) u
  quiet_on u d q l e i j = ⊎_elim (λ (x : Memᴰ e (cell_of σ l).writes). q l e x j)
      (λ (x : (e ≡ (t, number_of k (thread_of σ t))) × ((v : ℕ) × (putting σ k t ≡ some v))).
      ⊎_elim (λ (y : u ≢ t). y (sym j ∙ ap (λ (z : Event). z.0) x.0)) (λ (y : putting σ k t ≡ none). let z : ◌≡◌ {A = Option ℕ} none (some x.1.0) = sym y ∙ x.1.1 in let n : ◌≡◌ {A = ℕ} 0 1 = cc in omega arith) d)
      (write_cases σ k t l e (changes σ g k t m l) i)

  pub silent_same : (u : ℕ) → (u ≢ t) ⊎ (putting σ k t ≡ none) → silent (without_queues (step_of σ k t)) u ≡ silent (without_queues σ) u
  silent_same u d = equal_tests (silent (without_queues (step_of σ k t)) u) (silent (without_queues σ) u)
      (λ s. quiet_silent σ u (quiet_back u (silent_quiet (step_of σ k t) u s))) (λ s. quiet_silent (step_of σ k t) u (quiet_on u d (silent_quiet σ u s)))

  pub loud : (v : ℕ) → putting σ k t ≡ some v → Quiet (step_of σ k t) t → ⊥
  loud v e q = q (place σ k t) (t, number_of k (thread_of σ t))
      (subst (Memᴰ (t, number_of k (thread_of σ t))) (sym (wrote_own σ k t (place σ k t) v (place_in σ g k t m) refl e).0) (Memᴰ.head refl)) refl

  silent_put : (v : ℕ) → putting σ k t ≡ some v → silent (without_queues (step_of σ k t)) t ≡ false
  silent_put v e = go (silent (without_queues (step_of σ k t)) t) refl
    where
      go : (b : Bool) → silent (without_queues (step_of σ k t)) t ≡ b → silent (without_queues (step_of σ k t)) t ≡ false
      go true s = absurd (loud v e (silent_quiet (step_of σ k t) t s))
      go false s = s

-- ---- the word of a thread by its parts
unfoldable worded : Bool → ℕ → History → ℕ
worded s t h = cond (s && ltb h.done 9) (digits t (sources_of h.done h.reads)) (lone t)

word_is : (σ : State) (t : ℕ) (s : Bool) (h : History) → silent (without_queues σ) t ≡ s → (thread_of σ t).history ≡ h → word_of σ t ≡ worded s t h
unfolding word_of worded
word_is σ t s h es eh = ap₂ (λ (x : Bool) (y : History). worded x t y) es eh

lone_stays : (t d : ℕ) → word_behind t (lone t) d false ≡ lone t
unfolding ThreadWords.word_behind lone
lone_stays t d = let q = le-ltb (2 ^ 60 + t) (2 ^ 49) (omega arith) in rw q

behind_put : (t word d : ℕ) (b : Bool) → b ≡ true → word_behind t word d b ≡ lone t
unfolding ThreadWords.word_behind
behind_put t word d b e = rw e

read_digit : (t : ℕ) (e : Event) → digit t (source_or true e) ≡ source_digit t e
unfolding digit source_or
read_digit t e = refl

store_digit : (t : ℕ) (e : Event) → digit t (source_or false e) ≡ 1
unfolding digit source_or
store_digit t e = refl

given_is : (o : Option ℕ) (x : ℕ) → o ≡ some x → given o ≡ true
unfolding given
given_is o x e = rw e

given_not : (o : Option ℕ) → o ≡ none → given o ≡ false
unfolding given
given_not o e = rw e

pub oldest_there : (q : List Entry) (n : ℕ) → movable q n ≡ true → oldest_value q ≡ none → ⊥
unfolding movable oldest_value
oldest_there [] n m e = false≢true m
oldest_there (x ∷ q) n m e = let z : ◌≡◌ {A = ℕ} 0 1 = cc in omega arith

-- one access more, which puts nothing
word_noted : (s : Bool) (t : ℕ) (b : Bool) (e : Event) (h : History) → Numbered h.done h.reads → Small t (sources_of h.done h.reads) →
    worded s t (noted b e h) ≡ word_behind t (worded s t h) (digit t (source_or b e)) false
unfolding worded ThreadWords.word_behind ThreadWords.digits
word_noted false t b e h x y = sym (lone_stays t (digit t (source_or b e)))
word_noted true t b e h x y = go (ltb h.done 9) refl (sources_noted b e h x)
  where
    go : (n : Bool) → ltb h.done 9 ≡ n → sources_of (noted b e h).done (noted b e h).reads ≡ source_or b e ∷ sources_of h.done h.reads → worded true t (noted b e h) ≡ word_behind t (worded true t h) (digit t (source_or b e)) false
    go true q s =
        let r = word_room t h.done (sources_of h.done h.reads) (sources_length h.done h.reads) y q in
        ap₂ (λ (x : ℕ) (os : List (Option Event)). cond (ltb x 9) (digits t os) (lone t)) (noted_done b e h) s
        ∙ ap (λ (x : Bool). cond x (digits t (sources_of h.done h.reads) * 128 + digit t (source_or b e)) (lone t)) (sym r)
        ∙ sym (ap (λ (x : Bool). word_behind t (cond x (digits t (sources_of h.done h.reads)) (lone t)) (digit t (source_or b e)) false) q)
    go false q s =
        let n : ltb (noted b e h).done 9 ≡ false = le-ltb (noted b e h).done 9 (omega (arith, noted_done b e h, ltb-false h.done 9 q)) in
        ap (λ (x : Bool). cond x (digits t (sources_of (noted b e h).done (noted b e h).reads)) (lone t)) n
        ∙ sym (ap (λ (x : Bool). word_behind t (cond x (digits t (sources_of h.done h.reads)) (lone t)) (digit t (source_or b e)) false) q ∙ lone_stays t (digit t (source_or b e)))

module _ (p : Program) (w : WellFormed p) (few : all_accesses p.threads ≤ 16) (v : Schedule) (a : Allowed TSO (start p) v) (b : ℕ) (ok : enabled (end_of p v) b ≡ true) where
  abbrev σ : State
  σ = end_of p v

  g : Regular (end_of p v)
  g = regular_run v (start p) (regular_start p w) a

  -- a thread that waits
  pub word_other : (u : ℕ) → u ≢ owner b → word_of (step (end_of p v) b) u ≡ word_of (end_of p v) u
  unfolding step
  word_other u ne = word_is (step_of σ (kind_of b) (owner b)) u (silent (without_queues σ) u) (thread_of σ u).history (silent_same σ (kind_of b) (owner b) g (enabled_able σ b ok) u (inl ne))
      (ap (λ (h : Thread). h.history) (thread_other σ (kind_of b) (owner b) u ne)) ∙ sym (word_is σ u (silent (without_queues σ) u) (thread_of σ u).history refl refl)

  -- the thread that steps: behind a put
  put_word : (k : Kind) (x : ℕ) → kind_of b ≡ k → putting (end_of p v) (kind_of b) (owner b) ≡ some x → word_of (step_of (end_of p v) (kind_of b) (owner b)) (owner b) ≡ lone (owner b)
  unfolding worded
  put_word k x ek e = word_is (step_of σ (kind_of b) (owner b)) (owner b) false (thread_of (step_of σ (kind_of b) (owner b)) (owner b)).history (silent_put σ (kind_of b) (owner b) g (enabled_able σ b ok) x e) refl

  -- a thread's history behind an access that puts nothing
  access_history : (k : Kind) → k ≡ access → able k (thread_of (end_of p v) (owner b)) (length (end_of p v).cells) ≡ true → (thread_of (step_of (end_of p v) k (owner b)) (owner b)).history
      ≡ noted (takes (thread_of (end_of p v) (owner b)).local) (finds (owner b) (thread_of (end_of p v) (owner b)) (cell_of (end_of p v) (place (end_of p v) k (owner b)))).source (thread_of (end_of p v) (owner b)).history
  unfolding thread_behind
  access_history access e m = ap (λ (h : Thread). h.history) (thread_own σ access (owner b) (able_range σ access (owner b) (length σ.cells) m))
  access_history move e m = absurd (move≢access e)

  still_word : kind_of b ≡ access → putting (end_of p v) (kind_of b) (owner b) ≡ none → word_of (step_of (end_of p v) (kind_of b) (owner b)) (owner b)
      ≡ word_behind (owner b) (word_of (end_of p v) (owner b)) (digit (owner b) (source_or (takes (thread_of (end_of p v) (owner b)).local) (finds (owner b) (thread_of (end_of p v) (owner b)) (cell_of (end_of p v) (place (end_of p v) (kind_of b) (owner b)))).source)) false
  still_word ek e =
      let t = owner b in
      let m = enabled_able σ b ok in
      let h = (thread_of σ t).history in
      let s = silent (without_queues σ) t in
      let src = (finds t (thread_of σ t) (cell_of σ (place σ (kind_of b) t))).source in
      word_is (step_of σ (kind_of b) t) t s (noted (takes (thread_of σ t).local) src h) (silent_same σ (kind_of b) t g m t (inr e)) (access_history (kind_of b) ek m)
      ∙ word_noted s t (takes (thread_of σ t).local) src h ((kept p w v a).numbered t) (small p w few v a t (enabled_small σ b ok))
      ∙ ap (λ (x : ℕ). word_behind t x (digit t (source_or (takes (thread_of σ t).local) src)) false) (sym (word_is σ t s h refl refl))

  -- a move puts
  move_puts : (k : Kind) → k ≡ move → able k (thread_of (end_of p v) (owner b)) (length (end_of p v).cells) ≡ true → putting (end_of p v) k (owner b) ≡ none → ⊥
  unfolding reaches
  move_puts access e m q = access≢move e
  move_puts move e m q = oldest_there (thread_of σ (owner b)).queue (length σ.cells) (able_movable (thread_of σ (owner b)) (length σ.cells) m) q

  -- THE THREAD THAT STEPS, whose access reads this or nothing, and puts or not
  pub word_own : (reads puts : Bool) (e : Event) → given (putting (end_of p v) (kind_of b) (owner b)) ≡ puts →
      (kind_of b ≡ access → (takes (thread_of (end_of p v) (owner b)).local ≡ reads) × ((finds (owner b) (thread_of (end_of p v) (owner b)) (cell_of (end_of p v) (place (end_of p v) (kind_of b) (owner b)))).source ≡ e)) →
      word_of (step (end_of p v) b) (owner b) ≡ word_behind (owner b) (word_of (end_of p v) (owner b)) (cond reads (source_digit (owner b) e) 1) puts
  unfolding step
  word_own reads puts e ep er = go (putting σ (kind_of b) (owner b)) refl (kind_of b) refl
    where
      digit_is : (r : Bool) → digit (owner b) (source_or r e) ≡ cond r (source_digit (owner b) e) 1
      digit_is true = read_digit (owner b) e
      digit_is false = store_digit (owner b) e

      go : (o : Option ℕ) → putting σ (kind_of b) (owner b) ≡ o → (k : Kind) → kind_of b ≡ k → word_of (step_of σ (kind_of b) (owner b)) (owner b) ≡ word_behind (owner b) (word_of σ (owner b)) (cond reads (source_digit (owner b) e) 1) puts
      go (some x) q k ek = put_word k x ek q ∙ sym (behind_put (owner b) (word_of σ (owner b)) (cond reads (source_digit (owner b) e) 1) puts (sym ep ∙ given_is (putting σ (kind_of b) (owner b)) x q))
      go none q move ek = absurd (move_puts (kind_of b) ek (enabled_able σ b ok) q)
      go none q access ek =
          let r = er ek in
          still_word ek q
          ∙ ap₂ (λ (x : Bool) (y : Event). word_behind (owner b) (word_of σ (owner b)) (digit (owner b) (source_or x y)) false) r.0 r.1
          ∙ ap₂ (λ (x : ℕ) (y : Bool). word_behind (owner b) (word_of σ (owner b)) x y) (digit_is reads) (sym (given_not (putting σ (kind_of b) (owner b)) q) ∙ ep)
