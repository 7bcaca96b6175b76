-- THE KEY OF A POSITION fits its words, so the words decide.
use Prim.Native.Nat.{ℕ, suc, ◌+◌, ◌/◌, ◌%◌, ◌<◌, ◌≤◌, ◌^◌}
use mathlib.Core.Path.{◌≡◌, refl, sym, ap, subst}
use mathlib.Core.List.{List, [], ◌∷◌, map, Memᴰ}
use native.Mathlib.Omega.{arith}
use lib.ListN.{length, length-append, length-map, get_or, get_or-map}
use Rattle.spec_file.specs.Program.{Program, code_of, initial}
use Rattle.spec_file.specs.WellFormed.{WellFormed, Everywhere, all_accesses}
use Rattle.spec_file.proofs.Everywhere.{everywhere_get_d, everywhere_append, everywhere_map}
use Rattle.spec_schedules.specs.Lists.{range, filter}
use Rattle.spec_schedules.specs.Order.{Schedule}
use Rattle.spec_schedules.specs.System.{run, Allowed}
use Rattle.spec_schedules.proofs.Kept.{filter_length}
use Rattle.spec_schedules.proofs.Lists.{range_length}
use Rattle.spec_model.specs.Laws.{Admitted}
use Rattle.spec_sc.specs.Local.{Local}
use Rattle.spec_sc.specs.State as SC
use Rattle.spec_sc.specs.State.{Cell, fresh_cell, value_of, memory_of}
use Rattle.spec_sc.proofs.Suffix.{Suffix, suffix_length}
use Rattle.spec_sc.proofs.Words.{Word, start_words, initial_word}
use Rattle.theory_sc.specs.Sets.{set_of}
use Rattle.theory_sc.proofs.Sets.{set_below}
use Rattle.theory_sc_key.specs.Key.{left_of, live_at, register_at, values_of, pairs}
use Rattle.theory_sc_key.proofs.Packing.{padded_length, pairs_half}
use Rattle.spec_tso.specs.Queue.{Entry}
use Rattle.spec_tso.specs.State.{Thread, State, access, move, without_queues, idle, drained, thread_of, cell_of, byte_for, step, TSO, start}
use Rattle.spec_tso.specs.TotalStoreOrder.{tso}
use Rattle.spec_tso.proofs.Seen.{drained_thread}
use Rattle.spec_tso.proofs.Regular.{Regular, regular_start, regular_step}
use Rattle.spec_tso.proofs.Rests.{rest_code}
use Rattle.spec_tso.proofs.Laws.{at_most_16}
use Rattle.theory_tso.specs.Search.{given_up}
use Rattle.theory_tso.specs.LateBytes.{bytes_of, late_at, far_at}
use Rattle.theory_states.specs.SameKey.{Decides}
use Rattle.theory_tso_key.specs.Views.{unnumbered, waiting, breaks}
use Rattle.theory_tso_key.specs.Near.{near}
use Rattle.theory_tso_key.specs.Key.{queues_of, key_of}
use Rattle.theory_tso_key.specs.Words.{join, stored, words_of, word_key, Plain, Shaped}
use Rattle.theory_tso_key.proofs.Rules.{Met, met_regular}
use Rattle.theory_tso_key.proofs.Decides.{OneFuture, one_future, key_future}
use Rattle.theory_tso_key.proofs.Values.{ThreadWords, StateWords, words_step}
use Rattle.theory_tso_key.proofs.Locals.{local_seen, register_seen, values_many}
use Rattle.theory_tso_key.proofs.Words.{words_few, words_below, left_same, words_once}
use Rattle.theory_tso_key.proofs.Pending.{stores_short, stores_few, pending_few, pending_all}

-- ---- 32-bit values along a run
start_all : (p : Program) → WellFormed p → StateWords (start p)
unfolding start idle drained cell_of SC.start SC.cell_of fresh_cell
start_all p w = (
  λ t. subst (λ (h : Thread). ThreadWords h) (sym (drained_thread (SC.start p) t)) (start_words p w t, tt),
  λ l. subst Word (sym (ap (λ (c : Cell). c.value) (get_or-map fresh_cell (initial p) l 0))) (initial_word p w l),
)

run_all : (v : Schedule) (σ : State) → Regular σ → Allowed TSO σ v → StateWords σ → StateWords (run TSO σ v)
unfolding run
run_all [] σ g a w = w
run_all (b ∷ v) σ g a w = run_all v (step σ b) (regular_step σ b g a.0) a.1 (words_step σ b g a.0 w)

met_words : (p : Program) → WellFormed p → (v : Schedule) (σ : State) → Met p v σ → StateWords σ
met_words p w v σ r = subst StateWords (sym r.0) (run_all v (start p) (regular_start p w) r.1 (start_all p w))

-- ---- lists
everywhere_at : {A : Type 0} (P : A → Type 0) (d : A) (l : List A) → ((i : ℕ) → P (get_or l i d)) → Everywhere P l
everywhere_at P d [] h = tt
everywhere_at P d (x ∷ l) h = (h 0, everywhere_at P d l (λ i. h (suc i)))

mapped_all : {A B : Type 0} (P : B → Type 0) (f : A → B) → ((x : A) → P (f x)) → (l : List A) → Everywhere P (map f l)
mapped_all P f h [] = tt
mapped_all P f h (x ∷ l) = (h x, mapped_all P f h l)

joined_all : {A : Type 0} (P : A → Type 0) (ls : List (List A)) → Everywhere (λ (l : List A). Everywhere P l) ls → Everywhere P (join ls)
unfolding join
joined_all P [] h = tt
joined_all P (l ∷ ls) h = everywhere_append P l (join ls) h.0 (joined_all P ls h.1)

plain_all : (q : List Entry) → ((x : Entry) → Memᴰ x q → x.location < 8) → Everywhere (λ (e : Entry). Word e.value) q → Everywhere Plain (map unnumbered q)
unfolding unnumbered
plain_all [] x w = tt
plain_all (e ∷ q) x w = ((refl, x e (Memᴰ.head refl), w.0), plain_all q (λ y m. x y (Memᴰ.tail m)) w.1)

module _ (p : Program) (a : Admitted tso p) (v : Schedule) (σ : State) (r : Met p v σ) where
  g : Regular σ
  g = met_regular p a.0 v σ r

  w : StateWords σ
  w = met_words p a.0 v σ r

  rest_few : (t : ℕ) → length (SC.thread_of (without_queues σ) t).local.rest < 32
  unfolding code_of
  rest_few t =
      let s = subst (λ (ρ : State). Suffix (thread_of ρ t).local.rest (code_of p t)) (sym r.0) (rest_code p v r.1 t) in
      omega (
        arith,
        ap (λ (h : Local). length h.rest) (local_seen σ t),
        suffix_length (thread_of σ t).local.rest (code_of p t) s,
        everywhere_get_d (λ c. length c ≤ 16) p.threads t [] a.0.sixteen (omega arith),
      )

  -- of all threads sixteen stores are pending at most
  sixteen : length (join (queues_of σ)) ≤ 16
  sixteen = omega (arith, pending_all p v σ r, stores_few 6 p.threads, at_most_16 p a.1)

  queue_few : (t : ℕ) → length (waiting (thread_of σ t)) < 32
  unfolding code_of
  queue_few t =
      let few = everywhere_get_d (λ c. length c ≤ 16) p.threads t [] a.0.sixteen (omega arith) in
      omega (arith, length-map (thread_of σ t).queue unnumbered, pending_few p v σ r t, stores_short (get_or p.threads t []), few)

  values_small : Everywhere (λ n. n < 2 ^ 32) (values_of (without_queues σ))
  unfolding register_at memory_of without_queues value_of cell_of fresh_cell
  values_small = everywhere_append Word (map (register_at (without_queues σ)) (filter (live_at (without_queues σ)) (range 0 24))) (memory_of (without_queues σ))
      (mapped_all Word (register_at (without_queues σ)) (λ i. subst Word (sym (register_seen σ (i / 4) (i % 4))) (everywhere_get_d Word (thread_of σ (i / 4)).local.registers (i % 4) 0 (w.0 (i / 4)).0.1 (omega arith)))
      (filter (live_at (without_queues σ)) (range 0 24)))
      (everywhere_map (λ (c : Cell). Word c.value) Word value_of (λ x y. y) σ.cells (everywhere_at (λ (c : Cell). Word c.value) (fresh_cell 0) σ.cells w.1))

  values_few : length (values_of (without_queues σ)) ≤ 32
  unfolding memory_of without_queues
  values_few =
      let l : List ℕ = filter (live_at (without_queues σ)) (range 0 24) in
      omega (
        arith,
        length-append (map (register_at (without_queues σ)) l) (memory_of (without_queues σ)),
        length-map l (register_at (without_queues σ)),
        filter_length (live_at (without_queues σ)) (range 0 24),
        range_length 0 24,
        length-map σ.cells value_of,
        g.eight,
      )

  pub key_shaped : Shaped (key_of p v σ)
  unfolding bytes_of range
  key_shaped = record {
    sets = (
      set_below (λ t. late_at p v (byte_for access t)) 6,
      (set_below (λ t. late_at p v (byte_for move t)) 6, (set_below (λ t. far_at p v (byte_for move t)) 6, mapped_all (λ n. n < 64) (λ t. set_of (near p σ t) 6) (λ t. set_below (near p σ t) 6) (range 0 6))),
    );
    near = refl;
    queues = refl;
    lengths = everywhere_append (λ n. n < 32) (map length (queues_of σ)) (left_of (without_queues σ))
        (everywhere_map (λ (q : List Entry). length q < 32) (λ n. n < 32) length (λ q h. h) (queues_of σ) (mapped_all (λ (q : List Entry). length q < 32) (λ t. waiting (thread_of σ t)) queue_few (range 0 6)))
        (mapped_all (λ n. n < 32) (λ t. length (SC.thread_of (without_queues σ) t).local.rest) rest_few (range 0 6));
    left = refl;
    plain = joined_all Plain (queues_of σ) (mapped_all (λ (q : List Entry). Everywhere Plain q) (λ t. waiting (thread_of σ t)) (λ t. plain_all (thread_of σ t).queue (g.places t) (w.0 t).1) (range 0 6));
    sixteen = sixteen;
    values = values_small;
    many = values_few;
  }

  -- THE WORDS OF A POSITION: at most 27, each of 64 bits
  pub key_words : (length (words_of (key_of p v σ)) ≤ 27) × Everywhere (λ n. n < 2 ^ 64) (words_of (key_of p v σ))
  key_words = (words_few (key_of p v σ) key_shaped, words_below (key_of p v σ) key_shaped)

  -- no more than the program's accesses and the live registers need
  pub words_within : (l : ℕ) → length (filter (live_at (without_queues σ)) (range 0 24)) ≤ l → length (words_of (key_of p v σ)) ≤ 3 + (all_accesses p.threads + 1) / 2 + (9 + l) / 2
  unfolding words_of memory_of without_queues
  words_within l h =
      let live : List ℕ = filter (live_at (without_queues σ)) (range 0 24) in
      let values : List ℕ = values_of (without_queues σ) in
      let pending : List Entry = join (queues_of σ) in
      omega (
        arith,
        h,
        length-append (pairs (stored pending)) (pairs values),
        pairs_half (stored pending),
        length-map pending (λ (e : Entry). e.value),
        pending_all p v σ r,
        stores_few 6 p.threads,
        pairs_half values,
        length-append (map (register_at (without_queues σ)) live) (memory_of (without_queues σ)),
        length-map live (register_at (without_queues σ)),
        length-map σ.cells value_of,
        g.eight,
      )

-- EQUAL WORDS, ONE FUTURE, with zeros behind up to any width
pub words_future : (p : Program) (a : Admitted tso p) (n : ℕ) (v : Schedule) (σ : State) (x : Schedule) (τ : State) → Met p v σ → Met p x τ → word_key n p v σ ≡ word_key n p x τ → OneFuture p v σ x τ
words_future p a n v σ x τ r s e =
    let j = key_shaped p a v σ r in
    let k = key_shaped p a x τ s in
    key_future p a v σ x τ r s (words_once n (key_of p v σ) (key_of p x τ) j k e (values_many p a.0 v σ x τ r s (left_same n (key_of p v σ) (key_of p x τ) j k e)))

-- THE WORDS DECIDE
pub words_decide : (p : Program) (a : Admitted tso p) (n : ℕ) → Decides TSO (given_up p) breaks (Met p) (word_key n p)
words_decide p a n = record { R = OneFuture p; bisimulation = one_future p a; related = words_future p a n }

-- up to so many words as a position's key has, or more, they are as wide as that
pub as_wide : (p : Program) (n : ℕ) (v : Schedule) (σ : State) → length (words_of (key_of p v σ)) ≤ n → length (word_key n p v σ) ≡ n
as_wide p n v σ h = padded_length n (words_of (key_of p v σ)) h
