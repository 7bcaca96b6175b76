-- THE KEY DECIDES: of two positions that the search meets with equal words, the words say one view, one late set and the same nearness.
use Prim.Native.Nat.{ℕ, suc, ◌+◌, ◌-◌, ◌*◌, ◌/◌, ◌%◌, ◌^◌, ◌<◌, ◌≤◌}
use mathlib.Core.Path.{◌≡◌, refl, sym, ap, ap₂, subst, ◌∙◌}
use mathlib.Core.Logic.{◌≢◌, ⊎_elim}
use mathlib.Core.Bool.{Bool, true, false}
use mathlib.Core.List.Memᴰ
use mathlib.Core.List.{List, [], ◌∷◌, ◌++◌, map, Memᴰ}
use native.Mathlib.Omega.{arith}
use native.Mathlib.Decide.{dec_lt}
use lib.ListN.{length, get_or, length-append, length-map, replicate, get_or-eq_default, get_or-map}
use Rattle.spec_file.specs.Program.{Program, code_of}
use Rattle.spec_file.specs.WellFormed.{WellFormed, Everywhere}
use Rattle.spec_file.specs.declared.instruction.Instruction.{Instruction}
use Rattle.spec_file.proofs.Everywhere.{everywhere_get_d, everywhere_append}
use Rattle.spec_file.proofs.Tests.{equal_tests}
use Rattle.spec_schedules.specs.Lists.{range, filter}
use Rattle.spec_schedules.specs.Order.{Schedule}
use Rattle.spec_schedules.specs.Sets.{has}
use Rattle.spec_schedules.proofs.Kept.{filter_length}
use Rattle.spec_schedules.proofs.Lists.{in_range_lem, in_filter, range_length}
use Rattle.spec_schedules.proofs.Loops.{mapped_at}
use Rattle.spec_model.specs.Exchange.{Together}
use Rattle.spec_model.proofs.Exchanges.{members}
use Rattle.spec_sc.specs.State.{Thread, Cell, State, fresh_cell, no_thread, thread_of, cell_of, value_of, memory_of, SC, start}
use Rattle.spec_sc.proofs.Suffix.{Suffix, suffix_length, suffix_equal}
use Rattle.spec_sc.proofs.Histories.{rest_code}
use Rattle.spec_sc.proofs.Steps.{missing}
use Rattle.spec_sc.proofs.Words.{Word}
use Rattle.theory_sc.specs.LateSet.{late_set}
use Rattle.theory_sc.specs.Search.{given_up}
use Rattle.theory_sc.specs.Sets.{set_of}
use Rattle.theory_sc.proofs.LateSet.{late_below}
use Rattle.theory_sc.proofs.Sets.{set_below, set_has}
use Rattle.theory_states.specs.Positions.{Reached}
use Rattle.theory_states.specs.SameKey.{Decides}
use Rattle.theory_sc_key.specs.Registers.{live, Like}
use Rattle.theory_sc_key.specs.View.{SameView, breaks}
use Rattle.theory_sc_key.specs.Nearness.{near, near_sets}
use Rattle.theory_sc_key.specs.Key.{left_of, live_at, register_at, values_of, seen_with, key_of, pairs, words_of, padded, word_key, Wide}
use Rattle.theory_sc_key.proofs.View.{seen_back}
use Rattle.theory_sc_key.proofs.Traced.{traces}
use Rattle.theory_sc_key.proofs.NearTest.{near_true}
use Rattle.theory_sc_key.proofs.SameFuture.{SameFuture, near_over, same_future}
use Rattle.theory_sc_key.proofs.Limits.{Fits, fits, four}
use Rattle.theory_sc_key.proofs.Packing.{six_bits, six_bits_once, six_bits_below, Halves, pairs_once, pairs_length, pairs_half, pairs_below, front_once, padded_length}

-- ---- lists
mapped_all : {A B : Type 0} (P : B → Type 0) (f : A → B) → ((x : A) → P (f x)) → (l : List A) → Everywhere P (map f l)
mapped_all P f h [] = tt
mapped_all P f h (x ∷ l) = (h x, mapped_all P f h l)

mapped_same : (f g : ℕ → ℕ) (l : List ℕ) → map f l ≡ map g l → (i : ℕ) → Memᴰ i l → f i ≡ g i
mapped_same f g [] e i m = absurd (Memᴰ.not-nil m)
mapped_same f g (x ∷ l) e i m =
    let h : f x ≡ g x = cc in
    let t : map f l ≡ map g l = cc in
    ⊎_elim (λ (q : i ≡ x). ap f q ∙ h ∙ ap g (sym q)) (λ (k : Memᴰ i l). mapped_same f g l t i k) (Memᴰ.cases_cons m)

filter_agree : (f g : ℕ → Bool) (l : List ℕ) → ((i : ℕ) → f i ≡ g i) → filter f l ≡ filter g l
unfolding filter
filter_agree f g [] h = refl
filter_agree f g (x ∷ l) h = ap₂ (λ (b : Bool) (k : List ℕ). let z : List ℕ = elim b [ true ↦ x ∷ k | false ↦ k ] in z) (h x) (filter_agree f g l h)

cells_all : (cs : List Cell) → ((l : ℕ) → Word (get_or cs l (fresh_cell 0)).value) → Halves (map value_of cs)
unfolding value_of
cells_all [] h = tt
cells_all (c ∷ cs) h = (h 0, cells_all cs (λ l. h (suc l)))

-- ---- of one position
module _ (p : Program) (w : WellFormed p) (v : Schedule) (σ : State) (r : Reached SC (start p) v σ) where
  left_of_lem : (t : ℕ) → Suffix (thread_of σ t).local.rest (code_of p t)
  left_of_lem t = subst (λ (ρ : State). Suffix (thread_of ρ t).local.rest (code_of p t)) (sym r.0) (rest_code p v r.1 t)

  left_small : Everywhere (λ n. n < 64) (left_of σ)
  unfolding code_of
  left_small = mapped_all (λ n. n < 64) (λ t. length (thread_of σ t).local.rest) (λ t.
      let a = suffix_length (thread_of σ t).local.rest (code_of p t) (left_of_lem t) in
      let b = everywhere_get_d (λ c. length c ≤ 16) p.threads t [] w.sixteen (omega arith) in
      omega (arith, a, b)) (range 0 6)

  pub heads_small : Everywhere (λ n. n < 64) (late_set p v ∷ left_of σ)
  heads_small = (late_below p v, left_small)

  near_small : Everywhere (λ n. n < 64) (near_sets p σ)
  near_small = mapped_all (λ n. n < 64) (λ t. set_of (near p σ t) 6) (λ t. set_below (near p σ t) 6) (range 0 6)

  values_small : Halves (values_of σ)
  unfolding register_at cell_of memory_of
  values_small =
      let F = fits p w v σ r in
      everywhere_append Word (map (register_at σ) (filter (live_at σ) (range 0 24))) (memory_of σ)
      (mapped_all Word (register_at σ) (λ i. everywhere_get_d Word (thread_of σ (i / 4)).local.registers (i % 4) 0 (F.words (i / 4)).1 (omega arith)) (filter (live_at σ) (range 0 24)))
      (cells_all σ.cells F.memory)

  eight : length (memory_of σ) ≡ 8
  unfolding memory_of
  eight = length-map σ.cells value_of ∙ (traces p w v σ r).regular.eight

  -- THE WORDS: two, and a half for each live register and each of the eight locations; each of 64 bits, the first not 0
  pub words_many : length (words_of (key_of p v σ)) ≡ 2 + (length (filter (live_at σ) (range 0 24)) + 9) / 2
  unfolding words_of
  words_many =
      let L : List ℕ = filter (live_at σ) (range 0 24) in
      let q = length-append (map (register_at σ) L) (memory_of σ) in
      omega (arith, pairs_half (values_of σ), q, length-map L (register_at σ), eight)

  pub words_below : Everywhere (λ n. n < 2 ^ 64) (words_of (key_of p v σ))
  unfolding words_of range
  words_below = (
    (let a = six_bits_below (late_set p v ∷ left_of σ) heads_small in omega (arith, a)),
    ((let a = six_bits_below (near_sets p σ) near_small in omega (arith, a)), pairs_below (values_of σ) values_small),
  )

  pub words_first : (n : ℕ) → get_or (word_key n p v σ) 0 0 ≢ 0
  unfolding words_of padded
  words_first n e = omega arith

-- ---- of two positions with equal words: numbers in front, sets behind, and what is seen of the state
module _ (p : Program) (w : WellFormed p) (v : Schedule) (σ : State) (x : Schedule) (τ : State) (a : Reached SC (start p) v σ) (b : Reached SC (start p) x τ) (n h k : ℕ) (f g : List ℕ)
    (hs : h < 64) (ks : k < 64) (same : padded n (words_of (seen_with h f σ)) ≡ padded n (words_of (seen_with k g τ))) where
  heads : h ∷ left_of σ ≡ k ∷ left_of τ
  unfolding words_of padded range
  heads =
      let e : 2 ^ 63 + six_bits (h ∷ left_of σ) ≡ 2 ^ 63 + six_bits (k ∷ left_of τ) = cc in
      six_bits_once (h ∷ left_of σ) (k ∷ left_of τ) refl (hs, left_small p w v σ a) (ks, left_small p w x τ b) (omega arith)

  pub front_same : h ≡ k
  front_same = let e = heads in cc

  left_same : left_of σ ≡ left_of τ
  left_same = let e = heads in cc

  sets_same : six_bits f ≡ six_bits g
  unfolding words_of padded
  sets_same = cc

  -- the same code is left
  rest_same : (t : ℕ) → (thread_of σ t).local.rest ≡ (thread_of τ t).local.rest
  rest_same t = go (dec_lt t 6)
    where
      at : (ρ : State) → t < 6 → get_or (left_of ρ) t 0 ≡ length (thread_of ρ t).local.rest
      at ρ h = mapped_at (λ i. length (thread_of ρ i).local.rest) 0 6 t h ∙ ap (λ (i : ℕ). length (thread_of ρ i).local.rest) (omega arith)

      none : (y : Schedule) (ρ : State) → Reached SC (start p) y ρ → (t < 6 → ⊥) → (thread_of ρ t).local.rest ≡ no_thread.local.rest
      none y ρ r h = let g = (traces p w y ρ r).regular.six in ap (λ (k : Thread). k.local.rest) (missing ρ t (omega (arith, g)))

      go : Dec (t < 6) → (thread_of σ t).local.rest ≡ (thread_of τ t).local.rest
      go (yes h) = suffix_equal (code_of p t) (thread_of σ t).local.rest (thread_of τ t).local.rest (left_of_lem p w v σ a t) (left_of_lem p w x τ b t)
          (sym (at σ h) ∙ ap (λ (l : List ℕ). get_or l t 0) left_same ∙ at τ h)
      go (no h) = none v σ a h ∙ sym (none x τ b h)

  lives_same : filter (live_at σ) (range 0 24) ≡ filter (live_at τ) (range 0 24)
  unfolding live_at
  lives_same = filter_agree (live_at σ) (live_at τ) (range 0 24) (λ i. ap (λ (c : List Instruction). live 0 c (i % 4)) (rest_same (i / 4)))

  registers_length : length (map (register_at σ) (filter (live_at σ) (range 0 24))) ≡ length (map (register_at τ) (filter (live_at τ) (range 0 24)))
  registers_length = length-map (filter (live_at σ) (range 0 24)) (register_at σ) ∙ ap length lives_same ∙ sym (length-map (filter (live_at τ) (range 0 24)) (register_at τ))

  values_same : values_of σ ≡ values_of τ
  unfolding words_of padded
  values_same =
      let many : length (values_of σ) ≡ length (values_of τ) =
      length-append (map (register_at σ) (filter (live_at σ) (range 0 24))) (memory_of σ) ∙ ap₂ ◌+◌ registers_length (eight p w v σ a ∙ sym (eight p w x τ b))
      ∙ sym (length-append (map (register_at τ) (filter (live_at τ) (range 0 24))) (memory_of τ)) in
      let tails : pairs (values_of σ) ++ replicate (n - length (words_of (seen_with h f σ))) 0 ≡ pairs (values_of τ) ++ replicate (n - length (words_of (seen_with k g τ))) 0 = cc in
      pairs_once (values_of σ) (values_of τ) many (values_small p w v σ a) (values_small p w x τ b)
      (front_once (pairs (values_of σ)) (pairs (values_of τ)) (replicate (n - length (words_of (seen_with h f σ))) 0) (replicate (n - length (words_of (seen_with k g τ))) 0) (pairs_length (values_of σ) (values_of τ) many) tails).0

  parts : (map (register_at σ) (filter (live_at σ) (range 0 24)) ≡ map (register_at τ) (filter (live_at τ) (range 0 24))) × (memory_of σ ≡ memory_of τ)
  parts = front_once (map (register_at σ) (filter (live_at σ) (range 0 24))) (map (register_at τ) (filter (live_at τ) (range 0 24))) (memory_of σ) (memory_of τ) registers_length values_same

  -- a live register holds the same
  register_same : (t r : ℕ) → t < 6 → r < 4 → live 0 (thread_of σ t).local.rest r ≡ true → get_or (thread_of σ t).local.registers r 0 ≡ get_or (thread_of τ t).local.registers r 0
  unfolding live_at register_at
  register_same t r ht hr l =
      let i : ℕ = t * 4 + r in
      let d : i / 4 ≡ t = omega arith in
      let m : i % 4 ≡ r = omega arith in
      let here : live_at σ i ≡ true = ap₂ (λ (y z : ℕ). live 0 (thread_of σ y).local.rest z) d m ∙ l in
      let q = mapped_same (register_at σ) (register_at τ) (filter (live_at σ) (range 0 24)) (parts.0 ∙ ap (map (register_at τ)) (sym lives_same)) i
      (in_filter (live_at σ) (range 0 24) i (in_range_lem 0 24 i (omega arith) (omega arith)) here) in
      sym (ap₂ (λ (y z : ℕ). get_or (thread_of σ y).local.registers z 0) d m) ∙ q ∙ ap₂ (λ (y z : ℕ). get_or (thread_of τ y).local.registers z 0) d m

  local_like : (t : ℕ) → Like (thread_of σ t).local (thread_of τ t).local
  unfolding no_thread
  local_like t = record { rest = rest_same t; registers = (many, λ r l. go r l (dec_lt t 6) (dec_lt r 4)) }
    where
      F : Fits p σ
      F = fits p w v σ a

      many : length (thread_of σ t).local.registers ≡ length (thread_of τ t).local.registers
      many = F.registers t ∙ sym ((fits p w x τ b).registers t)

      -- where there is no register there is 0
      out : (r : ℕ) → length (thread_of σ t).local.registers ≤ r → get_or (thread_of σ t).local.registers r 0 ≡ get_or (thread_of τ t).local.registers r 0
      out r h = get_or-eq_default (thread_of σ t).local.registers 0 {n = r} h ∙ sym (get_or-eq_default (thread_of τ t).local.registers 0 {n = r} (omega (arith, h, many)))

      go : (r : ℕ) → live 0 (thread_of σ t).local.rest r ≡ true → Dec (t < 6) → Dec (r < 4) → get_or (thread_of σ t).local.registers r 0 ≡ get_or (thread_of τ t).local.registers r 0
      go r l (yes ht) (yes hr) = register_same t r ht hr l
      go r l d (no hr) = out r (omega (arith, F.registers t, four p t))
      go r l (no ht) (yes hr) =
          let g = (traces p w v σ a).regular.six in
          let z = ap (λ (k : Thread). length k.local.registers) (missing σ t (omega (arith, g))) in
          out r (omega (arith, z))

  pub view_same : SameView σ τ
  unfolding cell_of memory_of value_of fresh_cell
  view_same = record { threads = local_like; values = λ l. at σ l ∙ ap (λ (vs : List ℕ). get_or vs l 0) parts.1 ∙ sym (at τ l) }
    where
      at : (ρ : State) (l : ℕ) → (cell_of ρ l).value ≡ get_or (memory_of ρ) l 0
      at ρ l = sym (get_or-map value_of ρ.cells l (fresh_cell 0))

-- ---- of two positions that the search meets with equal words
module _ (p : Program) (w : WellFormed p) (v : Schedule) (σ : State) (x : Schedule) (τ : State) (a : Reached SC (start p) v σ) (b : Reached SC (start p) x τ) (n : ℕ)
    (same : word_key n p v σ ≡ word_key n p x τ) where
  seen : SameView σ τ
  seen = view_same p w v σ x τ a b n (late_set p v) (late_set p x) (near_sets p σ) (near_sets p τ) (late_below p v) (late_below p x) same

  nearness_same : near_sets p σ ≡ near_sets p τ
  unfolding range
  nearness_same =
      six_bits_once (near_sets p σ) (near_sets p τ) refl (near_small p w v σ a) (near_small p w x τ b)
      (sets_same p w v σ x τ a b n (late_set p v) (late_set p x) (near_sets p σ) (near_sets p τ) (late_below p v) (late_below p x) same)

  near_same : (t u : ℕ) → near p σ t u ≡ near p τ t u
  near_same t u = equal_tests (near p σ t u) (near p τ t u)
      (λ e. sym (go (near_true p w σ (traces p w v σ a) t u e).1) ∙ e) (λ e. go (near_true p w τ (traces p w x τ b) t u e).1 ∙ e)
    where
      bit : (ρ : State) → t < 6 → u < 6 → has (get_or (near_sets p ρ) t 0) u ≡ near p ρ t u
      bit ρ ht hu = ap (λ (s : ℕ). has s u) (mapped_at (λ i. set_of (near p ρ i) 6) 0 6 t ht) ∙ set_has (near p ρ (0 + t)) 6 u hu ∙ ap (λ (i : ℕ). near p ρ i u) (omega arith)

      go : Together p t u → near p σ t u ≡ near p τ t u
      go line =
          let m = members p w t u line in
          let six = w.six in
          let ht : t < 6 = omega (arith, m.0) in
          let hu : u < 6 = omega (arith, m.1) in
          sym (bit σ ht hu) ∙ ap (λ (l : List ℕ). has (get_or l t 0) u) nearness_same ∙ bit τ ht hu

  pub key_future : SameFuture p v σ x τ
  key_future =
      let S = traces p w v σ a in
      let T = traces p w x τ b in record {
        left = a;
        right = b;
        view = seen;
        late = front_same p w v σ x τ a b n (late_set p v) (late_set p x) (near_sets p σ) (near_sets p τ) (late_below p v) (late_below p x) same;
        there = near_over p w σ τ S T seen near_same;
        back = near_over p w τ σ T S (seen_back σ τ seen) (λ t u. sym (near_same t u));
      }

-- THE KEY DECIDES, with zeros behind it up to any width
pub decides : (p : Program) → WellFormed p → (n : ℕ) → Decides SC (given_up p) breaks (Reached SC (start p)) (word_key n p)
decides p w n = record { R = SameFuture p; bisimulation = same_future p w; related = λ v σ x τ a b e. key_future p w v σ x τ a b n e }

-- where so many words are enough it is as wide as that, and eighteen are always enough
pub as_wide : (p : Program) (n : ℕ) → Wide n p → (v : Schedule) (σ : State) → Reached SC (start p) v σ → length (word_key n p v σ) ≡ n
as_wide p n wide v σ r = padded_length n (words_of (key_of p v σ)) (wide v σ r)

pub eighteen : (p : Program) → WellFormed p → Wide 18 p
eighteen p w v σ r = omega (arith, words_many p w v σ r, filter_length (live_at σ) (range 0 24), range_length 0 24)
