-- How many registers are live at a position: of each thread no more than in the row where it stands.
use Prim.Native.Nat.{ℕ, zero, suc, ◌+◌, ◌*◌, ◌/◌, ◌%◌, ◌<◌, ◌≤◌}
use mathlib.Core.Path.{◌≡◌, refl, sym, ap, ap₂, subst, ◌∙◌}
use mathlib.Core.Bool.{Bool, true, false, false≢true}
use mathlib.Core.List.{List, [], ◌∷◌, ◌++◌}
use native.Mathlib.Omega.{arith}
use native.Mathlib.Decide.{ℕ_discrete, dec_lt}
use Rattle.std.specs.List.{count_by, range_with_len}
use lib.ListN.{length, get_or, drop, length-append, drop_of_length-le, get_or-eq_default}
use lib.Seq.{drop_at}
use Rattle.spec_file.specs.Program.{Program, code_of}
use Rattle.spec_file.specs.declared.instruction.Instruction.{Instruction}
use Rattle.file_rows.specs.Rows.{thread_code}
use Rattle.machine.specs.Held.{Loaded}
use Rattle.machine.proofs.HeldStart.{threads_held, code_held, short_held}
use Rattle.machine_access.proofs.HeldSettling.{code_end}
use Rattle.spec_schedules.specs.Lists.{range, filter}
use Rattle.spec_schedules.specs.Order.{Schedule}
use Rattle.spec_schedules.specs.Sets.{has}
use Rattle.spec_schedules.proofs.Kept.{filter_append}
use Rattle.spec_sc.specs.State.{State, SC, start, thread_of}
use Rattle.spec_sc.proofs.Histories.{rest_code}
use Rattle.spec_sc.proofs.Suffix.{Suffix}
use Rattle.theory_sc.specs.Sets.{addend}
use Rattle.theory_sc.proofs.Sets.{set_has}
use Rattle.theory_sc_key.specs.Registers.{live}
use Rattle.theory_sc_key.specs.Key.{live_at, key_of, words_of}
use Rattle.theory_sc_key.proofs.Decides.{words_many}
use Rattle.theory_states.specs.Positions.{Reached}
use Rattle.states_live.specs.Live.{Live, Stands}
use Rattle.states_live.proofs.LiveRows.{live_end, addend_cond}

-- ---- members of a stretch of numbers that pass a test
one_more : (f : ℕ → Bool) (x : ℕ) (l : List ℕ) → length (filter f (x ∷ l)) ≡ addend (f x) 1 + length (filter f l)
unfolding filter addend
one_more f x l = go (f x) refl
  where
    go : (b : Bool) → f x ≡ b → length (filter f (x ∷ l)) ≡ addend (f x) 1 + length (filter f l)
    go true e = rw (e, filter, addend) (omega arith)
    go false e = rw (e, filter, addend) (omega arith)

-- the four registers, counted by the library
pub four_counted : (f : ℕ → Bool) → count_by f (range_with_len 0 4) ≡ length (filter f (range 0 4))
unfolding range filter
four_counted f =
    omega (
      arith,
      one_more f 0 (1 ∷ 2 ∷ 3 ∷ []),
      one_more f 1 (2 ∷ 3 ∷ []),
      one_more f 2 (3 ∷ []),
      one_more f 3 [],
      addend_cond (f 0) 1,
      addend_cond (f 1) 1,
      addend_cond (f 2) 1,
      addend_cond (f 3) 1,
    )

addend_below : (a b : Bool) → (a ≡ true → b ≡ true) → addend a 1 ≤ addend b 1
unfolding addend
addend_below true b h = subst (λ (x : Bool). 1 ≤ addend x 1) (sym (h refl)) (omega arith)
addend_below false b h = omega arith

-- no more pass than pass a weaker test on another stretch
fewer : (f g : ℕ → Bool) (n a b : ℕ) → ((i : ℕ) → i < n → f (a + i) ≡ true → g (b + i) ≡ true) → length (filter f (range a n)) ≤ length (filter g (range b n))
unfolding range filter
fewer f g zero a b h = omega arith
fewer f g (suc n) a b h =
    let z : a + 0 ≡ a = omega arith in
    let y : b + 0 ≡ b = omega arith in
    let first : f a ≡ true → g b ≡ true = λ e. sym (ap g y) ∙ h 0 (omega arith) (ap f z ∙ e) in
    let rest = fewer f g n (suc a) (suc b) (λ i l e.
    let w : suc b + i ≡ b + suc i = omega arith in
    let x : a + suc i ≡ suc a + i = omega arith in
    ap g w ∙ h (suc i) (omega arith) (ap f x ∙ e)) in
    omega (arith, one_more f a (range (suc a) n), one_more g b (range (suc b) n), addend_below (f a) (g b) first, rest)

pub range_split : (a m n : ℕ) → range a (m + n) ≡ range a m ++ range (a + m) n
unfolding range
range_split a zero n =
    let z : a ≡ a + 0 = omega arith in
    let y : 0 + n ≡ n = omega arith in
    ap₂ range z y
range_split a (suc m) n =
    let z : suc m + n ≡ suc (m + n) = omega arith in
    let y : suc a + m ≡ a + suc m = omega arith in
    ap (range a) z ∙ ap (λ (l : List ℕ). a ∷ l) (range_split (suc a) m n ∙ ap (λ (k : ℕ). range (suc a) m ++ range k n) y)

-- the most in one of the first rows of a thread, one row more
pub most_more : (masks : List ℕ) (t i most n r : ℕ) → ((j : ℕ) → j < i → length (filter (has (get_or masks (t * 16 + j) 0)) (range 0 4)) ≤ most)
    → n ≡ length (filter (has (get_or masks (t * 16 + i) 0)) (range 0 4)) → most ≤ r → n ≤ r → (j : ℕ) → j < i + 1 → length (filter (has (get_or masks (t * 16 + j) 0)) (range 0 4)) ≤ r
most_more masks t i most n r below en a b j h = go (ℕ_discrete j i)
  where
    go : Dec (j ≡ i) → length (filter (has (get_or masks (t * 16 + j) 0)) (range 0 4)) ≤ r
    go (yes e) = subst (λ (k : ℕ). length (filter (has (get_or masks (t * 16 + k) 0)) (range 0 4)) ≤ r) (sym e) (omega (arith, en, b))
    go (no e) = omega (arith, below j (omega (arith, h, e)), a)

-- ---- each thread stands in a row that has its live registers
abbrev pub Covers : List ℕ → List Instruction → ℕ → Type 0
Covers masks rest t = (i : ℕ) × (i < 16) × ((r : ℕ) → r < 4 → live 0 rest r ≡ true → has (get_or masks (t * 16 + i) 0) r ≡ true)

abbrev pub Covered : List ℕ → State → Type 0
Covered masks σ = (t : ℕ) → t < 6 → Covers masks (thread_of σ t).local.rest t

pub live_none : (σ : State) (t sum : ℕ) → t ≡ 0 → length (filter (live_at σ) (range 0 (4 * t))) ≤ sum
unfolding range filter
live_none σ t sum e = rw e (omega arith)

-- one thread more
pub live_more : (masks : List ℕ) (σ : State) → Covered masks σ → (t sum most : ℕ) → t < 6 → length (filter (live_at σ) (range 0 (4 * t))) ≤ sum
    → ((i : ℕ) → i < 16 → length (filter (has (get_or masks (t * 16 + i) 0)) (range 0 4)) ≤ most) → length (filter (live_at σ) (range 0 (4 * (t + 1)))) ≤ sum + most
unfolding live_at
live_more masks σ covered t sum most h below most-of =
    let c = covered t h in
    let z : 4 * (t + 1) ≡ 4 * t + 4 = omega arith in
    let y : 0 + 4 * t ≡ 4 * t = omega arith in
    let split : range 0 (4 * (t + 1)) ≡ range 0 (4 * t) ++ range (4 * t) 4 = ap (range 0) z ∙ range_split 0 (4 * t) 4 ∙ ap (λ (k : ℕ). range 0 (4 * t) ++ range k 4) y in
    let both = ap (λ (l : List ℕ). length (filter (live_at σ) l)) split ∙ ap length (filter_append (live_at σ) (range 0 (4 * t)) (range (4 * t) 4)) ∙ length-append (filter (live_at σ) (range 0 (4 * t))) (filter (live_at σ) (range (4 * t) 4)) in
    let own = fewer (live_at σ) (has (get_or masks (t * 16 + c.0) 0)) 4 (4 * t) 0 (λ r l e.
    let d : (4 * t + r) / 4 ≡ t = omega arith in
    let m : (4 * t + r) % 4 ≡ r = omega arith in
    let w : 0 + r ≡ r = omega arith in
    ap (has (get_or masks (t * 16 + c.0) 0)) w ∙ c.2 r l (sym (ap₂ (λ (y z : ℕ). live 0 (thread_of σ y).local.rest z) d m) ∙ e)) in
    omega (arith, both, own, most-of c.0 c.1, below)

-- ---- of a program
covers_nothing : (masks : List ℕ) (rest : List Instruction) (t : ℕ) → rest ≡ [] → Covers masks rest t
covers_nothing masks rest t e = (0, omega arith, λ r h l. absurd (false≢true (sym (ap (λ (c : List Instruction). live 0 c r) e ∙ live_end r) ∙ l)))

module _ (code lengths masks : List ℕ) (threads : ℕ) (p : Program) (loaded : Loaded code lengths threads p) (lives : Live code lengths masks) where
  -- an end of a thread's code
  end_covered : (t : ℕ) → t < 6 → get_or lengths t 0 ≤ 16 → (front rest : List Instruction) → thread_code code t (get_or lengths t 0) ≡ front ++ rest → Covers masks rest t
  end_covered t h short front rest whole = go (dec_lt (length front) (get_or lengths t 0))
    where
      behind : drop (length front) (thread_code code t (get_or lengths t 0)) ≡ rest
      behind = ap (drop (length front)) whole ∙ drop_at front rest (length front) refl

      go : Dec (length front < get_or lengths t 0) → Covers masks rest t
      go (yes l) = (
        length front,
        omega (arith, l, short),
        λ r i e. ap (λ (s : ℕ). has s r) (lives.rows t (length front) h l short) ∙ set_has (live 0 (drop (length front) (thread_code code t (get_or lengths t 0)))) 4 r i ∙ ap (λ (c : List Instruction). live 0 c r) behind ∙ e,
      )
      go (no l) = covers_nothing masks rest t (sym behind ∙ code_end code t (get_or lengths t 0) (length front) (omega (arith, l)))

  pub covered : (σ : State) → Stands p σ → Covered masks σ
  unfolding code_of
  covered σ stands t h = go (dec_lt t threads)
    where
      rest : List Instruction
      rest = (thread_of σ t).local.rest

      go : Dec (t < threads) → Covers masks (thread_of σ t).local.rest t
      go (yes b) = end_covered t h (short_held code lengths threads p loaded t b) (stands t).0 rest (sym (code_held code lengths threads p loaded t b) ∙ (stands t).1)
      go (no b) =
          let front : List Instruction = (stands t).0 in
          let none : code_of p t ≡ [] = get_or-eq_default p.threads [] {n = t} (omega (arith, b, threads_held code lengths threads p loaded)) in
          covers_nothing masks rest t (sym (drop_at front rest (length front) refl) ∙ ap (drop (length front)) (sym (stands t).1 ∙ none) ∙ drop_of_length-le [] {i = length front} (omega arith))

  module _ (v : Schedule) (σ : State) (reached : Reached SC (start p) v σ) where
    pub stands_reached : Stands p σ
    stands_reached t = subst (λ (τ : State). Suffix (thread_of τ t).local.rest (code_of p t)) (sym reached.0) (rest_code p v reached.1 t)

    -- the words of the key
    pub words_within : (sum : ℕ) → length (filter (live_at σ) (range 0 24)) ≤ sum → length (words_of (key_of p v σ)) ≤ 2 + (9 + sum) / 2
    words_within sum h = omega (arith, words_many p loaded.well_formed v σ reached, h)
