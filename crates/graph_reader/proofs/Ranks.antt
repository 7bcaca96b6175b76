-- Lines come one after the other exactly if their places do.
use Prim.Native.Nat.{ℕ, ◌+◌, ◌*◌, ◌<◌, ◌≤◌}
use mathlib.Core.Path.{◌≡◌, refl, sym, ◌∙◌}
use mathlib.Core.Bool.{Bool, true, false}
use mathlib.Core.List.{List, [], ◌∷◌}
use native.Mathlib.Omega.{arith}
use borrow.Author.Tests.{lt-ltb, le-ltb, eqb-true, eqb-false, eq-eqb, ne_eqb}
use lib.Dec.{eqb, ltb}
use Rattle.spec_schedules.specs.Lists.{all}
use Rattle.spec_schedules.specs.Order.{less}
use Rattle.spec_schedules.proofs.Order.{less_front, less_heads, more_heads}
use Rattle.spec_schedules.proofs.Lists.{all_at, all_of}
use Rattle.spec_sc.specs.State.{Event}
use Rattle.spec_judge.specs.Reading.{Frame, byte_at, is_read, known, is_event, in_range, key}
use Rattle.graph_reader.specs.Held.{rank_of}
use Rattle.spec_judge.proofs.Readable.{event_is, is_event_lem}
use Rattle.graph_reader.proofs.LineWrites.{same_order}
-- what is known of a line in range
use Rattle.spec_judge.proofs.LineRanges.{read_range, write_range}

-- two lists of one number, or of two
less_one : (i j : ℕ) → less (i ∷ []) (j ∷ []) ≡ ltb i j
unfolding less
less_one i j = go (eqb i j) refl
  where
    go : (b : Bool) → eqb i j ≡ b → less (i ∷ []) (j ∷ []) ≡ ltb i j
    go true q = rw (q, less) (sym (le-ltb i j (let e = eqb-true i j q in omega arith)))
    go false q = rw (q, less)

less_two : (t i u j : ℕ) → i ≤ 15 → j ≤ 15 → less (t ∷ i ∷ []) (u ∷ j ∷ []) ≡ ltb (t * 16 + i + 1) (u * 16 + j + 1)
unfolding less
less_two t i u j a b = go (eqb t u) refl
  where
    go : (c : Bool) → eqb t u ≡ c → less (t ∷ i ∷ []) (u ∷ j ∷ []) ≡ ltb (t * 16 + i + 1) (u * 16 + j + 1)
    go true q = let e = eqb-true t u q in
        rw (q, less) (less_one i j ∙ same_order i j (t * 16 + i + 1) (u * 16 + j + 1) (λ h. omega arith) (λ h. omega arith))
    go false q = rw (q, less) (same_order t u (t * 16 + i + 1) (u * 16 + j + 1) (λ h. omega arith) (λ h. differ h))
      where
        differ : t * 16 + i + 1 < u * 16 + j + 1 → t < u
        differ h = let n = eqb-false t u q in omega (arith, n)

-- the two kinds, by the first byte
pub is_read_lem : (f : Frame) (b : ℕ) → b ≡ byte_at f 0 → b ≡ 0x40 → is_read f ≡ true
unfolding is_read
is_read_lem f b e q = eq-eqb (byte_at f 0) 0x40 (sym e ∙ q)

pub not_read : (f : Frame) (b : ℕ) → b ≡ byte_at f 0 → (b ≡ 0x40 → ⊥) → is_read f ≡ false
unfolding is_read
not_read f b e q = ne_eqb (byte_at f 0) 0x40 (λ h. q (e ∙ h))

-- fewer threads name fewer events
pub events_six : (n : ℕ) → n ≤ 6 → (ws : List Event) → all (is_event n) ws ≡ true → all (is_event 6) ws ≡ true
events_six n few ws h = all_of (is_event 6) ws (λ e m. let k = event_is n e (all_at (is_event n) ws e h m) in is_event_lem 6 e (omega (arith, k.0), k.1))

-- of the two kinds, by cases
module _ (n : ℕ) (few : n ≤ 6) (f g : Frame) (kf : known f ≡ true) (rf : in_range n f ≡ true) (kg : known g ≡ true) (rg : in_range n g ≡ true) where
  pub rank_less : less (key f) (key g) ≡ ltb (rank_of f) (rank_of g)
  unfolding key rank_of
  rank_less = go (is_read f) (is_read g) refl refl
    where
      go : (a b : Bool) → is_read f ≡ a → is_read g ≡ b → less (key f) (key g) ≡ ltb (rank_of f) (rank_of g)
      go true true p q =
          let x = read_range n few f kf rf p in
          let y = read_range n few g kg rg q in
          rw (p, q, x.0, y.0) (less_front 0x40 (byte_at f 1 ∷ byte_at f 2 ∷ []) (byte_at g 1 ∷ byte_at g 2 ∷ []) ∙ less_two (byte_at f 1) (byte_at f 2) (byte_at g 1) (byte_at g 2) x.2 y.2)
      go true false p q =
          let x = read_range n few f kf rf p in
          let y = write_range n few g kg rg q in
          rw (p, q, x.0, y.0) (less_heads 0x40 0x41 (byte_at f 1 ∷ byte_at f 2 ∷ []) (byte_at g 1 ∷ []) (omega arith)
          ∙ sym (lt-ltb (byte_at f 1 * 16 + byte_at f 2 + 1) (byte_at g 1 + 97) (omega (arith, x.1, x.2))))
      go false true p q =
          let x = write_range n few f kf rf p in
          let y = read_range n few g kg rg q in
          rw (p, q, x.0, y.0) (more_heads 0x41 0x40 (byte_at f 1 ∷ []) (byte_at g 1 ∷ byte_at g 2 ∷ []) (omega arith)
          ∙ sym (le-ltb (byte_at f 1 + 97) (byte_at g 1 * 16 + byte_at g 2 + 1) (omega (arith, y.1, y.2))))
      go false false p q =
          let x = write_range n few f kf rf p in
          let y = write_range n few g kg rg q in
          rw (p, q, x.0, y.0) (less_front 0x41 (byte_at f 1 ∷ []) (byte_at g 1 ∷ []) ∙ less_one (byte_at f 1) (byte_at g 1)
          ∙ same_order (byte_at f 1) (byte_at g 1) (byte_at f 1 + 97) (byte_at g 1 + 97) (λ h. omega arith) (λ h. omega arith))
