-- The writes of a `41` line, met one after the other.
use Prim.Native.Nat.{ℕ, zero, suc, ◌+◌, ◌*◌, ◌-◌, ◌/◌, ◌%◌, ◌<◌, ◌≤◌}
use mathlib.Core.Path.{◌≡◌, refl, sym, ap, ap₂, ◌∙◌}
use mathlib.Core.Bool.{Bool, true, false, cond}
use mathlib.Core.List.{List, [], ◌∷◌}
use native.Mathlib.Numerals.{add-one, add-two}
use native.Mathlib.Omega.{arith}
use borrow.Author.Tests.{ltb-true, ltb-false, lt-ltb, le-ltb}
use lib.Dec.{ltb}
use lib.ListN.{length, get_or, drop, drop_of_length-le, length-drop, get_or-eq_default}
use lib.Seq.{drop-cons, get_or-drop}
use Rattle.spec_sc.specs.State.{Event}
use Rattle.spec_sc.specs.Text.{events_in}
use Rattle.spec_judge.specs.Reading.{Frame, byte_at, writes_in}
use Rattle.graph_reader.specs.Held.{no_line, byte_or}

-- two comparisons of which each follows from the other
pub same_order : (a b c d : ℕ) → (a < b → c < d) → (c < d → a < b) → ltb a b ≡ ltb c d
same_order a b c d f g = go (ltb a b) (ltb c d) refl refl
  where
    go : (x y : Bool) → ltb a b ≡ x → ltb c d ≡ y → ltb a b ≡ ltb c d
    go true y p q = p ∙ sym (lt-ltb c d (f (ltb-true a b p)))
    go false true p q = lt-ltb a b (g (ltb-true c d q)) ∙ sym q
    go false false p q = p ∙ sym q

-- byte 2 k and the one behind it are an event
module _ (f : Frame) (k : ℕ) where
  pub event_here : 2 * k + 1 < length f → events_in (drop (2 * k) f) ≡ (byte_at f (2 * k), byte_at f (2 * k + 1)) ∷ events_in (drop (2 * (k + 1)) f)
  unfolding events_in
  event_here h =
      let e : 2 * (k + 1) ≡ 2 * k + 2 = omega arith in
      ap events_in (drop-cons f (2 * k) 0 (omega arith) ∙ ap (λ (r : List ℕ). get_or f (2 * k) 0 ∷ r) (drop-cons f (suc (2 * k)) 0 (omega arith)))
      ∙ rw (e, add-one (2 * k), add-two (2 * k))

  pub no_event : length f ≤ 2 * k → events_in (drop (2 * k) f) ≡ []
  unfolding events_in
  no_event h = ap events_in (drop_of_length-le f {i = 2 * k} h)

-- how many there are
events_length : (l : List ℕ) → length (events_in l) ≡ length l / 2
unfolding events_in
events_length [] = refl
events_length (t ∷ []) = refl
events_length (t ∷ i ∷ l) = let e = events_length l in omega arith

pub writes_length : (f : Frame) → 4 ≤ length f → length (writes_in f) ≡ length f / 2 - 1
unfolding writes_in
writes_length f h = events_length (drop 2 f) ∙ (let e = length-drop 2 f in omega arith)

-- write q stands in bytes 2 q + 2 and 2 q + 3
event_in : (l : List ℕ) (q : ℕ) → 2 * q + 1 < length l → get_or (events_in l) q no_line ≡ (get_or l (2 * q) 0, get_or l (2 * q + 1) 0)
unfolding events_in
event_in [] q h = absurd (omega arith)
event_in (t ∷ []) q h = absurd (omega arith)
event_in (t ∷ i ∷ l) zero h = refl
event_in (t ∷ i ∷ l) (suc q) h =
    let a : 2 * suc q ≡ suc (suc (2 * q)) = omega arith in
    let b : 2 * suc q + 1 ≡ suc (suc (2 * q + 1)) = omega arith in
    event_in l q (omega arith) ∙ rw (b, a)

event_at : (l : List ℕ) (q : ℕ) → length l % 2 ≡ 0 → get_or (events_in l) q no_line ≡ (byte_or l (2 * q), byte_or l (2 * q + 1))
unfolding byte_or no_line
event_at l q h = go (ltb (2 * q) (length l)) refl
  where
    go : (b : Bool) → ltb (2 * q) (length l) ≡ b → get_or (events_in l) q no_line ≡ (byte_or l (2 * q), byte_or l (2 * q + 1))
    go true e =
        let k = ltb-true (2 * q) (length l) e in
        let j : 2 * q + 1 < length l = omega arith in
        event_in l q j ∙ rw (e, lt-ltb (2 * q + 1) (length l) j)
    go false e =
        let k = ltb-false (2 * q) (length l) e in
        get_or-eq_default (events_in l) no_line (let n = events_length l in omega arith) ∙ rw (e, le-ltb (2 * q + 1) (length l) (omega arith))

pub write_at : (f : Frame) (q : ℕ) → 4 ≤ length f → length f % 2 ≡ 0 → get_or (writes_in f) q no_line ≡ (byte_or f (2 * q + 2), byte_or f (2 * q + 2 + 1))
unfolding writes_in byte_or
write_at f q h e =
    let n = length-drop 2 f in
    event_at (drop 2 f) q (omega arith) ∙ ap₂ (λ (x y : ℕ). let z : Event = (x, y) in z) (later (2 * q) (2 * q + 2) (omega arith)) (later (2 * q + 1) (2 * q + 2 + 1) (omega arith))
  where
    later : (k j : ℕ) → j ≡ 2 + k → byte_or (drop 2 f) k ≡ byte_or f j
    later k j q = ap₂ (λ (b : Bool) (x : ℕ). cond b x 254) (same_order k (length (drop 2 f)) j (length f) (λ a. let n = length-drop 2 f in omega arith) (λ a. let n = length-drop 2 f in omega arith))
        (get_or-drop 2 f k 0 ∙ ap (λ (m : ℕ). get_or f m 0) (sym q))
