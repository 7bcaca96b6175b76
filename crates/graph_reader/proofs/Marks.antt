-- The marks of the events that `41` lines have named: what they say, with one event more and with a line more.
use Prim.Native.Nat.{ℕ, zero, suc, ◌+◌, ◌*◌, ◌<◌}
use mathlib.Core.Path.{◌≡◌, refl, sym, ap, ap₂, subst, ◌∙◌}
use mathlib.Core.Logic.{◌≢◌}
use mathlib.Core.Bool.{Bool, true, false, not, ◌&&◌, ◌||◌}
use mathlib.Core.List.{List, [], ◌∷◌, reverse, reverse-reverse, Memᴰ}
use native.Mathlib.Omega.{arith}
use native.Mathlib.Decide.{ℕ_discrete}
use borrow.Author.Tests.{eq-eqb, ne_eqb}
use lib.Dec.{eqb}
use lib.ListN.{length, get_or, set, length-set}
use lib.Seq.{get_or-set_same, get_or-set_other}
use Rattle.spec_schedules.specs.Lists.{any}
use Rattle.spec_schedules.proofs.Lists.{any_yes, any_of, any_cons}
use Rattle.spec_sc.specs.State.{Event}
use Rattle.spec_sc.specs.Same.{same_event}
use Rattle.spec_judge.specs.Reading.{written, all_new}
use Rattle.graph_reader.specs.Held.{Seen, marked_by}
use Rattle.spec_judge.proofs.Readable.{Named, reverse_in}

written_cons : (e : Event) (ws : List Event) (rows : List (List Event)) → written e (ws ∷ rows) ≡ (any (same_event e) ws || written e rows)
unfolding written
written_cons e ws rows = any_cons (λ ws. any (same_event e) ws) ws rows

one_written : (e x : Event) (rows : List (List Event)) → written e ((x ∷ []) ∷ rows) ≡ (same_event e x || written e rows)
unfolding any
one_written e x rows = written_cons e (x ∷ []) rows ∙ ap (λ (b : Bool). b || written e rows) (any_cons (same_event e) x [] ∙ or_false (same_event e x))
  where
    or_false : (b : Bool) → (b || false) ≡ b
    or_false true = refl
    or_false false = refl

same_sym : (a b : Event) → same_event a b ≡ same_event b a
unfolding same_event
same_sym a b = ap₂ ◌&&◌ (eqb_sym a.0 b.0) (eqb_sym a.1 b.1)
  where
    eqb_sym : (x y : ℕ) → eqb x y ≡ eqb y x
    eqb_sym x y = go (ℕ_discrete x y)
      where
        go : Dec (x ≡ y) → eqb x y ≡ eqb y x
        go (yes q) = eq-eqb x y q ∙ sym (eq-eqb y x (sym q))
        go (no q) = ne_eqb x y q ∙ sym (ne_eqb y x (λ e. q (sym e)))

-- ---- no event twice, asked event by event
module _ (e : Event) (rows : List (List Event)) where
  rearranged : (b c d a n : Bool) → (not (b || c) && (not d && (not a && n))) ≡ (not (b || a) && (not c && (not d && n)))
  rearranged true c d a n = refl
  rearranged false true d true n = refl
  rearranged false true d false n = refl
  rearranged false false true true n = refl
  rearranged false false true false n = refl
  rearranged false false false true n = refl
  rearranged false false false false n = refl

  new_behind : (es : List Event) → all_new ((e ∷ []) ∷ rows) es ≡ (not (any (same_event e) es) && all_new rows es)
  unfolding all_new any
  new_behind [] = refl
  new_behind (x ∷ es) =
      ap₂ (λ (u v : Bool). not u && (not (any (same_event x) es) && v)) (one_written x e rows ∙ ap (λ (b : Bool). b || written x rows) (same_sym x e)) (new_behind es)
      ∙ rearranged (same_event e x) (written x rows) (any (same_event x) es) (any (same_event e) es) (all_new rows es)
      ∙ ap (λ (b : Bool). not b && (not (written x rows) && (not (any (same_event x) es) && all_new rows es))) (sym (any_cons (same_event e) x es))

  pub new_first : (es : List Event) → all_new rows (e ∷ es) ≡ (not (written e rows) && all_new ((e ∷ []) ∷ rows) es)
  unfolding all_new
  new_first es = ap (λ (b : Bool). not (written e rows) && b) (sym (new_behind es))

-- ---- marks
same_place : (t i : ℕ) (e : Event) → t ≡ e.0 → i ≡ e.1 → same_event (t, i) e ≡ true
unfolding same_event
same_place t i e p q = rw (eq-eqb t e.0 p, eq-eqb i e.1 q)

other_place : (t i : ℕ) (e : Event) → t * 16 + i ≢ e.0 * 16 + e.1 → same_event (t, i) e ≡ false
unfolding same_event
other_place t i e n = two (ℕ_discrete t e.0) (ℕ_discrete i e.1)
  where
    two : Dec (t ≡ e.0) → Dec (i ≡ e.1) → same_event (t, i) e ≡ false
    two (yes p) (yes q) = absurd (n (omega arith))
    two (yes p) (no q) = rw (eq-eqb t e.0 p, ne_eqb i e.1 q)
    two (no p) q = rw (ne_eqb t e.0 p)

module _ (seen : List Bool) (rows : List (List Event)) (size : length seen ≡ 96) (S : Seen seen rows) where
  -- one event more
  pub seen_more : (e : Event) → Named 6 e → Seen (set seen (e.0 * 16 + e.1) true) ((e ∷ []) ∷ rows)
  seen_more e h t i a b = go (ℕ_discrete (t * 16 + i) (e.0 * 16 + e.1))
    where
      go : Dec (t * 16 + i ≡ e.0 * 16 + e.1) → get_or (set seen (e.0 * 16 + e.1) true) (t * 16 + i) false ≡ written (t, i) ((e ∷ []) ∷ rows)
      go (yes q) =
          ap (λ (k : ℕ). get_or (set seen (e.0 * 16 + e.1) true) k false) q ∙ get_or-set_same seen (e.0 * 16 + e.1) true false (omega (arith, h.0, h.1))
          ∙ sym (one_written (t, i) e rows ∙ ap (λ (b : Bool). b || written (t, i) rows) (same_place t i e (omega (arith, h.1)) (omega (arith, h.1))))
      go (no q) =
          get_or-set_other seen (e.0 * 16 + e.1) (t * 16 + i) true false q ∙ S t i a b
          ∙ sym (one_written (t, i) e rows ∙ ap (λ (b : Bool). b || written (t, i) rows) (other_place t i e q))

-- all events of a line, as one list in front
joined : (x e : Event) (es : List Event) (rows : List (List Event)) → written x (es ∷ (e ∷ []) ∷ rows) ≡ written x ((e ∷ es) ∷ rows)
joined x e es rows =
    written_cons x es ((e ∷ []) ∷ rows) ∙ ap (λ (b : Bool). any (same_event x) es || b) (one_written x e rows)
    ∙ or_exchanged (any (same_event x) es) (same_event x e) (written x rows)
    ∙ sym (written_cons x (e ∷ es) rows ∙ ap (λ (b : Bool). b || written x rows) (any_cons (same_event x) e es))
  where
    or_exchanged : (a b c : Bool) → (a || (b || c)) ≡ ((b || a) || c)
    or_exchanged true true c = refl
    or_exchanged true false c = refl
    or_exchanged false true c = refl
    or_exchanged false false c = refl

pub seen_marked : (ws : List Event) (seen : List Bool) (rows : List (List Event)) → length seen ≡ 96 → Seen seen rows → ((e : Event) → Memᴰ e ws → Named 6 e)
    → Seen (marked_by seen ws) (ws ∷ rows)
unfolding marked_by any
seen_marked [] seen rows size S h t i a b = S t i a b ∙ sym (written_cons (t, i) [] rows)
seen_marked (e ∷ es) seen rows size S h t i a b =
    seen_marked es (set seen (e.0 * 16 + e.1) true) ((e ∷ []) ∷ rows) (length-set seen (e.0 * 16 + e.1) true ∙ size)
    (seen_more seen rows size S e (h e (Memᴰ.head refl))) (λ x m. h x (Memᴰ.tail m)) t i a b
    ∙ joined (t, i) e es rows

-- where a location has no writes yet, its list may stand in front as well as in its place
any_reverse : (x : Event) (ws : List Event) → any (same_event x) (reverse ws) ≡ any (same_event x) ws
any_reverse x ws = go (any (same_event x) (reverse ws)) (any (same_event x) ws) refl refl
  where
    one_way : (vs us : List Event) → ((y : Event) → Memᴰ y vs → Memᴰ y us) → any (same_event x) vs ≡ true → any (same_event x) us ≡ true
    one_way vs us k h = let r = any_yes (same_event x) vs h in any_of (same_event x) us r.0 (k r.0 r.1) r.2

    go : (a b : Bool) → any (same_event x) (reverse ws) ≡ a → any (same_event x) ws ≡ b → any (same_event x) (reverse ws) ≡ any (same_event x) ws
    go true b p q = p ∙ sym (one_way (reverse ws) ws (reverse_in ws) p)
    go false true p q = one_way ws (reverse ws) (λ y m. reverse_in (reverse ws) y (subst (Memᴰ y) (sym (reverse-reverse ws)) m)) q ∙ sym q
    go false false p q = p ∙ sym q

written_set : (x : Event) (ws : List Event) (rows : List (List Event)) (l : ℕ) → l < length rows → get_or rows l [] ≡ []
    → written x (ws ∷ rows) ≡ written x (set rows l (reverse ws))
unfolding any
written_set x ws [] l h e = absurd (omega arith)
written_set x ws (r ∷ rows) zero h e =
    written_cons x ws (r ∷ rows) ∙ ap₂ ◌||◌ (sym (any_reverse x ws)) (written_cons x r rows ∙ ap (λ (r : List Event). any (same_event x) r || written x rows) e)
    ∙ sym (written_cons x (reverse ws) rows)
written_set x ws (r ∷ rows) (suc l) h e =
    written_cons x ws (r ∷ rows) ∙ ap (λ (b : Bool). any (same_event x) ws || b) (written_cons x r rows)
    ∙ swapped (any (same_event x) ws) (any (same_event x) r) (written x rows)
    ∙ ap (λ (b : Bool). any (same_event x) r || b) (sym (written_cons x ws rows) ∙ written_set x ws rows l (omega arith) e)
    ∙ sym (written_cons x r (set rows l (reverse ws)))
  where
    swapped : (a b c : Bool) → (a || (b || c)) ≡ (b || (a || c))
    swapped true true c = refl
    swapped true false c = refl
    swapped false true c = refl
    swapped false false c = refl

pub seen_line : (ws : List Event) (seen : List Bool) (rows : List (List Event)) (l : ℕ) → length seen ≡ 96 → Seen seen rows → ((e : Event) → Memᴰ e ws → Named 6 e)
    → l < length rows → get_or rows l [] ≡ [] → Seen (marked_by seen ws) (set rows l (reverse ws))
seen_line ws seen rows l size S h k e t i a b = seen_marked ws seen rows size S h t i a b ∙ written_set (t, i) ws rows l k e
