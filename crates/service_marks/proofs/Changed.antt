-- Marks emptied and set, one step of a loop at a time.
use Prim.Native.Nat.{ℕ, zero, suc, ◌<◌, ◌+◌}
use mathlib.Core.Path.{◌≡◌, sym, ap, subst, ◌∙◌}
use mathlib.Core.Bool.{true, false, cond, false≢true, true≢false}
use mathlib.Core.Option.{Option, none, some}
use mathlib.Core.List.{List, map}
use native.Mathlib.Omega.{arith}
use borrow.Author.Tests.{eq-eqb, ne_eqb}
use lib.ListN.{length, get_or, replicate, get_or-map}
use Rattle.std.proofs.lemmas.List.{length-map, ext_get_or}
use denote.Param.Members.{Mut}
use Rattle.std.specs.Fn.{Called}
use Rattle.std.specs.Array.{MapsFrom, IsMapOf}
use Rattle.spec_file.specs.Over.{over}
use Rattle.spec_file.specs.Program.{Program}
use Rattle.spec_service.specs.declared.caller.Caller.{Caller}
use Rattle.spec_service.specs.declared.caller.Mark.{Mark}
use Rattle.spec_service.specs.Seat.{Place}
use Rattle.spec_service.specs.Record.{place_of, no_mark}
use Rattle.spec_service.specs.Marks.{is_some, bears, last_handed, mark_at, new_mark}
use Rattle.service_record.specs.Tested.{is_place}
use Rattle.service_marks.proofs.Named.{some_place}

-- ---- a function over an array, call by call
module _ {F A B : Type 0} (g : Mut F (A × Unit {0}) B) (h : A → B) (f : F) (each : (x : A) (y : B) (q : F) → Called g f (x, tt) y q → (q ≡ f) × (y ≡ h x)) (xs : List A) (ys : List B) (d : A) where
  -- from place i on
  mapped_from : (i n : ℕ) → MapsFrom g f xs ys i n → (k : ℕ) → k < n → get_or ys (i + k) (h d) ≡ h (get_or xs (i + k) d)
  mapped_from i zero m k b = absurd (omega (arith, b))
  mapped_from i (suc n) m zero b =
      let z : i ≡ i + 0 = omega arith in
      subst (λ (j : ℕ). get_or ys j (h d) ≡ h (get_or xs j d)) z (m.4.1 (h d) ∙ (each m.1 m.2 m.0 m.5).1 ∙ sym (ap h (m.3.1 d)))
  mapped_from i (suc n) m (suc k) b =
      let z : i + 1 + k ≡ i + suc k = omega arith in
      subst (λ (j : ℕ). get_or ys j (h d) ≡ h (get_or xs j d)) z (mapped_from (i + 1) n (subst (λ (q : F). MapsFrom g q xs ys (i + 1) n) (each m.1 m.2 m.0 m.5).0 m.6) k (omega (arith, b)))

  pub mapped : (n : ℕ) → length xs ≡ n → IsMapOf g f xs ys n → ys ≡ map h xs
  mapped n l m = ext_get_or (h d) ys (map h xs) (m.long ∙ sym l ∙ sym (length-map xs h)) at
    where
      at : (k : ℕ) → k < length ys → get_or ys k (h d) ≡ get_or (map h xs) k (h d)
      at k b =
          let z : 0 + k ≡ k = omega arith in
          subst (λ (j : ℕ). get_or ys j (h d) ≡ h (get_or xs j d)) z (mapped_from 0 n m.each k (omega (arith, b, m.long))) ∙ sym (get_or-map h xs k d)

-- the marks of this name are emptied
abbrev pub emptying : Program → List ℕ → Mark → Mark
emptying p n m = cond (bears p n m) no_mark m

-- ---- the last schedule handed
module _ (p : Program) (c : Caller) where
  pub handed_place : c.handed ≡ 1 → is_place (place_of p 2 c.size c.newest) ≡ is_some (last_handed p c)
  unfolding last_handed
  handed_place e = rw (eq-eqb c.handed 1 e) (some_place (place_of p 2 c.size c.newest))

  pub handed_not : (c.handed ≡ 1 → ⊥) → false ≡ is_some (last_handed p c)
  unfolding last_handed is_some
  handed_not d = rw (ne_eqb c.handed 1 d)

-- ---- a new mark
module _ (n : List ℕ) (c : Caller) (b : List ℕ) (k : ℕ) (e : b ≡ over n (replicate 8 0)) (q : k ≡ length n) where
  pub new_behind : (o : Option Place) → is_some o ≡ true → record { name = b; length = k; place = 2; steps = c.size; schedule = c.newest } ≡ new_mark n c o
  unfolding new_mark mark_at is_some
  new_behind none h = absurd (false≢true h)
  new_behind (some x) h = λ i. record { name = e i; length = q i; place = 2; steps = c.size; schedule = c.newest }

  pub new_first : (o : Option Place) → is_some o ≡ false → (m : Mark) → m ≡ no_mark → record { name = b; length = k; place = 1; steps = m.steps; schedule = m.schedule } ≡ new_mark n c o
  unfolding new_mark mark_at is_some no_mark
  new_first none h m f = λ i. record { name = e i; length = q i; place = 1; steps = (f i).steps; schedule = (f i).schedule }
  new_first (some x) h m f = absurd (true≢false h)
