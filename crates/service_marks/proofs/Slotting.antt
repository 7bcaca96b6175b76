-- Slots, one step of a loop at a time: what is left to look at decides.
use Prim.Native.Nat.{ℕ, zero, suc, ◌<◌, ◌+◌}
use mathlib.Core.Path.{◌≡◌, refl, sym, ap, subst, ◌∙◌}
use mathlib.Core.Bool.{Bool, true, false, cond, ◌||◌}
use mathlib.Core.Option.{Option, none, some}
use mathlib.Core.List.{List, [], ◌∷◌}
use Rattle.std.specs.Prelude.{Some, None}
use Rattle.std.specs.Prelude as Code
use Rattle.std.specs.Option.{MatchOption, option_map}
use Rattle.std.specs.List as Rust
use Rattle.std.specs.List.{position_from, list_any, range_with_len}
use native.Mathlib.Omega.{arith}
use lib.ListN.{length, take, get_or}
use Rattle.spec_file.specs.Program.{Program}
use Rattle.spec_schedules.specs.Lists.{range, any, find}
use Rattle.spec_service.specs.declared.caller.Mark.{Mark}
use Rattle.spec_service.specs.Record.{no_mark}
use Rattle.spec_service.specs.Marks.{is_some, mark_place, name_of, bears, slot_of, is_free, slot_for}
use Rattle.service_marks.specs.Numbers.{slot_number}

-- what stands in a list does not go by the default
pub get_d_either : {A : Type 0} (l : List A) (i : ℕ) (d e : A) → i < length l → get_or l i d ≡ get_or l i e
get_d_either [] i d e h = absurd (omega (arith, h))
get_d_either (x ∷ l) zero d e h = refl
get_d_either (x ∷ l) (suc i) d e h = get_d_either l i d e (omega (arith, h))

-- the default that code reads an array of marks with
abbrev pub blank : Mark
blank = record { name = []; length = 0; place = 0; steps = 0; schedule = [] }

-- ---- the library's searches
-- the first slot whose member passes, where the list stands from i on
pub first_passing : {A : Type 0} (p : A → Bool) (g : ℕ → Bool) (l : List A) (d : A) (i : ℕ) → ((k : ℕ) → k < length l → g (i + k) ≡ p (get_or l k d))
    → position_from p i l ≡ slot_number (find g (range i (length l)))
unfolding slot_number find range
first_passing p g [] d i h = refl
first_passing p g (x ∷ l) d i h =
    go (p x) (g i) (ap g (omega arith) ∙ h 0 (omega arith)) (first_passing p g l d (i + 1) (λ k q. ap g (omega arith) ∙ h (suc k) (omega (arith, q))))
  where
    go : (a b : Bool) → b ≡ a → position_from p (i + 1) l ≡ slot_number (find g (range (i + 1) (length l)))
        → cond a (Some i) (position_from p (i + 1) l) ≡ slot_number (elim b [ true ↦ some i | false ↦ find g (range (suc i) (length l)) ])
    go true true e r = refl
    go false false e r = r ∙ ap (λ (j : ℕ). slot_number (find g (range j (length l)))) (omega arith)
    go true false e r = cc
    go false true e r = cc

-- whether some member passes
pub some_passes : {A : Type 0} (p : A → Bool) (l : List A) → list_any p l ≡ any p l
unfolding any
some_passes p [] = refl
some_passes p (x ∷ l) = go (p x) (some_passes p l)
  where
    go : (a : Bool) → list_any p l ≡ any p l → (a || list_any p l) ≡ elim a [ true ↦ true | false ↦ any p l ]
    go true e = refl
    go false e = e

-- the first of the numbers from a on that passes
found_in_range : (p : ℕ → Bool) (a n : ℕ) → Rust.find p (range_with_len a n) ≡ slot_number (find p (range a n))
unfolding slot_number find range
found_in_range p a zero = refl
found_in_range p a (suc n) = go (p a) (found_in_range p (a + 1) n ∙ ap (λ (j : ℕ). slot_number (find p (range j n))) (omega arith))
  where
    go : (b : Bool) → Rust.find p (range_with_len (a + 1) n) ≡ slot_number (find p (range (suc a) n))
        → cond b (Some a) (Rust.find p (range_with_len (a + 1) n)) ≡ slot_number (elim b [ true ↦ some a | false ↦ find p (range (suc a) n) ])
    go true e = refl
    go false e = e

pub first_found : (p : ℕ → Bool) (a n : ℕ) (r : Code.Option ℕ) → option_map (λ x. x) r ≡ Rust.find p (range_with_len a n) → r ≡ slot_number (find p (range a n))
first_found p a n None e = e ∙ found_in_range p a n
first_found p a n (Some x) e = e ∙ found_in_range p a n

-- ---- free marks
module _ (p : Program) (ms : List Mark) (i : ℕ) (m : Mark) (is : m ≡ get_or ms i no_mark) where
  pub free_itself : is_some (mark_place p m) ≡ false → true ≡ is_free p ms i
  unfolding is_free
  free_itself e = let z = ap (λ (x : Mark). is_some (mark_place p x)) (sym is) ∙ e in rw z

  pub free_later : (j : ℕ) → is_some (mark_place p m) ≡ true → j ≡ m.length → any (bears p (take j m.name)) (take i ms) ≡ is_free p ms i
  unfolding is_free name_of
  free_later j e q =
      let z = ap (λ (x : Mark). is_some (mark_place p x)) (sym is) ∙ e in
      ap (λ (k : ℕ). any (bears p (take k m.name)) (take i ms)) q ∙ ap (λ (x : Mark). any (bears p (name_of x)) (take i ms)) is ∙ rw z

-- ---- where a mark goes
-- r is where the name stands, and o is r or, where r is none, what X says
pub slot_either : (p : Program) (n : List ℕ) (ms : List Mark) {X : Type 0} (r o : Code.Option ℕ) → r ≡ slot_number (slot_of p n ms) → MatchOption r X (λ i. o ≡ Some i)
    → (X → o ≡ slot_number (find (is_free p ms) (range 0 8))) → o ≡ slot_number (slot_for p n ms)
unfolding slot_number slot_for
slot_either p n ms {X} r o e w x = go (slot_of p n ms) (subst (λ (r : Code.Option ℕ). MatchOption r X (λ i. o ≡ Some i)) e w)
  where
    go : (s : Option ℕ) → MatchOption (slot_number s) X (λ i. o ≡ Some i) → o ≡ slot_number (elim s [ some i ↦ some i | none ↦ find (is_free p ms) (range 0 8) ])
    go none h = x h
    go (some i) h = h
