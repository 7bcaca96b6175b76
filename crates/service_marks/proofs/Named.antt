-- Whether a mark counts by itself, and whether it bears a name, way by way of the code.
use Prim.Native.Nat.{ℕ, ◌≤◌}
use mathlib.Core.Path.{◌≡◌, refl, sym, ap, ◌∙◌}
use mathlib.Core.Bool.{Bool, true, false, cond, not, false≢true, true≢false, ◌&&◌}
use mathlib.Core.Option.{Option, none, some}
use mathlib.Core.List.{List, [], ◌∷◌}
use Rattle.std.specs.Cmp.Lexicographic.{pointwise}
use lib.Dec.{eqb}
use lib.ListN.{take}
use Rattle.spec_file.specs.Lists.{same_list}
use Rattle.spec_file.specs.Program.{Program}
use Rattle.spec_service.specs.declared.caller.Mark.{Mark}
use Rattle.spec_service.specs.Seat.{Place}
use Rattle.spec_service.specs.Record.{place_of}
use Rattle.spec_service.specs.Marks.{is_some, same_name, name_fits, mark_place, name_of, bears}
use Rattle.service_record.specs.Tested.{is_place}
use Rattle.service_marks.proofs.Foremost.{fits_most}

-- ---- names
-- the library's equality of two names
pub same_bytes : (a b : List ℕ) → pointwise eqb a b ≡ same_name a b
unfolding same_list
same_bytes [] [] = refl
same_bytes [] (y ∷ b) = refl
same_bytes (x ∷ a) [] = refl
same_bytes (x ∷ a) (y ∷ b) = ap (λ (t : Bool). eqb x y && t) (same_bytes a b)

-- ---- the place of a mark
pub some_place : (o : Option Place) → is_place o ≡ is_some o
unfolding is_place is_some
some_place none = refl
some_place (some x) = refl

module _ (p : Program) (m : Mark) where
  -- v is whether the name's length and the place's number serve
  pub place_fit : (v : Bool) → v ≡ (name_fits m.length && not (eqb m.place 3)) → v ≡ true → is_place (place_of p m.place m.steps m.schedule) ≡ is_some (mark_place p m)
  unfolding mark_place
  place_fit v e t = go (name_fits m.length) (eqb m.place 3) (sym e ∙ t)
    where
      go : (a b : Bool) → (a && not b) ≡ true → is_place (place_of p m.place m.steps m.schedule) ≡ is_some (cond a (cond b none (place_of p m.place m.steps m.schedule)) none)
      go true false h = some_place (place_of p m.place m.steps m.schedule)
      go true true h = absurd (false≢true h)
      go false b h = absurd (false≢true h)

  pub place_unfit : (v : Bool) → v ≡ (name_fits m.length && not (eqb m.place 3)) → v ≡ false → v ≡ is_some (mark_place p m)
  unfolding mark_place is_some
  place_unfit v e t = t ∙ go (name_fits m.length) (eqb m.place 3) (sym e ∙ t)
    where
      go : (a b : Bool) → (a && not b) ≡ false → false ≡ is_some (cond a (cond b none (place_of p m.place m.steps m.schedule)) none)
      go true false h = absurd (true≢false h)
      go true true h = refl
      go false b h = refl

  pub placed_short : is_some (mark_place p m) ≡ true → m.length ≤ 8
  unfolding mark_place is_some
  placed_short e = go (name_fits m.length) refl e
    where
      go : (t : Bool) → name_fits m.length ≡ t → is_some (cond t (cond (eqb m.place 3) none (place_of p m.place m.steps m.schedule)) none) ≡ true → m.length ≤ 8
      go true q h = fits_most m.length q
      go false q h = absurd (false≢true h)

  -- ---- its name
  pub bears_not : (n : List ℕ) → is_some (mark_place p m) ≡ false → false ≡ bears p n m
  unfolding bears
  bears_not n e = rw e

  pub bears_same : (n : List ℕ) (j : ℕ) → is_some (mark_place p m) ≡ true → j ≡ m.length → pointwise eqb (take j m.name) n ≡ bears p n m
  unfolding bears name_of
  bears_same n j e q = rw e (same_bytes (take j m.name) n ∙ ap (λ (i : ℕ). same_name (take i m.name) n) q)
