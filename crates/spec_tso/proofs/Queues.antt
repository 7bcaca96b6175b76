-- Queues: what an access appends leaves the oldest entry as it is, and the look law: a thread finds the same before and after its oldest
-- pending store is moved to memory.
use Prim.Native.Nat.{ℕ}
use mathlib.Core.Path.{◌≡◌, refl}
use mathlib.Core.Logic.{◌≢◌}
use mathlib.Core.Bool.{Bool, true, false, false≢true}
use mathlib.Core.Option.{Option, none, some}
use mathlib.Core.List.{List, [], ◌∷◌, ◌++◌}
use borrow.Author.Tests.{ltb-true, eq-eqb, ne_eqb}
use Rattle.spec_sc.specs.State.{Cell, latest, written}
use Rattle.spec_tso.specs.Queue.{Entry, newest, found_in, newer, oldest_number, oldest_place, oldest_value, movable, is_empty, free}
use Prim.Native.Nat.{◌<◌}

-- the oldest entry stays the oldest
module _ (q w : List Entry) (n : ℕ) (m : movable q n ≡ true) where
  pub newer_front : newer (q ++ w) ≡ newer q ++ w
  unfolding newer movable
  newer_front = go q m
    where
      go : (q : List Entry) → movable q n ≡ true → newer (q ++ w) ≡ newer q ++ w
      go [] e = absurd (false≢true e)
      go (x ∷ q) e = refl

  pub number_front : oldest_number (q ++ w) ≡ oldest_number q
  unfolding oldest_number movable
  number_front = go q m
    where
      go : (q : List Entry) → movable q n ≡ true → oldest_number (q ++ w) ≡ oldest_number q
      go [] e = absurd (false≢true e)
      go (x ∷ q) e = refl

  pub place_front : oldest_place (q ++ w) ≡ oldest_place q
  unfolding oldest_place movable
  place_front = go q m
    where
      go : (q : List Entry) → movable q n ≡ true → oldest_place (q ++ w) ≡ oldest_place q
      go [] e = absurd (false≢true e)
      go (x ∷ q) e = refl

  pub value_front : oldest_value (q ++ w) ≡ oldest_value q
  unfolding oldest_value movable
  value_front = go q m
    where
      go : (q : List Entry) → movable q n ≡ true → oldest_value (q ++ w) ≡ oldest_value q
      go [] e = absurd (false≢true e)
      go (x ∷ q) e = refl

  pub movable_front : movable (q ++ w) n ≡ true
  unfolding movable
  movable_front = go q m
    where
      go : (q : List Entry) → movable q n ≡ true → movable (q ++ w) n ≡ true
      go [] e = absurd (false≢true e)
      go (x ∷ q) e = e

-- the location of an oldest entry that can be moved exists
pub movable_place : (q : List Entry) (n : ℕ) → movable q n ≡ true → oldest_place q < n
unfolding movable oldest_place
movable_place [] n e = absurd (false≢true e)
movable_place (x ∷ q) n e = ltb-true x.location n e

-- with something to move no locked access is free
pub free_movable : (b : Bool) (q : List Entry) (n : ℕ) → movable q n ≡ true → free b q ≡ true → b ≡ false
unfolding movable free is_empty
free_movable true [] n m f = absurd (false≢true m)
free_movable true (x ∷ q) n m f = absurd (false≢true f)
free_movable false q n m f = refl

-- a locked access that is free has an empty queue
pub free_empty : (q : List Entry) → free true q ≡ true → q ≡ []
unfolding free is_empty
free_empty [] f = refl
free_empty (x ∷ q) f = absurd (false≢true f)

-- what is free stays so when the oldest entry goes
pub free_newer : (b : Bool) (q : List Entry) → free b q ≡ true → free b (newer q) ≡ true
unfolding free is_empty newer
free_newer true [] f = f
free_newer true (x ∷ q) f = absurd (false≢true f)
free_newer false q f = refl

-- THE LOOK LAW, at the oldest entry's location: it finds that entry in the queue, or in memory
pub look_here : (t : ℕ) (q : List Entry) (n l : ℕ) (c : Cell) → movable q n ≡ true → oldest_place q ≡ l →
    found_in t (newest (newer q) l) (written (t, oldest_number q) (oldest_value q) c) ≡ found_in t (newest q l) c
unfolding movable oldest_place oldest_number oldest_value newer written newest found_in latest
look_here t [] n l c m e = absurd (false≢true m)
look_here t (x ∷ q) n l c m e = go (newest q l) refl
  where
    go : (o : Option Entry) → newest q l ≡ o → found_in t (newest q l) (written (t, x.number) (some x.value) c) ≡ found_in t (newest (x ∷ q) l) c
    go none i = rw (i, newest, eq-eqb x.location l e)
    go (some f) i = rw (i, newest)

-- a move to another location changes nothing that is found here
pub look_away : (t : ℕ) (q : List Entry) (l : ℕ) (c : Cell) → oldest_place q ≢ l → found_in t (newest (newer q) l) c ≡ found_in t (newest q l) c
unfolding oldest_place newer newest found_in
look_away t [] l c e = refl
look_away t (x ∷ q) l c e = go (newest q l) refl
  where
    go : (o : Option Entry) → newest q l ≡ o → found_in t (newest q l) c ≡ found_in t (newest (x ∷ q) l) c
    go none i = rw (i, newest, ne_eqb x.location l e)
    go (some f) i = rw (i, newest)
