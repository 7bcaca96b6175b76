-- The table of kinds, as rules that hold for every first byte. A rule is a test that is computed over the table once;
-- `kind_rule` says that what passes on each row, and on the row of an unknown byte, passes on the kind of every byte.
use Prim.Native.Nat.{ℕ, ◌≤◌}
use native.Mathlib.Omega.{arith}
use mathlib.Core.Path.{◌≡◌, refl, sym}
use mathlib.Core.Logic.{◌⊎◌, inl, inr}
use mathlib.Core.Bool.{Bool, true, false, cond, ◌&&◌, ◌||◌, or-true}
use mathlib.Core.List.{List, [], ◌∷◌}
use lib.ListN.{length}
use lib.Dec.{eqb, leb}
use borrow.Author.Tests.{eqb-true, leb-true}
use Rattle.spec_file.specs.declared.kind.Kind.{Kind}
use Rattle.spec_file.specs.Kinds.{row, kinds, lookup, kind_of}
use Rattle.spec_file.specs.Frames.{Frame, byte, kind, known, declares}
use Rattle.spec_file.proofs.DigitValues.{both}
use Rattle.spec_file.proofs.Tests.{either, second}

-- a test passes on every row
unfoldable pub every_row : (Kind → Bool) → List Kind → Bool
every_row test [] = true
every_row test (k ∷ ks) = test k && every_row test ks

find_rule : (test : Kind → Bool) (b : ℕ) (ks : List Kind) → every_row test ks ≡ true → test (row b 1 0 0 0 0 0 0) ≡ true → test (lookup ks b) ≡ true
unfolding every_row lookup
find_rule test b [] h u = u
find_rule test b (k ∷ ks) h u =
    let parts = both (test k) (every_row test ks) h in
    go (eqb b k.byte) parts.0 (find_rule test b ks parts.1 u)
  where
    go : (t : Bool) → test k ≡ true → test (lookup ks b) ≡ true → test (cond t k (lookup ks b)) ≡ true
    go true here later = here
    go false here later = later

pub kind_rule : (test : Kind → Bool) (b : ℕ) → every_row test kinds ≡ true → test (row b 1 0 0 0 0 0 0) ≡ true → test (kind_of b) ≡ true
unfolding kind_of
kind_rule test b h u = find_rule test b kinds h u

-- a row is found under its own byte
find_byte : (b : ℕ) (ks : List Kind) → (lookup ks b).byte ≡ b
unfolding lookup
find_byte b [] = refl
find_byte b (k ∷ ks) = go (eqb b k.byte) refl (find_byte b ks)
  where
    go : (t : Bool) → eqb b k.byte ≡ t → (lookup ks b).byte ≡ b → (cond t k (lookup ks b)).byte ≡ b
    go true e i = sym (eqb-true b k.byte e)
    go false e i = i

pub kind_byte : (b : ℕ) → (kind_of b).byte ≡ b
unfolding kind_of
kind_byte b = find_byte b kinds

-- ---- where fields stand and how long frames are
-- positions are at most 8, a frame has 1 to 13 bytes, and only `02` has frames of unequal length
unfoldable pub bounded : Kind → Bool
bounded k =
    leb k.register 8 && (leb k.location 8 && (leb k.first 8 && (leb k.second 8 && (leb k.skip 8
    && (leb 1 k.least && (leb k.most 13 && (eqb k.byte 2 || leb k.most k.least)))))))

pub record Bounded (k : Kind) : Type 0 where
  pub register : k.register ≤ 8
  pub location : k.location ≤ 8
  pub first : k.first ≤ 8
  pub second : k.second ≤ 8
  pub skip : k.skip ≤ 8
  pub least : 1 ≤ k.least
  pub most : k.most ≤ 13
  pub one_size : eqb k.byte 2 ≡ false → k.most ≤ k.least

every_row_bounded : every_row bounded kinds ≡ true
unfolding every_row bounded kinds
every_row_bounded = refl

unknown_bounded : (b : ℕ) → bounded (row b 1 0 0 0 0 0 0) ≡ true
unfolding bounded
unknown_bounded b = or-true (eqb b 2)

bounds : (k : Kind) → bounded k ≡ true → Bounded k
unfolding bounded
bounds k h =
    let r = both (leb k.register 8) _ h in
    let l = both (leb k.location 8) _ r.1 in
    let p = both (leb k.first 8) _ l.1 in
    let q = both (leb k.second 8) _ p.1 in
    let s = both (leb k.skip 8) _ q.1 in
    let a = both (leb 1 k.least) _ s.1 in
    let z = both (leb k.most 13) _ a.1 in
    record {
      register = leb-true k.register 8 r.0;
      location = leb-true k.location 8 l.0;
      first = leb-true k.first 8 p.0;
      second = leb-true k.second 8 q.0;
      skip = leb-true k.skip 8 s.0;
      least = leb-true 1 k.least a.0;
      most = leb-true k.most 13 z.0;
      one_size = λ e. leb-true k.most k.least (second (eqb k.byte 2) (leb k.most k.least) z.1 e);
    }

pub kind_bounds : (b : ℕ) → Bounded (kind_of b)
kind_bounds b = bounds (kind_of b) (kind_rule bounded b every_row_bounded (unknown_bounded b))

-- a kind other than `02` has frames of one length, or, where the byte is unknown, of none
unfoldable pub one_size : Kind → Bool
one_size k = eqb k.byte 2 || (eqb k.least k.most || (eqb k.least 1 && eqb k.most 0))

every_row_one_size : every_row one_size kinds ≡ true
unfolding every_row one_size kinds
every_row_one_size = refl

unknown_one_size : (b : ℕ) → one_size (row b 1 0 0 0 0 0 0) ≡ true
unfolding one_size
unknown_one_size b = or-true (eqb b 2)

sizes : (k : Kind) → one_size k ≡ true → eqb k.byte 2 ≡ false → (k.least ≡ k.most) ⊎ ((k.least ≡ 1) × (k.most ≡ 0))
unfolding one_size
sizes k h d = go (either (eqb k.least k.most) (eqb k.least 1 && eqb k.most 0) (second (eqb k.byte 2) _ h d))
  where
    go : (eqb k.least k.most ≡ true) ⊎ ((eqb k.least 1 && eqb k.most 0) ≡ true) → (k.least ≡ k.most) ⊎ ((k.least ≡ 1) × (k.most ≡ 0))
    go (inl e) = inl (eqb-true k.least k.most e)
    go (inr e) =
        let p = both (eqb k.least 1) (eqb k.most 0) e in
        inr (eqb-true k.least 1 p.0, eqb-true k.most 0 p.1)

pub kind_sizes : (b : ℕ) → eqb b 2 ≡ false → ((kind_of b).least ≡ (kind_of b).most) ⊎ (((kind_of b).least ≡ 1) × ((kind_of b).most ≡ 0))
kind_sizes b d = sizes (kind_of b) (kind_rule one_size b every_row_one_size (unknown_one_size b)) (rw (kind_byte b) d)

-- ---- frames of a known kind
pub known_range : (f : Frame) → known f ≡ true → ((kind f).least ≤ length f) × (length f ≤ (kind f).most)
unfolding known
known_range f h =
    let e = both (leb (kind f).least (length f)) (leb (length f) (kind f).most) h in
    (leb-true (kind f).least (length f) e.0, leb-true (length f) (kind f).most e.1)

pub known_one : (f : Frame) → known f ≡ true → 1 ≤ length f
unfolding kind
known_one f h = let r = known_range f h in let k = kind_bounds (byte f 0) in omega arith

pub known_13 : (f : Frame) → known f ≡ true → length f ≤ 13
unfolding kind
known_13 f h = let r = known_range f h in let k = kind_bounds (byte f 0) in omega arith

-- only `02` has frames of unequal length
pub known_length : (f : Frame) → known f ≡ true → declares f ≡ false → length f ≡ (kind f).most
unfolding kind declares
known_length f h d =
    let r = known_range f h in
    let k = kind_bounds (byte f 0) in
    let s = k.one_size (rw (kind_byte (byte f 0)) d) in
    omega arith
