-- What refusal 8 leaves of a `02` line: its members exist, ascend, have equal code, and stand in no group before it.
use Prim.Native.Nat.{ℕ, ◌<◌}
use native.Mathlib.Omega.{arith}
use mathlib.Core.Path.{◌≡◌, refl, sym, ◌∙◌}
use mathlib.Core.Bool.{true, false, not, false≢true, or-true}
use mathlib.Core.List.Memᴰ
use mathlib.Core.List.{List, [], ◌∷◌, ◌++◌, map, Memᴰ}
use lib.ListN.{length}
use lib.Dec.{eqb, ltb}
use borrow.Author.Tests.{eqb-true, ltb-true, lt-ltb, eq-eqb, not-true}
use Rattle.spec_file.specs.Lists.{same_list, Ascends}
use Rattle.spec_file.proofs.Lists.{same_list_is}
use Rattle.spec_file.specs.Frames.{Frame}
use Rattle.spec_file.specs.Decode.{Placed, Reading, thread_at, same_bytes, same_code, among, grouped, member_fits, followers_fit, members_fit}
use Rattle.spec_file.specs.WellFormed.{Everywhere, Apart}
use Rattle.spec_file.proofs.DigitValues.{both}
use Rattle.spec_file.proofs.Everywhere.{everywhere_at, everywhere_all, everywhere_weaken, everywhere_append}

-- ---- equal code
-- the frames of a thread, without their lines' numbers
unfoldable pub frames_of : List Placed → List Frame
frames_of xs = map (λ x. x.code) xs

pub same_frames : (xs ys : List Placed) → same_code xs ys ≡ true → frames_of xs ≡ frames_of ys
unfolding same_code same_bytes same_list frames_of
same_frames [] [] e = refl
same_frames [] (y ∷ ys) e = absurd (false≢true e)
same_frames (x ∷ xs) [] e = absurd (false≢true e)
same_frames (x ∷ xs) (y ∷ ys) e =
    let p = both (same_bytes x y) (same_code xs ys) e in
    let h = same_list_is eqb eqb-true x.code y.code p.0 in
    let t = same_frames xs ys p.1 in
    cc

-- ---- the members of one line
record Follow (r : Reading) (t : ℕ) (us : List ℕ) : Type 0 where
  above : Everywhere (λ u. t < u) us
  ascend : Ascends ltb us
  fit : Everywhere (λ u. member_fits r u ≡ true) us
  equal : Everywhere (λ u. frames_of (thread_at r t) ≡ frames_of (thread_at r u)) us

follow : (r : Reading) (t : ℕ) (us : List ℕ) → followers_fit r t us ≡ true → Follow r t us
unfolding followers_fit
follow r t [] e = record { above = tt; ascend = tt; fit = tt; equal = tt }
follow r t (u ∷ us) e =
    let m = both (member_fits r u) _ e in
    let l = both (ltb t u) _ m.1 in
    let c = both (same_code (thread_at r t) (thread_at r u)) (followers_fit r u us) l.1 in
    let less : t < u = ltb-true t u l.0 in
    let code = same_frames (thread_at r t) (thread_at r u) c.0 in
    let later = follow r u us c.1 in
    let Equal : ℕ → ℕ → Type 0 = λ v w. frames_of (thread_at r v) ≡ frames_of (thread_at r w) in
    record {
      above = (less, everywhere_weaken (λ v. u < v) (λ v. t < v) (λ v h. omega arith) us later.above);
      ascend = ((λ v m. lt-ltb u v (everywhere_at (λ v. u < v) m later.above)), later.ascend);
      fit = (m.0, later.fit);
      equal = (code, everywhere_weaken (Equal u) (Equal t) (λ v h. code ∙ h) us later.equal);
    }

pub record Members (r : Reading) (g : List ℕ) : Type 0 where
  pub ascend : Ascends ltb g
  pub fit : Everywhere (λ t. member_fits r t ≡ true) g
  pub equal : (t u : ℕ) → Memᴰ t g → Memᴰ u g → frames_of (thread_at r t) ≡ frames_of (thread_at r u)

pub members : (r : Reading) (g : List ℕ) → members_fit r g ≡ true → Members r g
unfolding members_fit
members r [] e = record { ascend = tt; fit = tt; equal = λ t u mt mu. absurd (Memᴰ.not-nil mt) }
members r (a ∷ us) e =
    let m = both (member_fits r a) (followers_fit r a us) e in
    let f = follow r a us m.1 in
    let all : Everywhere (λ u. frames_of (thread_at r a) ≡ frames_of (thread_at r u)) (a ∷ us) = (refl, f.equal) in
    record {
      ascend = ((λ v m. lt-ltb a v (everywhere_at (λ v. a < v) m f.above)), f.ascend);
      fit = (m.0, f.fit);
      equal = λ t u mt mu.
          sym (everywhere_at (λ u. frames_of (thread_at r a) ≡ frames_of (thread_at r u)) mt all)
          ∙ everywhere_at (λ u. frames_of (thread_at r a) ≡ frames_of (thread_at r u)) mu all;
    }

pub member_exists : (r : Reading) (t : ℕ) → member_fits r t ≡ true → t < length r.threads
unfolding member_fits
member_exists r t e = ltb-true t (length r.threads) (both (ltb t (length r.threads)) _ e).0

pub member_free : (r : Reading) (t : ℕ) → member_fits r t ≡ true → grouped t r.groups ≡ false
unfolding member_fits
member_free r t e = not-true (grouped t r.groups) (both (ltb t (length r.threads)) (not (grouped t r.groups)) e).1

-- ---- groups apart
pub member_among : {t : ℕ} {g : List ℕ} → Memᴰ t g → among t g ≡ true
unfolding among
member_among {t} (Memᴰ.head {x = x} {xs = xs} e) = rw (eq-eqb t x e)
member_among {t} (Memᴰ.tail {x = x} {xs = xs} m) = rw (member_among m) (or-true (eqb t x))

pub group_grouped : {t : ℕ} {g : List ℕ} {gs : List (List ℕ)} → Memᴰ g gs → Memᴰ t g → grouped t gs ≡ true
unfolding grouped
group_grouped {t} {g} (Memᴰ.head {x = x} {xs = xs} e) m = rw (← e, member_among m)
group_grouped {t} {g} (Memᴰ.tail {x = x} {xs = xs} n) m = rw (group_grouped n m) (or-true (among t x))

apart_append : (gs : List (List ℕ)) (h : List ℕ) → Apart gs
    → Everywhere (λ g. (t : ℕ) → Memᴰ t g → Memᴰ t h → ⊥) gs → Apart (gs ++ (h ∷ []))
apart_append [] h a k = (tt, tt)
apart_append (g ∷ gs) h a k = (
  everywhere_append (λ i. (t : ℕ) → Memᴰ t g → Memᴰ t i → ⊥) gs (h ∷ []) a.0 (k.0, tt),
  apart_append gs h a.1 k.1,
)

pub members_apart : (r : Reading) (h : List ℕ) → Members r h → Apart r.groups → Apart (r.groups ++ (h ∷ []))
members_apart r h f a =
    apart_append r.groups h a
    (everywhere_all (λ g. (t : ℕ) → Memᴰ t g → Memᴰ t h → ⊥) r.groups
    (λ g n t m k.
    false≢true (sym (member_free r t (everywhere_at (λ u. member_fits r u ≡ true) k f.fit)) ∙ group_grouped n m)))
