-- The permitted permutations, as a list: each member acts as a permitted exchange, and every permitted exchange is one of them.
use Prim.Native.Nat.{ℕ, ◌<◌}
use mathlib.Core.Path.{◌≡◌, refl, sym, ap, subst, fun_ext, ◌∙◌}
use mathlib.Core.Logic.{◌⊎◌, inl, inr}
use mathlib.Core.Bool.{Bool, true, false, ◌&&◌, ◌||◌}
use mathlib.Core.List.Memᴰ
use mathlib.Core.List.{List, [], map, Memᴰ}
use native.Mathlib.Omega.{arith}
use native.Mathlib.Decide.{dec_lt}
use lib.Dec.{eqb}
use lib.ListN.{length, get_or, length-map, get_or-map, get_or-eq_default}
use borrow.Author.Tests.{eqb-true, eq-eqb}
use Rattle.spec_file.specs.Program.{Program}
use Rattle.spec_file.proofs.DigitValues.{both}
use Rattle.spec_file.proofs.Tests.{either}
use Rattle.spec_schedules.specs.Lists.{range, any}
use Rattle.spec_schedules.specs.Permutations.{permutations, moved}
use Rattle.spec_schedules.proofs.PermutationTerms as Lists6
use Rattle.spec_schedules.proofs.Lists.{in_range_lem, of_range, any_yes, any_of, all_at, all_of, in_filter, of_filter}
use Rattle.spec_schedules.proofs.Permutations.{permutations_complete}
use Rattle.spec_schedules.proofs.Group.{get_d_any, distinct_map, moved_same, identity_moved, identity_member, member_permutation, inverse_left, inverse_right, moved_below, moved_above}
use Rattle.spec_model.specs.Exchange.{Permutation, Together, Exchange, together, permits, permitted}
use Rattle.spec_model.proofs.Exchanges.{injective, only_identity}

-- one of two tests
pub or_left : (a b : Bool) → a ≡ true → (a || b) ≡ true
or_left a b e = rw e

pub or_right : (a b : Bool) → b ≡ true → (a || b) ≡ true
or_right true b e = refl
or_right false b e = e

both_and : {a b : Bool} → a ≡ true → b ≡ true → (a && b) ≡ true
both_and e f = rw (e, f)

member_test : (t : ℕ) (g : List ℕ) → any (eqb t) g ≡ true → Memᴰ t g
member_test t g e = let r = any_yes (eqb t) g e in subst (λ (x : ℕ). Memᴰ x g) (sym (eqb-true t r.0 r.2)) r.1

test_member : (t : ℕ) (g : List ℕ) → Memᴰ t g → any (eqb t) g ≡ true
test_member t g m = any_of (eqb t) g t m (eq-eqb t t refl)

pub together_true : (p : Program) (t u : ℕ) → together p.groups t u ≡ true → Together p t u
unfolding together
together_true p t u e =
    let r = any_yes (λ g. any (eqb t) g && any (eqb u) g) p.groups e in
    let k = both (any (eqb t) r.0) (any (eqb u) r.0) r.2 in
    (r.0, r.1, member_test t r.0 k.0, member_test u r.0 k.1)

pub true_together : (p : Program) (t u : ℕ) → Together p t u → together p.groups t u ≡ true
unfolding together
true_together p t u k = any_of (λ g. any (eqb t) g && any (eqb u) g) p.groups k.0 k.1 (both_and (test_member t k.0 k.2) (test_member u k.0 k.3))

abbrev stay_test : Program → List ℕ → ℕ → Bool
stay_test p π t = eqb (moved π t) t || together p.groups t (moved π t)

-- a member acts as a permitted exchange
pub permitted_exchange : (p : Program) (π : List ℕ) → Memᴰ π (permitted p) → Exchange p (moved π)
unfolding permitted permits
permitted_exchange p π m = (
  record { inverse = moved (Lists6.inverse π); inverse_after = inverse_left π k.0; after_inverse = inverse_right π k.0; below = moved_below π k.0; stays = moved_above π k.0 },
  λ t. at t (dec_lt t 6),
)
  where
    k : Memᴰ π permutations × (permits p.groups π ≡ true)
    k = of_filter (permits p.groups) permutations π m

    split : (t : ℕ) → (eqb (moved π t) t ≡ true) ⊎ (together p.groups t (moved π t) ≡ true) → (moved π t ≡ t) ⊎ Together p t (moved π t)
    split t (inl e) = inl (eqb-true (moved π t) t e)
    split t (inr e) = inr (together_true p t (moved π t) e)

    at : (t : ℕ) → Dec (t < 6) → (moved π t ≡ t) ⊎ Together p t (moved π t)
    at t (yes h) = split t (either (eqb (moved π t) t) (together p.groups t (moved π t)) (all_at (stay_test p π) (range 0 6) t k.1 (in_range_lem 0 6 t (omega arith) h)))
    at t (no h) = inl (moved_above π k.0 t (omega arith))

-- every permutation of six as a list
unfoldable pub tabled : (ℕ → ℕ) → List ℕ
tabled π = map π (range 0 6)

six : length (range 0 6) ≡ 6
six = (member_permutation (range 0 6) identity_member).six

tabled_moved : (π : ℕ → ℕ) → Permutation π → (t : ℕ) → moved (tabled π) t ≡ π t
unfolding tabled
tabled_moved π q t = go (dec_lt t 6)
  where
    size : length (map π (range 0 6)) ≡ 6
    size = length-map (range 0 6) π ∙ six

    go : Dec (t < 6) → get_or (map π (range 0 6)) t t ≡ π t
    go (yes h) = get_d_any (map π (range 0 6)) t t (π t) (omega (arith, size)) ∙ get_or-map π (range 0 6) t t ∙ ap π (identity_moved t)
    go (no h) = get_or-eq_default (map π (range 0 6)) t {n = t} (omega (arith, size)) ∙ sym (q.stays t (omega arith))

tabled_member : (π : ℕ → ℕ) → Permutation π → Memᴰ (tabled π) permutations
unfolding tabled
tabled_member π q = permutations_complete (map π (range 0 6)) (record {
  six = length-map (range 0 6) π ∙ six;
  below = λ x m. let r = Memᴰ.of_map π (range 0 6) m in subst (λ (z : ℕ). z < 6) r.2 (q.below r.0 (of_range 0 6 r.0 r.1).1);
  distinct = distinct_map π (injective π q) (range 0 6) (member_permutation (range 0 6) identity_member).distinct;
})

-- every permitted exchange is a member
pub exchange_permitted : (p : Program) (π : ℕ → ℕ) → Exchange p π → Memᴰ (tabled π) (permitted p) × (moved (tabled π) ≡ π)
unfolding permitted permits
exchange_permitted p π x = (
  in_filter (permits p.groups) permutations (tabled π) (tabled_member π x.0) (all_of (stay_test p (tabled π)) (range 0 6) (λ t m. subst (λ (u : ℕ). (eqb u t || together p.groups t u) ≡ true) (sym (tabled_moved π x.0 t)) (at t (x.1 t)))),
  fun_ext (tabled_moved π x.0),
)
  where
    at : (t : ℕ) → (π t ≡ t) ⊎ Together p t (π t) → (eqb (π t) t || together p.groups t (π t)) ≡ true
    at t (inl e) = or_left (eqb (π t) t) _ (eq-eqb (π t) t e)
    at t (inr k) = or_right (eqb (π t) t) _ (true_together p t (π t) k)

-- with no `02` line only the identity is permitted
pub permitted_none : (p : Program) → p.groups ≡ [] → (π : List ℕ) → Memᴰ π (permitted p) → π ≡ range 0 6
unfolding permitted
permitted_none p e π m =
    let k = of_filter (permits p.groups) permutations π m in
    let x = permitted_exchange p π m in
    moved_same π (range 0 6) ((member_permutation π k.0).six ∙ sym six) (λ t. only_identity p (moved π) e x.1 t ∙ sym (identity_moved t))
