-- The size of a class: its graphs are those alike, each once; and times the number of permitted permutations that leave the graph the same
-- it is the number of permitted permutations, since composing with one permutation turns those that leave the graph into those that give one
-- image.
use Prim.Native.Nat.{ℕ, ◌+◌, ◌*◌, ◌≤◌, ◌<◌}
use native.Mathlib.Omega.{arith}
use mathlib.Core.Path.{◌≡◌, refl, sym, ap, subst, fun_ext, ◌∙◌}
use mathlib.Core.Logic.{◌↔◌}
use mathlib.Core.Bool.{Bool, true}
use mathlib.Core.List.Memᴰ
use mathlib.Core.List.{List, map, Memᴰ}
use lib.ListN.{length, length-map}
use Rattle.spec_file.specs.Program.{Program}
use Rattle.spec_schedules.specs.Lists.{range, filter, Distinct}
use Rattle.spec_schedules.specs.Order.{Schedule, less}
use Rattle.spec_schedules.specs.Permutations.{permutations, moved}
use Rattle.spec_schedules.proofs.Order.{less_irreflexive}
use Rattle.spec_schedules.proofs.Lists.{in_filter, of_filter, ascends_filter}
use Rattle.spec_schedules.proofs.Permutations.{permutations_ascend}
use Rattle.spec_schedules.proofs.Numbered.{permutations_length}
use Rattle.spec_schedules.proofs.Group.{moved_same, member_permutation}
use Rattle.spec_model.specs.Exchange.{Exchange, permits, permitted}
use Rattle.spec_model.specs.Model.{Model, Full, graph, moved_schedule}
use Rattle.spec_model.specs.Laws.{Admitted, Laws}
use Rattle.spec_model.specs.Alike.{Alike}
use Rattle.spec_model.specs.ClassSize.{total, same_graph, images, class_graphs, class_size, leaving}
use Rattle.spec_model.proofs.Exchanges.{injective, exchange_none, exchange_back, exchange_both}
use Rattle.spec_model.proofs.Permitted.{tabled, permitted_exchange, exchange_permitted}
use Rattle.spec_model.proofs.Exchanged.{exchanged, exchanged_graph}
use Rattle.spec_model.proofs.Alike.{alike_sym, alike_trans}
use Rattle.spec_model.proofs.Counting.{count, total_of, counted_twice, distinct_within, same_length, distinct_ascends, distinct_filter, distinct_mapped, count_one, different_of, of_different, different_distinct}

-- ---- the permitted permutations
permitted_distinct : (p : Program) → Distinct (permitted p)
unfolding permitted
permitted_distinct p = distinct_filter (permits p.groups) permutations (distinct_ascends less less_irreflexive permutations permutations_ascend)

permitted_six : (p : Program) (π : List ℕ) → Memᴰ π (permitted p) → length π ≡ 6
unfolding permitted
permitted_six p π m = (member_permutation π (of_filter (permits p.groups) permutations π m).0).six

permitted_few : (p : Program) → length (permitted p) ≤ 720
unfolding permitted
permitted_few p = omega (arith, permutations_length, distinct_within (permitted p) permutations (permitted_distinct p) (λ π m. (of_filter (permits p.groups) permutations π m).0))

-- one permitted exchange behind those of the list
module _ (M : Model) (p : Program) (w : Admitted M p) (ρ : ℕ → ℕ) (x : Exchange p ρ) where
  unfoldable behind : List ℕ → List ℕ
  behind π = tabled (λ t. ρ (moved π t))

  behind_is : (π : List ℕ) → Memᴰ π (permitted p) → Memᴰ (behind π) (permitted p) × (moved (behind π) ≡ (λ t. ρ (moved π t)))
  unfolding behind
  behind_is π m = exchange_permitted p (λ t. ρ (moved π t)) (exchange_both p w.0 ρ (moved π) x (permitted_exchange p π m))

  behind_injective : (π σ : List ℕ) → Memᴰ π (permitted p) → Memᴰ σ (permitted p) → behind π ≡ behind σ → π ≡ σ
  behind_injective π σ m n e = moved_same π σ (permitted_six p π m ∙ sym (permitted_six p σ n))
      (λ t. injective ρ x.0 (moved π t) (moved σ t)
      (ap (λ (f : ℕ → ℕ). f t) (sym (behind_is π m).1) ∙ ap (λ (l : List ℕ). moved l t) e ∙ ap (λ (f : ℕ → ℕ). f t) (behind_is σ n).1))

  -- as many pass the second test as pass the first, if it sends these to those
  no_fewer : (f g : List ℕ → Bool) → ((π : List ℕ) → Memᴰ π (permitted p) → f π ≡ true → g (behind π) ≡ true) → count f (permitted p) ≤ count g (permitted p)
  no_fewer f g h =
      omega (
        arith,
        length-map (filter f (permitted p)) behind,
        distinct_within (map behind (filter f (permitted p))) (filter g (permitted p))
            (distinct_mapped behind (filter f (permitted p)) (λ π σ m n. behind_injective π σ (of_filter f (permitted p) π m).0 (of_filter f (permitted p) σ n).0) (distinct_filter f (permitted p) (permitted_distinct p)))
            (λ σ m. let r = Memᴰ.of_map behind (filter f (permitted p)) m in let k = of_filter f (permitted p) r.0 r.1 in
            subst (λ (z : List ℕ). Memᴰ z (filter g (permitted p))) r.2 (in_filter g (permitted p) (behind r.0) (behind_is r.0 k.0).0 (h r.0 k.0 k.1))),
      )

module _ (M : Model) (L : Laws M) (p : Program) (w : Admitted M p) where
  -- ---- the test of equal graphs is exact on schedules' graphs
  abbrev Own : M.Graph → Type 0
  Own g = (a : Schedule) × (graph M p a ≡ g)

  pub same_none : (a b : Schedule) → M.Renames (λ t. t) (graph M p a) (graph M p b) → graph M p a ≡ graph M p b
  same_none a b r = (L.program p w).renamed_once (λ t. t) (exchange_none p) a a b (L.steps.renames_none (graph M p a)) r

  own_reflexive : (g : M.Graph) → Own g → same_graph M g g ≡ true
  unfolding same_graph
  own_reflexive g o = (L.steps.renames_exact (λ t. t) g g).1 (L.steps.renames_none g)

  own_exact : (g h : M.Graph) → Own g → Own h → same_graph M g h ≡ true → g ≡ h
  unfolding same_graph
  own_exact g h a b e =
      sym a.1
      ∙ same_none a.0 b.0 (subst (λ (k : M.Graph). M.Renames (λ t. t) k (graph M p b.0)) (sym a.1) (subst (M.Renames (λ t. t) g) (sym b.1) ((L.steps.renames_exact (λ t. t) g h).0 e)))
      ∙ b.1

  pub same_tested : (a b : Schedule) → graph M p a ≡ graph M p b → same_graph M (graph M p a) (graph M p b) ≡ true
  same_tested a b e = ap (same_graph M (graph M p a)) (sym e) ∙ own_reflexive (graph M p a) (a, refl)

  pub tested_same : (a b : Schedule) → same_graph M (graph M p a) (graph M p b) ≡ true → graph M p a ≡ graph M p b
  tested_same a b e = own_exact (graph M p a) (graph M p b) (a, refl) (b, refl) e

  module _ (s : Schedule) (f : Full M p s) where
    -- the image under a permutation
    abbrev image : List ℕ → M.Graph
    image π = graph M p (moved_schedule M (moved π) s)

    image_renamed : (π : List ℕ) → Memᴰ π (permitted p) → M.Renames (moved π) (graph M p s) (image π)
    image_renamed π m = exchanged_graph M L p w (moved π) (permitted_exchange p π m) s f

    images_own : (g : M.Graph) → Memᴰ g (images M p s) → Own g
    unfolding images
    images_own g m = let r = Memᴰ.of_map image (permitted p) m in (moved_schedule M (moved r.0) s, r.2)

    -- ---- each graph once
    pub class_distinct : Distinct (class_graphs M p s)
    unfolding class_graphs
    class_distinct = different_distinct (same_graph M) Own own_reflexive own_exact (images M p s) images_own

    pub of_class : (g : M.Graph) → Memᴰ g (class_graphs M p s) → (π : List ℕ) × Memᴰ π (permitted p) × (image π ≡ g)
    unfolding class_graphs images
    of_class g m = let r = Memᴰ.of_map image (permitted p) (different_of (same_graph M) Own own_reflexive own_exact (images M p s) images_own g m) in (r.0, r.1, r.2)

    pub image_in_class : (π : List ℕ) → Memᴰ π (permitted p) → Memᴰ (image π) (class_graphs M p s)
    unfolding class_graphs images
    image_in_class π m = of_different (same_graph M) Own own_reflexive own_exact (images M p s) images_own (image π) (Memᴰ.map image m)

    -- the graphs of a class are exactly those alike
    pub in_class : (r : Schedule) → Alike M p s r → Memᴰ (graph M p r) (class_graphs M p s)
    in_class r l =
        let k = exchange_permitted p l.0 l.1 in
        let π = tabled l.0 in
        let x = permitted_exchange p π k.0 in
        let to : M.Renames (moved π) (graph M p s) (graph M p r) = subst (λ (z : ℕ → ℕ). M.Renames z (graph M p s) (graph M p r)) (sym k.1) l.2 in
        subst (λ (z : M.Graph). Memᴰ z (class_graphs M p s)) ((L.program p w).renamed_once (moved π) x s (moved_schedule M (moved π) s) r (image_renamed π k.0) to) (image_in_class π k.0)

    pub class_exact : (g : M.Graph) → Memᴰ g (class_graphs M p s) ↔ ((r : Schedule) × Full M p r × Alike M p s r × (graph M p r ≡ g))
    class_exact g = (
      (λ m.
          let r = of_class g m in
          let x = permitted_exchange p r.0 r.1 in
          (moved_schedule M (moved r.0) s, (exchanged M L p w (moved r.0) x s f).0, (moved r.0, x, image_renamed r.0 r.1), r.2)),
      λ k. subst (λ (z : M.Graph). Memᴰ z (class_graphs M p s)) k.3 (in_class k.0 k.2),
    )

    -- ---- orbit and stabilizer
    leaves : List ℕ → Bool
    leaves π = M.renames (moved π) (graph M p s) (graph M p s)

    -- gives the image that ρ gives
    gives : List ℕ → List ℕ → Bool
    gives ρ π = same_graph M (image π) (image ρ)

    module _ (ρ : List ℕ) (m : Memᴰ ρ (permitted p)) where
      x : Exchange p (moved ρ)
      x = permitted_exchange p ρ m

      -- what leaves the graph, and then ρ
      then_gives : (π : List ℕ) → Memᴰ π (permitted p) → leaves π ≡ true → gives ρ (behind M p w (moved ρ) x π) ≡ true
      unfolding leaves gives
      then_gives π n e =
          let σ = behind M p w (moved ρ) x π in
          let k = behind_is M p w (moved ρ) x π n in
          let fixed = (L.steps.renames_exact (moved π) (graph M p s) (graph M p s)).0 e in
          let both : M.Renames (λ t. moved ρ (moved π t)) (graph M p s) (image ρ) = (L.program p w).renames_both (moved ρ) (moved π) x (permitted_exchange p π n) s s (moved_schedule M (moved ρ) s) fixed (image_renamed ρ m) in
          let to : M.Renames (moved σ) (graph M p s) (image ρ) = subst (λ (z : ℕ → ℕ). M.Renames z (graph M p s) (image ρ)) (sym k.1) both in
          same_tested (moved_schedule M (moved σ) s) (moved_schedule M (moved ρ) s)
          ((L.program p w).renamed_once (moved σ) (permitted_exchange p σ k.0) s (moved_schedule M (moved σ) s) (moved_schedule M (moved ρ) s) (image_renamed σ k.0) to)

      -- what gives ρ's image, and then ρ back
      then_leaves : (π : List ℕ) → Memᴰ π (permitted p) → gives ρ π ≡ true → leaves (behind M p w x.0.inverse (exchange_back p (moved ρ) x) π) ≡ true
      unfolding leaves gives
      then_leaves π n e =
          let y = exchange_back p (moved ρ) x in
          let σ = behind M p w x.0.inverse y π in
          let k = behind_is M p w x.0.inverse y π n in
          let here = tested_same (moved_schedule M (moved π) s) (moved_schedule M (moved ρ) s) e in
          let there : M.Renames (moved π) (graph M p s) (image ρ) = subst (M.Renames (moved π) (graph M p s)) here (image_renamed π n) in
          let back = (L.program p w).renames_back (moved ρ) x s (moved_schedule M (moved ρ) s) (image_renamed ρ m) in
          let both : M.Renames (λ t. x.0.inverse (moved π t)) (graph M p s) (graph M p s) = (L.program p w).renames_both x.0.inverse (moved π) y (permitted_exchange p π n) s (moved_schedule M (moved ρ) s) s there back in
          (L.steps.renames_exact (moved σ) (graph M p s) (graph M p s)).1 (subst (λ (z : ℕ → ℕ). M.Renames z (graph M p s) (graph M p s)) (sym k.1) both)

      -- each image is given as often as the graph is left
      as_often : count (gives ρ) (permitted p) ≡ count leaves (permitted p)
      as_often = omega (arith, no_fewer M p w (moved ρ) x leaves (gives ρ) then_gives, no_fewer M p w x.0.inverse (exchange_back p (moved ρ) x) (gives ρ) leaves then_leaves)

    abbrev Given : List ℕ → M.Graph → Bool
    Given π g = same_graph M (image π) g

    -- each permutation gives one graph of the class
    gives_one : (π : List ℕ) → Memᴰ π (permitted p) → count (Given π) (class_graphs M p s) ≡ 1
    gives_one π m = count_one (Given π) (class_graphs M p s) (image π) class_distinct (image_in_class π m) (same_tested (moved_schedule M (moved π) s) (moved_schedule M (moved π) s) refl)
        (λ g k e. let r = of_class g k in sym (own_exact (image π) g (moved_schedule M (moved π) s, refl) (moved_schedule M (moved r.0) s, r.2) e))

    given_often : (g : M.Graph) → Memᴰ g (class_graphs M p s) → count (λ π. Given π g) (permitted p) ≡ length (leaving M p s)
    unfolding leaving leaves gives
    given_often g m = let r = of_class g m in ap (λ (h : M.Graph). count (λ π. Given π h) (permitted p)) (sym r.2) ∙ as_often r.0 r.1

    -- ORBIT AND STABILIZER
    pub class_times : class_size M p s * length (leaving M p s) ≡ length (permitted p)
    unfolding class_size
    class_times =
        sym (total_of (λ g. count (λ π. Given π g) (permitted p)) (length (leaving M p s)) (class_graphs M p s) given_often)
        ∙ sym (counted_twice Given (permitted p) (class_graphs M p s))
        ∙ total_of (λ π. count (Given π) (class_graphs M p s)) 1 (permitted p) gives_one
        ∙ omega arith

    -- no more than permutations
    pub class_few : class_size M p s < 721
    unfolding class_size class_graphs images
    class_few = omega (arith, permitted_few p, length-map (permitted p) image, distinct_within (class_graphs M p s) (images M p s) class_distinct (λ g m. different_of (same_graph M) Own own_reflexive own_exact (images M p s) images_own g m))

    -- the graph itself is one
    pub class_own : Memᴰ (graph M p s) (class_graphs M p s)
    class_own = in_class s ((λ t. t), exchange_none p, L.steps.renames_none (graph M p s))

  -- alike schedules have the same class
  pub class_alike : (r s : Schedule) → Full M p r → Full M p s → Alike M p r s → class_size M p r ≡ class_size M p s
  unfolding class_size
  class_alike r s f g l = same_length (class_graphs M p r) (class_graphs M p s) (class_distinct r f) (class_distinct s g)
      (λ h m. let k = (class_exact r f h).0 m in (class_exact s g h).1 (k.0, k.1, alike_trans M L p w s r k.0 (alike_sym M L p w r s l) k.2, k.3))
      (λ h m. let k = (class_exact s g h).0 m in (class_exact r f h).1 (k.0, k.1, alike_trans M L p w r s k.0 l k.2, k.3))
