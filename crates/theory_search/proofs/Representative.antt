-- The test at a full schedule is exact: it passes exactly where no smaller full schedule is alike. For each permitted exchange the least
-- order of the exchanged run's steps is the least schedule with the exchanged graph.
use Prim.Native.Nat.{ℕ}
use mathlib.Core.Path.{◌≡◌, refl, sym, ap, subst}
use mathlib.Core.Logic.{inl, inr}
use mathlib.Core.Bool.{Bool, true, false, not, true≢false, false≢true}
use mathlib.Core.List.{List, map, Memᴰ}
use Rattle.spec_file.specs.Program.{Program}
use Rattle.spec_schedules.specs.Order.{Schedule, less}
use Rattle.spec_schedules.specs.Permutations.{moved}
use Rattle.spec_schedules.proofs.Lists.{all_at, all_not}
use Rattle.spec_schedules.proofs.Order.{AtMost, less_transitive}
use Rattle.spec_model.specs.Exchange.{Exchange, permitted}
use Rattle.spec_model.specs.Model.{Model, end_of, Full, graph, actions, moved_schedule}
use Rattle.spec_model.specs.Laws.{Admitted, Laws}
use Rattle.spec_model.specs.Alike.{Smaller}
use Rattle.theory_search.specs.ModelSearch.{least_by, representative}
use Rattle.spec_model.proofs.Permitted.{tabled, permitted_exchange, exchange_permitted}
use Rattle.theory_search.proofs.ModelOrders.{least_of, least_with_graph}
use Rattle.spec_model.proofs.Exchanged.{exchanged, exchanged_graph, exchanged_actions}
use Rattle.spec_model.proofs.Alike.{alike_sym}

module _ (M : Model) (L : Laws M) (p : Program) (a : Admitted M p) where
  -- the least schedule with the graph of s exchanged by π
  pub record LeastAlike (π : ℕ → ℕ) (s g : Schedule) : Type 0 where
    pub full : Full M p g
    pub image : M.Renames π (graph M p s) (graph M p g)
    pub least : (r : Schedule) → Full M p r → M.Renames π (graph M p s) (graph M p r) → AtMost g r

  pub least_alike : (s : Schedule) → Full M p s → (π : ℕ → ℕ) → Exchange p π → LeastAlike π s (least_of M L.steps (map (M.moved_action π) (actions M p s)))
  least_alike s f π x =
      let e = exchanged M L p a π x s f in
      let g = exchanged_graph M L p a π x s f in
      let o = least_with_graph M L p a (moved_schedule M π s) e.0 in
      subst (λ (acts : List M.Action). LeastAlike π s (least_of M L.steps acts)) (exchanged_actions M L p a π x s f) (record {
        full = o.0;
        image = subst (M.Renames π (graph M p s)) (sym (ap M.graph_of o.1)) g;
        least = λ r fr t. o.2 r fr ((L.program p a).renamed_once π x s r (moved_schedule M π s) t g);
      })

  pub least_by_lem : (s : Schedule) → Full M p s → (π : List ℕ) → Memᴰ π (permitted p) → LeastAlike (moved π) s (least_by M π (actions M p s))
  unfolding least_by
  least_by_lem s f π m = least_alike s f (moved π) (permitted_exchange p π m)

  not_less : (r s : Schedule) → AtMost r s → (u : Schedule) → less s u ≡ true → less r u ≡ true
  not_less r s (inl e) u l = subst (λ (k : Schedule). less k u ≡ true) (sym e) l
  not_less r s (inr e) u l = less_transitive r s u e l

  -- THE TEST IS EXACT
  pub representative_least : (s : Schedule) → Full M p s → representative M p s ≡ true → Smaller M p s → ⊥
  unfolding representative
  representative_least s f e b =
      let l = alike_sym M L p a b.0 s b.3 in
      let k = exchange_permitted p l.0 l.1 in
      let π : List ℕ = tabled l.0 in
      let g = least_by_lem s f π k.0 in
      let n = all_at (λ π. not (less (least_by M π (actions M p s)) s)) (permitted p) π e k.0 in
      let i = not_less (least_by M π (actions M p s)) b.0 (g.least b.0 b.1 (subst (λ (ρ : ℕ → ℕ). M.Renames ρ (graph M p s) (graph M p b.0)) (sym k.1) l.2)) s b.2 in
      false≢true (rw i at n)

  pub beaten_smaller : (s : Schedule) → Full M p s → representative M p s ≡ false → Smaller M p s
  unfolding representative
  beaten_smaller s f e =
      let x = all_not (λ π. not (less (least_by M π (actions M p s)) s)) (permitted p) e in
      let g = least_by_lem s f x.0 x.1 in
      let r : Schedule = least_by M x.0 (actions M p s) in
      (r, g.full, not_false (less r s) x.2, alike_sym M L p a s r (moved x.0, permitted_exchange p x.0 x.1, g.image))
    where
      not_false : (b : Bool) → not b ≡ false → b ≡ true
      not_false true q = refl
      not_false false q = absurd (true≢false q)
