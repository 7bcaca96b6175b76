-- The sizes of the classes sum to the list of the same program without groups: every full schedule is full there too, each graph is one
-- listed schedule there, and the classes divide them. So it is of the members that pass a test which tells no alike ones apart.
use Prim.Native.Nat.{ℕ, ◌*◌}
use native.Mathlib.Omega.{arith}
use mathlib.Core.Path.{◌≡◌, refl, sym, ap, subst, fun_ext, ◌∙◌}
use mathlib.Core.Option.{none}
use mathlib.Core.Bool.{Bool, true}
use mathlib.Core.List.Memᴰ
use mathlib.Core.List.{List, [], map, Memᴰ}
use lib.ListN.{length, length-map}
use Rattle.spec_file.specs.Program.{Program}
use Rattle.spec_file.specs.Ungrouped.{ungrouped}
use Rattle.spec_file.proofs.Ungrouped.{ungrouped_well_formed}
use Rattle.spec_schedules.specs.Lists.{filter, Distinct}
use Rattle.spec_schedules.specs.Order.{Schedule, less}
use Rattle.spec_schedules.specs.System.{run, FullFrom}
use Rattle.spec_schedules.specs.Permutations.{moved}
use Rattle.spec_schedules.proofs.Order.{less_irreflexive}
use Rattle.spec_schedules.proofs.Lists.{in_filter, of_filter}
use Rattle.spec_model.specs.Model.{Model, end_of, Full, graph, moved_schedule}
use Rattle.spec_model.specs.Laws.{Admitted, Laws}
use Rattle.spec_model.specs.Alike.{Alike, list_of}
use Rattle.spec_model.proofs.AlikeTerms.{alike}
use Rattle.spec_model.specs.ClassSize.{total, class_graphs, class_size}
use Rattle.spec_model.specs.Classes.{GroupsUnseen}
use Rattle.spec_model.proofs.Exchanges.{only_identity}
use Rattle.spec_model.proofs.Permitted.{permitted_exchange}
use Rattle.spec_model.proofs.Exchanged.{exchanged, exchanged_graph}
use Rattle.spec_model.proofs.Alike.{alike_refl, alike_sym, alike_trans, alike_graph, alike_exact}
use Rattle.spec_model.proofs.TheList.{list_ascends, list_exact, one_each}
use Rattle.spec_model.proofs.Counting.{count, keeps_all, total_same, total_of, counted_twice, same_length, distinct_ascends, distinct_filter, distinct_mapped, count_one}
use Rattle.spec_model.proofs.ClassSize.{same_none, class_distinct, in_class, class_exact}

list_distinct : (M : Model) (L : Laws M) (p : Program) → Distinct (list_of M p)
list_distinct M L p = distinct_ascends less less_irreflexive (list_of M p) (list_ascends M L p)

module _ (M : Model) (L : Laws M) (U : GroupsUnseen M) (p : Program) (w : Admitted M p) where
  -- the program without groups is listed too
  pub admitted_too : Admitted M (ungrouped p)
  admitted_too = (ungrouped_well_formed p w.0, U.away p ∙ w.1)

  -- the schedules of the program without groups run as before
  full_here : (s : Schedule) → Full M (ungrouped p) s → Full M p s
  full_here s f = subst (λ (σ : M.system.State). FullFrom M.system σ s) (U.start p) f

  full_there : (s : Schedule) → Full M p s → Full M (ungrouped p) s
  full_there s f = subst (λ (σ : M.system.State). FullFrom M.system σ s) (sym (U.start p)) f

  pub same_end : (s : Schedule) → end_of M (ungrouped p) s ≡ end_of M p s
  same_end s = ap (λ (σ : M.system.State). run M.system σ s) (U.start p)

  graph_there : (s : Schedule) → graph M (ungrouped p) s ≡ graph M p s
  graph_there s = ap M.graph_of (same_end s)

  -- two are alike there exactly if they have one graph
  alike_there : (a b : Schedule) → Alike M (ungrouped p) a b → graph M p a ≡ graph M p b
  unfolding ungrouped
  alike_there a b l =
      let e : l.0 ≡ (λ t. t) = fun_ext (λ t. only_identity (ungrouped p) l.0 refl l.1.1 t) in
      let r : M.Renames (λ t. t) (graph M (ungrouped p) a) (graph M (ungrouped p) b) = subst (λ (π : ℕ → ℕ). M.Renames π (graph M (ungrouped p) a) (graph M (ungrouped p) b)) e l.2 in
      sym (graph_there a) ∙ same_none M L (ungrouped p) admitted_too a b r ∙ graph_there b

  there_alike : (a b : Schedule) → graph M p a ≡ graph M p b → Alike M (ungrouped p) a b
  there_alike a b e = alike_graph M L (ungrouped p) admitted_too a b (graph_there a ∙ e ∙ sym (graph_there b))

  -- each graph is one listed schedule there
  listed_once : (a b : Schedule) → Memᴰ a (list_of M (ungrouped p)) → Memᴰ b (list_of M (ungrouped p)) → graph M p a ≡ graph M p b → a ≡ b
  listed_once a b m n e =
      let c = one_each M L (ungrouped p) admitted_too b ((list_exact M L (ungrouped p) b).0 n).0 in
      c.3 a m (there_alike a b e) ∙ sym (c.3 b n (alike_refl M L (ungrouped p) admitted_too b))

  module _ (f : Schedule → Bool) (blind : (r s : Schedule) → Full M p r → Full M p s → Alike M p r s → f r ≡ f s) where
    abbrev here : List Schedule
    here = filter f (list_of M p)

    abbrev there : List Schedule
    there = filter f (list_of M (ungrouped p))

    full_of : (s : Schedule) → Memᴰ s there → Full M p s
    full_of s m = full_here s ((list_exact M L (ungrouped p) s).0 (of_filter f (list_of M (ungrouped p)) s m).0).0

    -- of a listed one: as many alike are listed there as its class has graphs
    class_there : (r : Schedule) → Memᴰ r here → count (alike M p r) there ≡ class_size M p r
    unfolding class_size
    class_there r m =
        sym (length-map (filter (alike M p r) there) (graph M p))
        ∙ same_length (map (graph M p) (filter (alike M p r) there)) (class_graphs M p r)
        (distinct_mapped (graph M p) (filter (alike M p r) there) (λ a b j k. listed_once a b (member a j) (member b k)) (distinct_filter (alike M p r) there (distinct_filter f (list_of M (ungrouped p)) (list_distinct M L (ungrouped p)))))
        (class_distinct M L p w r full) to from
      where
        full : Full M p r
        full = ((list_exact M L p r).0 (of_filter f (list_of M p) r m).0).0

        member : (a : Schedule) → Memᴰ a (filter (alike M p r) there) → Memᴰ a (list_of M (ungrouped p))
        member a j = (of_filter f (list_of M (ungrouped p)) a (of_filter (alike M p r) there a j).0).0

        to : (g : M.Graph) → Memᴰ g (map (graph M p) (filter (alike M p r) there)) → Memᴰ g (class_graphs M p r)
        to g j =
            let k = Memᴰ.of_map (graph M p) (filter (alike M p r) there) j in
            subst (λ (h : M.Graph). Memᴰ h (class_graphs M p r)) k.2 (in_class M L p w r full k.0 ((alike_exact M L p r k.0).0 (of_filter (alike M p r) there k.0 k.1).1))

        from : (g : M.Graph) → Memᴰ g (class_graphs M p r) → Memᴰ g (map (graph M p) (filter (alike M p r) there))
        from g j =
            let k = (class_exact M L p w r full g).0 j in
            let c = one_each M L (ungrouped p) admitted_too k.0 (full_there k.0 k.1) in
            let y = c.0 in
            let e : graph M p y ≡ graph M p k.0 = alike_there y k.0 c.2 in
            let l : Alike M p r y = alike_trans M L p w r k.0 y k.2 (alike_graph M L p w k.0 y (sym e)) in
            let fy : Full M p y = full_here y ((list_exact M L (ungrouped p) y).0 c.1).0 in
            let passes : f y ≡ true = sym (blind r y full fy l) ∙ (of_filter f (list_of M p) r m).1 in
            subst (λ (h : M.Graph). Memᴰ h (map (graph M p) (filter (alike M p r) there))) (e ∙ k.3)
            (Memᴰ.map (graph M p) (in_filter (alike M p r) there y (in_filter f (list_of M (ungrouped p)) y c.1 passes) ((alike_exact M L p r y).1 l)))

    -- of one that is listed there: it is alike to exactly one listed one
    one_here : (y : Schedule) → Memᴰ y there → count (λ r. alike M p r y) here ≡ 1
    one_here y m =
        let fy = full_of y m in
        let c = one_each M L p w y fy in
        let fr = ((list_exact M L p c.0).0 c.1).0 in
        let passes : f c.0 ≡ true = blind c.0 y fr fy c.2 ∙ (of_filter f (list_of M (ungrouped p)) y m).1 in
        count_one (λ r. alike M p r y) here c.0 (distinct_filter f (list_of M p) (list_distinct M L p)) (in_filter f (list_of M p) c.0 c.1 passes) ((alike_exact M L p c.0 y).1 c.2)
        (λ q k e. c.3 q (of_filter f (list_of M p) q k).0 ((alike_exact M L p q y).0 e))

    -- THE CLASSES DIVIDE WHAT IS LISTED THERE
    pub class_sum_of : total (class_size M p) here ≡ length there
    class_sum_of =
        sym (total_same (λ r. count (alike M p r) there) (class_size M p) here class_there)
        ∙ counted_twice (alike M p) here there
        ∙ total_of (λ y. count (λ r. alike M p r y) here) 1 there one_here
        ∙ omega arith

  -- the sizes of the classes over the whole list
  pub class_sum : total (class_size M p) (list_of M p) ≡ length (list_of M (ungrouped p))
  class_sum = ap (total (class_size M p)) (sym (keeps_all (list_of M p))) ∙ class_sum_of (λ s. true) (λ r s f g l. refl) ∙ ap length (keeps_all (list_of M (ungrouped p)))
