-- Being alike is an equivalence, and its test is exact.
use Prim.Native.Nat.{ℕ}
use mathlib.Core.Path.{◌≡◌, sym, ap, subst}
use mathlib.Core.Logic.{◌↔◌}
use mathlib.Core.Bool.{true}
use Rattle.spec_file.specs.Program.{Program}
use Rattle.spec_schedules.specs.Order.{Schedule}
use Rattle.spec_schedules.specs.Permutations.{moved}
use Rattle.spec_schedules.proofs.Lists.{any_yes, any_of}
use Rattle.spec_model.specs.Exchange.{Exchange, permitted}
use Rattle.spec_model.specs.Model.{Model, end_of, graph}
use Rattle.spec_model.specs.Laws.{Admitted, Laws}
use Rattle.spec_model.specs.Alike.{Alike, alike_by}
use Rattle.spec_model.proofs.AlikeTerms.{alike}
use Rattle.spec_model.proofs.Exchanges.{exchange_none, exchange_back, exchange_both}
use Rattle.spec_model.proofs.Permitted.{tabled, permitted_exchange, exchange_permitted}

module _ (M : Model) (L : Laws M) (p : Program) (w : Admitted M p) where
  pub alike_refl : (a : Schedule) → Alike M p a a
  alike_refl a = ((λ t. t), exchange_none p, L.steps.renames_none (graph M p a))

  pub alike_sym : (a b : Schedule) → Alike M p a b → Alike M p b a
  alike_sym a b l = (l.1.0.inverse, exchange_back p l.0 l.1, (L.program p w).renames_back l.0 l.1 a b l.2)

  pub alike_trans : (a b c : Schedule) → Alike M p a b → Alike M p b c → Alike M p a c
  alike_trans a b c l m =
      ((λ t. m.0 (l.0 t)), exchange_both p w.0 m.0 l.0 m.1 l.1, (L.program p w).renames_both m.0 l.0 m.1 l.1 a b c l.2 m.2)

  -- schedules with one graph are alike
  pub alike_graph : (a b : Schedule) → graph M p a ≡ graph M p b → Alike M p a b
  alike_graph a b e = subst (λ (g : M.Graph). (π : ℕ → ℕ) × Exchange p π × M.Renames π (graph M p a) g) e (alike_refl a)

  -- schedules with one end are alike
  pub alike_end : (a b : Schedule) → end_of M p a ≡ end_of M p b → Alike M p a b
  alike_end a b e = alike_graph a b (ap M.graph_of e)

-- THE TEST
module _ (M : Model) (L : Laws M) (p : Program) where
  pub alike_exact : (a b : Schedule) → (alike M p a b ≡ true) ↔ Alike M p a b
  unfolding alike alike_by
  alike_exact a b = (
    (λ e. let r = any_yes (λ π. M.renames (moved π) (graph M p a) (graph M p b)) (permitted p) e in
        (moved r.0, permitted_exchange p r.0 r.1, (L.steps.renames_exact (moved r.0) (graph M p a) (graph M p b)).0 r.2)),
    λ l. let k = exchange_permitted p l.0 l.1 in
        any_of (λ π. M.renames (moved π) (graph M p a) (graph M p b)) (permitted p) (tabled l.0) k.0
        ((L.steps.renames_exact (moved (tabled l.0)) (graph M p a) (graph M p b)).1 (subst (λ (π : ℕ → ℕ). M.Renames π (graph M p a) (graph M p b)) (sym k.1) l.2)),
  )
