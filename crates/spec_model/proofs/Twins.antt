-- R2 IS SOUND: where a permitted exchange leaves the state behind a prefix as it is, a byte that it makes smaller need not go next, since
-- every full schedule that takes it has the exchanged one, which is smaller.
use Prim.Native.Nat.{ℕ, ◌<◌}
use mathlib.Core.Path.{◌≡◌, sym, ap, subst, ◌∙◌}
use mathlib.Core.Bool.{true}
use mathlib.Core.List.{List, [], ◌∷◌, ◌++◌}
use Rattle.spec_file.specs.Program.{Program}
use Rattle.spec_schedules.specs.Order.{Schedule, less}
use Rattle.spec_schedules.specs.System.{run}
use Rattle.spec_schedules.proofs.Order.{less_heads, less_behind}
use Rattle.spec_schedules.proofs.Runs.{run_append, full_join, full_split}
use Rattle.spec_model.specs.Exchange.{Exchange}
use Rattle.spec_model.specs.Model.{Model, end_of, Full, moved_schedule}
use Rattle.spec_model.specs.Laws.{Admitted, Laws}
use Rattle.spec_model.specs.Alike.{Alike, Smaller}
use Rattle.spec_model.proofs.Exchanged.{moves_full}
use Rattle.spec_model.proofs.Alike.{alike_sym}

module _ (M : Model) (L : Laws M) (p : Program) (a : Admitted M p) where
  -- behind a state that the exchange leaves as it is, what comes next can be exchanged
  pub fixed_alike : (v : Schedule) (π : ℕ → ℕ) → Exchange p π → M.Moves π (end_of M p v) (end_of M p v) → (z : Schedule) → Full M p (v ++ z) →
      Full M p (v ++ moved_schedule M π z) × Alike M p (v ++ moved_schedule M π z) (v ++ z)
  fixed_alike v π x fix z f =
      let S = M.system in
      let σ : S.State = end_of M p v in
      let rest : Schedule = moved_schedule M π z in
      let s = full_split S (M.start p) v z f in
      let r = moves_full M L π x.0 z σ σ fix s.1 in
      let ends = subst (λ (τ : S.State). M.Moves π τ (end_of M p (v ++ rest))) (sym (run_append S (M.start p) v z)) (subst (M.Moves π (run S σ z)) (sym (run_append S (M.start p) v rest)) r.1) in (
        full_join S (M.start p) v rest s.0 r.0,
        alike_sym M L p a (v ++ z) (v ++ rest) (π, x, (L.exchange π x.0 (end_of M p (v ++ z)) (end_of M p (v ++ rest)) ends).graph),
      )

  pub twin_smaller : (v : Schedule) (π : ℕ → ℕ) → Exchange p π → M.Moves π (end_of M p v) (end_of M p v) → (b : ℕ) (z : Schedule) → M.moved_byte π b < b →
      Full M p (v ++ (b ∷ z)) → Smaller M p (v ++ (b ∷ z))
  twin_smaller v π x fix b z h f =
      let r = fixed_alike v π x fix (b ∷ z) f in (
        v ++ moved_schedule M π (b ∷ z),
        r.0,
        less_behind v (moved_schedule M π (b ∷ z)) (b ∷ z) ∙ less_heads (M.moved_byte π b) b (moved_schedule M π z) z h,
        r.1,
      )
