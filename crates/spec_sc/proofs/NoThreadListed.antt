-- The list of a program without threads: the empty schedule alone.
use mathlib.Core.Path.{◌≡◌, sym, subst, ◌∙◌}
use mathlib.Core.Bool.{true≢false}
use mathlib.Core.List.Memᴰ
use mathlib.Core.List.{[], ◌∷◌, Memᴰ}
use mathlib.Core.Logic.{⊎_elim}
use Rattle.spec_file.specs.Program.{Program}
use Rattle.spec_schedules.specs.Order.{Schedule, less}
use Rattle.spec_schedules.proofs.Order.{less_nil, less_irreflexive, less_asymmetric}
use Rattle.spec_schedules.proofs.Lists.{ascends_unique}
use Rattle.spec_sc.proofs.NoThread.{none_full, none_only}
use Rattle.spec_model.specs.Alike.{Listed, list_of}
use Rattle.spec_sc.specs.Sequential.{sc}
use Rattle.spec_model.proofs.TheList.{list_exact, list_ascends}
use Rattle.spec_sc.proofs.Laws.{sc_laws}

module _ (p : Program) (none : p.threads ≡ []) where
  pub none_listed : Listed sc p []
  none_listed = (none_full p none, λ b. true≢false (sym b.2 ∙ less_nil b.0))

  -- THE LIST
  pub none_list : list_of sc p ≡ [] ∷ []
  none_list = ascends_unique less less_irreflexive less_asymmetric (list_of sc p) ([] ∷ []) (list_ascends sc sc_laws p) ((λ s m. absurd (Memᴰ.not-nil m)), tt)
      (λ s m. Memᴰ.head (none_only p none s ((list_exact sc sc_laws p s).0 m).0))
      (λ s m. ⊎_elim (λ (e : s ≡ []). subst (λ (z : Schedule). Memᴰ z (list_of sc p)) (sym e) ((list_exact sc sc_laws p []).1 none_listed)) (λ (k : Memᴰ s []). absurd (Memᴰ.not-nil k)) (Memᴰ.cases_cons m))
