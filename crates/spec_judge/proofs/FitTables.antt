-- Whether a thread fits depends only on the places of the accesses that a text can name: a table of 16 places a thread is enough.
use Prim.Native.Nat.{ℕ}
use mathlib.Core.Path.{◌≡◌, sym, ◌∙◌}
use native.Mathlib.Omega.{arith}
use Rattle.spec_file.proofs.Tests.{equal_tests}
use Rattle.spec_sc.specs.State.{Event, State}
use Rattle.spec_sc.specs.Graph.{Graph}
use Rattle.spec_judge.specs.Consistent.{ReadsFrom}
use Rattle.spec_judge.proofs.Walk.{fits}
use Rattle.spec_judge.proofs.Fitting.{FitAt, row_in, fits_is, is_fits}
use Rattle.spec_judge.proofs.Readable.{Named, Readable}

module _ (n : ℕ) (g : Graph) (R : Readable n g) where
  -- what stands in a row can be named
  pub row_named : (pl : Event → ℕ) (x s : Event) → ReadsFrom g x s → Named n x
  row_named pl x s k = (omega (arith, row_in g pl x s k, R.rows), (R.reads x.0 (x.1, s) k).0)

  fit_places : (pl ql : Event → ℕ) → ((e : Event) → Named n e → pl e ≡ ql e) → (σ : State) (t : ℕ) → FitAt g pl σ t → FitAt g ql σ t
  fit_places pl ql same σ t F = record {
    live = F.live;
    reads = λ k. let r = F.reads k in (r.0, sym (same _ (row_named pl _ _ r.0)) ∙ r.1);
    writes = λ k. let r = F.writes k in (r.0, λ x s m q i. r.1 x s m q (same x (row_named pl x s m) ∙ i));
  }

  pub fits_places : (pl ql : Event → ℕ) → ((e : Event) → Named n e → pl e ≡ ql e) → (σ : State) (t : ℕ) → fits g pl σ t ≡ fits g ql σ t
  fits_places pl ql same σ t = equal_tests (fits g pl σ t) (fits g ql σ t)
      (λ h. is_fits g ql σ t (fit_places pl ql same σ t (fits_is g pl σ t h)))
      (λ h. is_fits g pl σ t (fit_places ql pl (λ e k. sym (same e k)) σ t (fits_is g ql σ t h)))
