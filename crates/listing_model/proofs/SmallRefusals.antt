-- What a call says before the list's own answers is small, in both memory models: at most 48 steps, and refusals that fit a word.
use Prim.Native.Nat.{ℕ, ◌^◌, ◌<◌, ◌≤◌}
use mathlib.Core.Path.{◌≡◌, refl, sym, ap, ◌∙◌}
use mathlib.Core.Bool.{Bool, true, false}
use mathlib.Core.List.{List}
use native.Mathlib.Omega.{arith}
use lib.Dec.{ltb}
use borrow.Author.Tests.{ltb-true, ltb-false}
use Rattle.spec_file.specs.Program.{Program}
use Rattle.spec_file.specs.WellFormed.{all_accesses}
use Rattle.spec_file.specs.Decode.{Decoded, accepted, refused, decode}
use Rattle.spec_model.specs.OnFile.{admit}
use Rattle.spec_sc.proofs.Admits.{sc_admits}
use Rattle.spec_tso.specs.TotalStoreOrder.{tso}
use Rattle.spec_tso.proofs.Admits.{refused_41, admitted_16, refused_first}
use Rattle.spec_calls.proofs.Refusals.{refusal_fits}
use Rattle.listing_model.specs.declared.memory.Model.{Model}
use Rattle.listing_model.specs.declared.memory.Model.TheVariants.{Sequential, TotalStoreOrder}
use Rattle.listing_model.specs.ModelOf.{model_of}

-- a schedule has at most 48 steps in both
pub steps_48 : (m : Model) → (model_of m).steps ≤ 48
steps_48 Sequential = omega arith
steps_48 TotalStoreOrder = omega arith

-- a refusal before the list's own: the program's, or 41 at place 0
pub refused_small : (m : Model) (file : List ℕ) (n k : ℕ) → admit (model_of m) (decode file) ≡ refused n k → (n < 256) × (k < 2 ^ 48)
refused_small Sequential file n k e = refusal_fits file n k (sym (sc_admits (decode file)) ∙ e)
refused_small TotalStoreOrder file n k e = go (decode file) refl
  where
    away : (p : Program) → decode file ≡ accepted p → (b : Bool) → ltb 16 (all_accesses p.threads) ≡ b → (n < 256) × (k < 2 ^ 48)
    away p q true h = let r : refused 41 0 ≡ refused n k = sym (refused_41 p (ltb-true 16 (all_accesses p.threads) h)) ∙ ap (admit tso) (sym q) ∙ e in
        let i : n ≡ 41 = cc in
        let j : k ≡ 0 = cc in
        (omega (arith, i), omega (arith, j))
    away p q false h = absurd (let r : accepted p ≡ refused n k = sym (admitted_16 p (ltb-false 16 (all_accesses p.threads) h)) ∙ ap (admit tso) (sym q) ∙ e in let z : ◌≡◌ {A = ℕ} 0 1 = cc in omega arith)

    go : (d : Decoded) → decode file ≡ d → (n < 256) × (k < 2 ^ 48)
    go (accepted p) q = away p q (ltb 16 (all_accesses p.threads)) refl
    go (refused i j) q = refusal_fits file n k (q ∙ sym (refused_first i j) ∙ ap (admit tso) (sym q) ∙ e)
