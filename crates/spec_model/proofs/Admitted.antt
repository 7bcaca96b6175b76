-- Files that a memory model lists: their programs, and what count and violation say of them.
use Prim.Native.Nat.{ℕ, ◌^◌, ◌%◌}
use mathlib.Core.Path.{◌≡◌, refl, sym, ap, ◌∙◌}
use mathlib.Core.Logic.{◌↔◌}
use mathlib.Core.Option.{Option, none, some}
use mathlib.Core.List.{List}
use native.Mathlib.Omega.{arith}
use lib.ListN.{length}
use Rattle.spec_file.specs.Program.{Program}
use Rattle.spec_file.specs.Decode.{Decoded, accepted, decode}
use Rattle.spec_file.specs.Decode as File
use Rattle.spec_file.proofs.AcceptedWellFormed.{accepted_well_formed}
use Rattle.spec_schedules.specs.Lists.{filter}
use Rattle.spec_model.specs.Model.{Model, failing}
use Rattle.spec_model.specs.Laws.{Admitted, Laws}
use Rattle.spec_model.specs.Alike.{list_of}
use Rattle.spec_model.specs.Answers.{count_of, violation_of}
use Rattle.spec_model.specs.OnFile.{unless, admit, counted, count_on, count_file, violation_on, violation_file}

-- a file that the model lists is accepted, and its program is not turned away
pub admitted : (M : Model) (d : Decoded) (p : Program) → admit M d ≡ accepted p → (d ≡ accepted p) × (M.away p ≡ none)
unfolding admit unless
admitted M (File.refused n k) p e = absurd (let z : ◌≡◌ {A = ℕ} 0 1 = cc in omega arith)
admitted M (accepted q) p e = go (M.away q) refl
  where
    go : (o : Option (ℕ × ℕ)) → M.away q ≡ o → (accepted q ≡ accepted p) × (M.away p ≡ none)
    go none i =
        let k : accepted q ≡ accepted p = sym (ap (unless q) i) ∙ e in
        let j : q ≡ p = cc in
        (k, ap (λ (x : Program). M.away x) (sym j) ∙ i)
    go (some r) i = absurd (let k : File.refused r.0 r.1 ≡ accepted p = sym (ap (unless q) i) ∙ e in let z : ◌≡◌ {A = ℕ} 0 1 = cc in omega arith)

-- what holds of an equal answer
pub same_answer : {A : Type 0} {a b x : A} {Q : Type 0} → a ≡ b → (b ≡ x) ↔ Q → (a ≡ x) ↔ Q
same_answer e h = ((λ i. h.0 (sym e ∙ i)), λ q. e ∙ h.1 q)

module _ (M : Model) (L : Laws M) (file : List ℕ) (p : Program) (e : admit M (decode file) ≡ accepted p) where
  pub listed_program : Admitted M p
  listed_program = let r = admitted M (decode file) p e in (accepted_well_formed file p r.0, r.1)

  pub same_count : count_file M file ≡ counted (record { listed = length (list_of M p) % 2 ^ 64; failed = length (filter (failing M p) (list_of M p)) % 2 ^ 64 })
  unfolding count_on count_of
  same_count = ap (count_on M) e

  pub same_violation : (out : List ℕ) → violation_file M file out ≡ violation_of M p out
  unfolding violation_on
  same_violation out = ap (λ (d : Decoded). violation_on M d out) e
