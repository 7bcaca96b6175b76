-- How the count of accesses changes as threads and instructions are added, and that a program has as many as its file.
use Prim.Native.Nat.{ℕ, zero, suc, ◌+◌, ◌<◌}
use native.Mathlib.Omega.{arith}
use mathlib.Core.Path.{◌≡◌, refl, ◌∙◌}
use mathlib.Core.Bool.{cond}
use mathlib.Core.List.{List, [], ◌∷◌, ◌++◌, map}
use lib.ListN.{length, get_or, set}
use Rattle.spec_file.specs.Frames.{is_access, instruction}
use Rattle.spec_file.specs.Decode.{Placed, accesses_in, all_accesses_in}
use Rattle.spec_file.specs.WellFormed.{Everywhere, accesses, all_accesses}
use Rattle.spec_file.proofs.InstructionFrames.{IsInstruction, accesses_cons}

pub accesses_snoc : (xs : List Placed) (x : Placed) → accesses_in (xs ++ (x ∷ [])) ≡ accesses_in xs + cond (is_access x.code) 1 0
unfolding accesses_in
accesses_snoc [] x = omega arith
accesses_snoc (y ∷ ys) x = let ih = accesses_snoc ys x in omega arith

pub all_accesses_open : (cs : List (List Placed)) → all_accesses_in (cs ++ ([] ∷ [])) ≡ all_accesses_in cs
unfolding all_accesses_in accesses_in
all_accesses_open [] = refl
all_accesses_open (c ∷ cs) = let ih = all_accesses_open cs in omega arith

pub all_accesses_set : (cs : List (List Placed)) (i : ℕ) (c : List Placed) → i < length cs
    → all_accesses_in (set cs i c) + accesses_in (get_or cs i []) ≡ all_accesses_in cs + accesses_in c
unfolding all_accesses_in
all_accesses_set [] i c h = absurd (omega arith)
all_accesses_set (b ∷ cs) zero c h = omega arith
all_accesses_set (b ∷ cs) (suc i) c h = let ih = all_accesses_set cs i c (omega arith) in omega arith

-- ---- the program's count
accesses_same : (xs : List Placed) → Everywhere (λ x. IsInstruction x.code) xs → accesses (map (λ x. instruction x.code) xs) ≡ accesses_in xs
unfolding accesses accesses_in
accesses_same [] h = refl
accesses_same (x ∷ xs) h =
    let ih = accesses_same xs h.1 in
    accesses_cons x.code h.0 (map (λ x. instruction x.code) xs) ∙ omega arith

pub all_accesses_same : (cs : List (List Placed)) → Everywhere (Everywhere (λ x. IsInstruction x.code)) cs
    → all_accesses (map (map (λ x. instruction x.code)) cs) ≡ all_accesses_in cs
unfolding all_accesses all_accesses_in
all_accesses_same [] h = refl
all_accesses_same (c ∷ cs) h = let one = accesses_same c h.0 in let ih = all_accesses_same cs h.1 in omega arith
