-- A thread with no access before it does nothing: it reads nothing, writes nothing and stays as it is.
use Prim.Native.Nat.{ℕ}
use mathlib.Core.Path.{◌≡◌, refl, sym, ◌∙◌}
use mathlib.Core.Logic.{◌≢◌}
use mathlib.Core.Bool.{Bool, true, false, true≢false}
use mathlib.Core.Option.{none}
use mathlib.Core.List.{List, [], ◌∷◌}
use Rattle.spec_file.specs.declared.instruction.Instruction.{Instruction}
use Rattle.spec_file.specs.declared.instruction.Instruction.TheVariants.{Memory, Alone}
use Rattle.spec_sc.specs.Local.{Local, begins_with_access, first_takes, first_puts, first_next, pending, takes, puts, next}

idle_at : (h : Local) (is : List Instruction) (x : ℕ) → begins_with_access is ≡ false → (first_next h is x ≡ h) × (first_takes is ≡ false) × (first_puts h.registers is x ≡ none)
unfolding begins_with_access first_takes first_puts first_next
idle_at h [] x e = (refl, refl, refl)
idle_at h (Memory a ∷ is) x e = absurd (true≢false e)
idle_at h (Alone o ∷ is) x e = (refl, refl, refl)

pub record Idle (h : Local) (x : ℕ) : Type 0 where
  pub stays : next h x ≡ h
  pub blind : takes h ≡ false
  pub silent : puts h x ≡ none

pub idle : (h : Local) (x : ℕ) → pending h ≡ false → Idle h x
unfolding pending next takes puts
idle h x e = let r = idle_at h h.rest x e in record { stays = r.0; blind = r.1; silent = r.2 }

-- what reads or writes has an access before it
pub reads_pending : (h : Local) → takes h ≡ true → pending h ≡ true
reads_pending h e = go (pending h) refl
  where
    go : (b : Bool) → pending h ≡ b → pending h ≡ true
    go true q = q
    go false q = absurd (true≢false (sym e ∙ (idle h 0 q).blind))

pub writes_pending : (h : Local) (x : ℕ) → puts h x ≢ none → pending h ≡ true
writes_pending h x n = go (pending h) refl
  where
    go : (b : Bool) → pending h ≡ b → pending h ≡ true
    go true q = q
    go false q = absurd (n (idle h x q).silent)
