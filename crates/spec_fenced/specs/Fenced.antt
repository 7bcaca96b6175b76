-- Conditions on a program's code, each enough for robustness. Fenced: on every path through a thread's code a fetch and add or a compare and
-- swap stands between each store and the next load. Storeless: no thread has a store. Only reads: every access of every thread is a load.
use Rattle.std.specs.Prelude.{ℕ, zero, suc, ◌≡◌, Bool, true, false, not, ◌&&◌, List, [], ◌∷◌}
use Rattle.spec_file.specs.Program.{Program}
use Rattle.spec_file.specs.WellFormed.{Everywhere}
use Rattle.spec_file.specs.declared.instruction.Access.TheVariants.{Store, Load, FetchAdd, CompareSwap}
use Rattle.spec_file.specs.declared.instruction.Own.TheVariants.{Assign, AddAssign, SkipUnless, Assert}
use Rattle.spec_file.specs.declared.instruction.Instruction.{Instruction}
use Rattle.spec_file.specs.declared.instruction.Instruction.TheVariants.{Memory, Alone}

-- whether no path from here on comes from a store to a load without a fetch and add or a compare and swap in between; the number says how
-- many instructions to skip first, the Boolean whether a store may be pending. A skip goes both ways.
unfoldable pub fenced : ℕ → Bool → List Instruction → Bool
fenced k b [] = true
fenced (suc k) b (i ∷ is) = fenced k b is
fenced zero b (Memory (Store l p) ∷ is) = fenced zero true is
fenced zero b (Memory (Load r l) ∷ is) = not b && fenced zero b is
fenced zero b (Memory (FetchAdd r l p) ∷ is) = fenced zero false is
fenced zero b (Memory (CompareSwap r l e v) ∷ is) = fenced zero false is
fenced zero b (Alone (Assign r p) ∷ is) = fenced zero b is
fenced zero b (Alone (AddAssign r p) ∷ is) = fenced zero b is
fenced zero b (Alone (SkipUnless t n) ∷ is) = fenced zero b is && fenced n b is
fenced zero b (Alone (Assert t) ∷ is) = fenced zero b is

-- whether this code has no store, also none that no run does
unfoldable pub storeless : List Instruction → Bool
storeless [] = true
storeless (Memory (Store l p) ∷ is) = false
storeless (Memory (Load r l) ∷ is) = storeless is
storeless (Memory (FetchAdd r l p) ∷ is) = storeless is
storeless (Memory (CompareSwap r l e v) ∷ is) = storeless is
storeless (Alone o ∷ is) = storeless is

-- whether each access of this code is a load
unfoldable pub only_reads : List Instruction → Bool
only_reads [] = true
only_reads (Memory (Store l p) ∷ is) = false
only_reads (Memory (Load r l) ∷ is) = only_reads is
only_reads (Memory (FetchAdd r l p) ∷ is) = false
only_reads (Memory (CompareSwap r l e v) ∷ is) = false
only_reads (Alone o ∷ is) = only_reads is

-- the three conditions of a program: the code of every thread meets them
abbrev pub Fenced : Program → Type 0
Fenced p = Everywhere (λ c. fenced 0 false c ≡ true) p.threads

abbrev pub Storeless : Program → Type 0
Storeless p = Everywhere (λ c. storeless c ≡ true) p.threads

abbrev pub OnlyReads : Program → Type 0
OnlyReads p = Everywhere (λ c. only_reads c ≡ true) p.threads
