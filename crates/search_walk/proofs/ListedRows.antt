-- The walk from the start: its first prefix is empty, and what it finds are the listed schedules behind the bound.
use Prim.Native.Nat.{ℕ, ◌/◌, ◌*◌, ◌<◌, ◌≤◌}
use mathlib.Core.Path.{◌≡◌, refl, sym, ap, subst, ◌∙◌}
use mathlib.Core.Bool.{Bool}
use mathlib.Core.List.{List, [], flat_map}
use mathlib.Core.Option.{Option}
use native.Mathlib.Omega.{arith}
use lib.ListN.{length, get_or, take}
use Rattle.spec_file.proofs.Over.{over_nil}
use Rattle.spec_file.specs.Program.{Program}
use Rattle.spec_file.specs.WellFormed.{WellFormed}
use Rattle.file_decoder.specs.Compiled.{program_of}
use Rattle.file_decoder.specs.declared.file.Compiled.{Compiled}
use Rattle.spec_schedules.specs.Order.{Schedule}
use Rattle.spec_schedules.specs.Found.{after}
use Rattle.spec_model.specs.Search.{sought}
use Rattle.spec_sc.specs.Sequential.{sc}
use Rattle.theory_sc.specs.Search.{found_behind, found}
use Rattle.theory_sc.proofs.Search.{found_exactly}
use Rattle.search_place.specs.ClassGroups.{groups_of, Lined}
use Rattle.search_place.proofs.ClassGroups.{program_groups}
use Rattle.listing_cursor.specs.Bounds.{bound_at}
use Rattle.spec_calls.specs.Rows.{rows_of}
use Rattle.listing_cursor.specs.ListRows.{Shown}
use Rattle.search_tail.specs.Walked.{Adds}

-- the classes that name a group are those of the program's threads
pub lines_known : (c : Compiled) (class : List ℕ) → ((t : ℕ) → t < 6 → get_or class t 0 ≤ c.groups) → groups_of class c.groups ≡ groups_of c.class c.groups
    → Lined class c.groups (program_of c)
lines_known c class known same = record { same = program_groups c ∙ sym same; known = known }

-- from the start all is found that is listed behind the bound
behind_none : (p : Program) (failures : Bool) (o : Option Schedule) → WellFormed p → found_behind failures p 0 o [] ≡ after o (sought sc failures p)
unfolding found
behind_none p failures o w = found_exactly p w failures o

pub rooms : (n : ℕ) → (n / 26) * 26 ≤ n
rooms n = omega arith

pub walk_whole : (p : Program) (failures tight : Bool) (bound held out : List ℕ) (r : ℕ) → WellFormed p → (n : ℕ) → 0 ≡ n
    → Adds p (length held / 26) (found_behind failures p n (bound_at tight bound n) []) held 0 out r
    → Shown sc p (take (length held / 26) (after (bound_at tight bound 0) (sought sc failures p))) held out r
unfolding rows_of flat_map
walk_whole p failures tight bound held out r w n e a =
    subst (λ (l : List Schedule). Shown sc p (take (length held / 26) l) held out r)
    (ap (λ (k : ℕ). found_behind failures p k (bound_at tight bound k) []) (sym e) ∙ behind_none p failures (bound_at tight bound 0) w)
    (a.shown [] held (rooms (length held)) (omega arith) (record { counted = refl; text = sym (over_nil held) }))
