-- What the tests of where a thread stands say.
use Prim.Native.Nat.{ℕ}
use mathlib.Core.Path.{◌≡◌, refl, sym}
use mathlib.Core.Bool.{Bool, true, false, not, false≢true}
use lib.Dec.{eqb}
use lib.ListN.{length}
use borrow.Author.Tests.{eqb-true}
use Rattle.spec_file.proofs.DigitValues.{both}
use Rattle.spec_schedules.specs.Lists.{all}
use Rattle.spec_schedules.proofs.Lists.{all_at}
use Rattle.spec_sc.specs.Local.{Local}
use Rattle.spec_sc.specs.State.{Event, Cell, State}
use Rattle.spec_file.specs.Lists.{same_list}
use Rattle.theory_search.specs.Standing.{same_flag, same_local, silent}
use Rattle.spec_file.proofs.Lists.{same_list_is}
use Rattle.spec_sc.proofs.Standing.{mk_local, Silent, not_own}

same_flag_lem : (a b : Bool) → same_flag a b ≡ true → a ≡ b
unfolding same_flag
same_flag_lem true b e = sym e
same_flag_lem false true e = absurd (false≢true e)
same_flag_lem false false e = refl

-- where equally much code is the same code, the test says that two local states are equal
pub same_local_lem : (h k : Local) → (length h.rest ≡ length k.rest → h.rest ≡ k.rest) → same_local h k ≡ true → h ≡ k
unfolding same_local
same_local_lem h k f e =
    let a = both (eqb (length h.rest) (length k.rest)) _ e in
    let b = both (same_list eqb h.registers k.registers) _ a.1 in
    let r1 = same_list_is eqb eqb-true h.registers k.registers b.0 in
    let r2 = f (eqb-true (length h.rest) (length k.rest) a.0) in
    let r3 = same_flag_lem h.failed k.failed b.1 in
    let s : mk_local h.registers h.rest h.failed ≡ mk_local k.registers k.rest k.failed = rw (r1, r2, r3) in
    s

pub silent_true : (σ : State) (u : ℕ) → silent σ u ≡ true → Silent σ u
unfolding silent
silent_true σ u t c m e i = not_own u e (all_at (λ (e : Event). not (eqb e.0 u)) c.writes e (all_at (λ (c : Cell). all (λ (e : Event). not (eqb e.0 u)) c.writes) σ.cells c t m) i)
