-- The four functions by which an access is seen, and settling: what the laws above rest on. Beside this file only Ahead and Words go by single
-- instructions.
use Prim.Native.Nat.{ℕ, zero, suc, ◌<◌, ◌≤◌}
use mathlib.Core.Path.{◌≡◌, refl, sym, ap, subst, ◌∙◌}
use mathlib.Core.Logic.{◌⊎◌, inl, inr}
use mathlib.Core.Bool.{true, false, true≢false, false≢true}
use mathlib.Core.Option.{some}
use mathlib.Core.List.{List, [], ◌∷◌, ◌++◌}
use native.Mathlib.Omega.{arith}
use Rattle.spec_file.specs.WellFormed.{Everywhere, AccessInRange, InRange, accesses}
use Rattle.spec_file.specs.declared.instruction.Access.{Access}
use Rattle.spec_file.specs.declared.instruction.Access.TheVariants.{Store, Load, FetchAdd, CompareSwap}
use Rattle.spec_file.specs.declared.instruction.Own.{Own}
use Rattle.spec_file.specs.declared.instruction.Instruction.{Instruction}
use Rattle.spec_file.specs.declared.instruction.Instruction.TheVariants.{Memory, Alone}
use Rattle.spec_sc.specs.Local.{Local, eval, access_place, access_takes, access_puts, access_sets, Outcome, continues, stops, outcome, settle, begins_with_access, first_place, first_takes, first_puts, first_next, pending, place_of, takes, puts, next, begin}
use Rattle.spec_sc.proofs.Suffix.{Suffix, suffix_same, suffix_nil, suffix_cons}

accesses_cons : (i : Instruction) (is : List Instruction) → accesses is ≤ accesses (i ∷ is)
unfolding accesses
accesses_cons (Memory a) is = omega arith
accesses_cons (Alone o) is = omega arith

accesses_back : (f r : List Instruction) → accesses r ≤ accesses (f ++ r)
accesses_back [] r = omega arith
accesses_back (i ∷ f) r = omega (arith, accesses_back f r, accesses_cons i (f ++ r))

-- an end of the code has no more accesses
pub suffix_accesses : (r c : List Instruction) → Suffix r c → accesses r ≤ accesses c
suffix_accesses r c s = rw s.1 (accesses_back s.0 r)

-- a thread between steps stands before an access, or nothing is left of its code
abbrev pub Settled : Local → Type 0
Settled h = (h.rest ≡ []) ⊎ (pending h ≡ true)

-- ---- settling, by what one instruction does
pub settle_continues : (o : Own) (is : List Instruction) (rs ss : List ℕ) (k : ℕ) → outcome rs o ≡ continues ss k → settle 0 rs (Alone o ∷ is) ≡ settle k ss is
unfolding settle
settle_continues o is rs ss k e = rw (e, settle)

pub settle_stops : (o : Own) (is : List Instruction) (rs : List ℕ) → outcome rs o ≡ stops → settle 0 rs (Alone o ∷ is) ≡ record { registers = rs; rest = []; failed = true }
unfolding settle
settle_stops o is rs e = rw (e, settle)

-- what settling leaves of the code is an end of it, and settled
pub settle_law : (is : List Instruction) (k : ℕ) (rs : List ℕ) → Settled (settle k rs is) × Suffix (settle k rs is).rest is
unfolding settle pending begins_with_access
settle_law [] k rs = (inl refl, suffix_same [])
settle_law (i ∷ is) (suc k) rs = let r = settle_law is k rs in (r.0, suffix_cons i r.1)
settle_law (Memory a ∷ is) zero rs = (inr refl, suffix_same (Memory a ∷ is))
settle_law (Alone o ∷ is) zero rs = go (outcome rs o) refl (settle_law is)
  where
    Law : List Instruction → Local → Type 0
    Law c h = Settled h × Suffix h.rest c

    go : (x : Outcome) → outcome rs o ≡ x → ((k : ℕ) (ss : List ℕ) → Law is (settle k ss is)) → Law (Alone o ∷ is) (settle zero rs (Alone o ∷ is))
    go (continues ss k) e ih = let r = ih k ss in subst (Law (Alone o ∷ is)) (sym (settle_continues o is rs ss k e)) (r.0, suffix_cons (Alone o) r.1)
    go stops e ih = subst (Law (Alone o ∷ is)) (sym (settle_stops o is rs e)) (inl refl, suffix_nil (Alone o ∷ is))

-- behind a thread's next access: what is left, which has one access less, and the thread settled within it
pub record Behind (h : Local) (x : ℕ) : Type 0 where
  pub first : Instruction
  pub later : List Instruction
  pub rest : h.rest ≡ first ∷ later
  pub one : accesses (first ∷ later) ≡ suc (accesses later)
  pub settled : Settled (next h x)
  pub within : Suffix (next h x).rest later

behind_at : (h : Local) (x : ℕ) (is : List Instruction) → h.rest ≡ is → begins_with_access is ≡ true → Behind h x
unfolding begins_with_access next first_next accesses
behind_at h x [] e b = absurd (false≢true b)
behind_at h x (Memory a ∷ is) e b =
    let q = settle_law is 0 (access_sets h.registers a x) in
    record { first = Memory a; later = is; rest = e; one = refl; settled = rw e q.0; within = rw e q.1 }
behind_at h x (Alone o ∷ is) e b = absurd (false≢true b)

pub behind : (h : Local) (x : ℕ) → pending h ≡ true → Behind h x
unfolding pending
behind h x b = behind_at h x h.rest refl b

-- each access lowers the number of those left
pub next_fewer : (h : Local) (x : ℕ) → pending h ≡ true → accesses (next h x).rest < accesses h.rest
next_fewer h x b = let q = behind h x b in omega (arith, ap accesses q.rest ∙ q.one, suffix_accesses (next h x).rest q.later q.within)

pub next_suffix : (h : Local) (x : ℕ) → pending h ≡ true → Suffix (next h x).rest h.rest
next_suffix h x b = let q = behind h x b in subst (Suffix (next h x).rest) (sym q.rest) (suffix_cons q.first q.within)

pub begin_law : (c : List Instruction) → Settled (begin c) × Suffix (begin c).rest c
unfolding begin
begin_law c = settle_law c 0 _

-- a thread with nothing left is not pending
pub nothing_pending : (h : Local) → h.rest ≡ [] → pending h ≡ false
unfolding pending begins_with_access
nothing_pending h e = rw e

-- a settled thread that may not step has nothing left
pub settled_ended : (h : Local) → Settled h → pending h ≡ false → h.rest ≡ []
settled_ended h (inl e) b = e
settled_ended h (inr q) b = absurd (true≢false (sym q ∙ b))

-- locations of a code in range are below eight
access_below : (a : Access) → AccessInRange a → access_place a < 8
unfolding access_place
access_below (Store l p) i = i.0
access_below (Load r l) i = i.1
access_below (FetchAdd r l p) i = i.1
access_below (CompareSwap r l e v) i = i.1

place_at : (is : List Instruction) → Everywhere InRange is → first_place is < 8
unfolding first_place
place_at [] i = omega arith
place_at (Memory a ∷ is) i = access_below a i.0
place_at (Alone o ∷ is) i = omega arith

pub place_below : (h : Local) → Everywhere InRange h.rest → place_of h < 8
unfolding place_of
place_below h i = place_at h.rest i

-- an access that does not read always writes, and neither that nor what follows depends on what it finds
access_blind : (a : Access) (rs : List ℕ) (x y : ℕ) → access_takes a ≡ false →
    (access_sets rs a x ≡ access_sets rs a y) × ((v : ℕ) × (access_puts rs a x ≡ some v) × (access_puts rs a y ≡ some v))
unfolding access_takes access_sets access_puts
access_blind (Store l p) rs x y e = (refl, (eval rs p, refl, refl))
access_blind (Load r l) rs x y e = absurd (true≢false e)
access_blind (FetchAdd r l p) rs x y e = absurd (true≢false e)
access_blind (CompareSwap r l c v) rs x y e = absurd (true≢false e)

blind_at : (h : Local) (is : List Instruction) (x y : ℕ) → begins_with_access is ≡ true → first_takes is ≡ false →
    (first_next h is x ≡ first_next h is y) × ((v : ℕ) × (first_puts h.registers is x ≡ some v) × (first_puts h.registers is y ≡ some v))
unfolding begins_with_access first_takes first_next first_puts
blind_at h [] x y b e = absurd (false≢true b)
blind_at h (Memory a ∷ is) x y b e = let q = access_blind a h.registers x y e in (ap (λ (rs : List ℕ). settle 0 rs is) q.0, q.1)
blind_at h (Alone o ∷ is) x y b e = absurd (false≢true b)

pub blind_next : (h : Local) (x y : ℕ) → pending h ≡ true → takes h ≡ false → next h x ≡ next h y
unfolding pending takes next
blind_next h x y b e = (blind_at h h.rest x y b e).0

pub blind_puts : (h : Local) (x y : ℕ) → pending h ≡ true → takes h ≡ false → (v : ℕ) × (puts h x ≡ some v) × (puts h y ≡ some v)
unfolding pending takes puts
blind_puts h x y b e = (blind_at h h.rest x y b e).1
